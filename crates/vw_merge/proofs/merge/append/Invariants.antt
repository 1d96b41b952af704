-- the cells so far, and those that are left
use Rattle.std.proofs.Common.{◌≡◌, ◌++◌}
use Rattle.vw_merge.proofs.merge.append.Given as goal

abbrev pub invariant-loop-cell : goal.invariant-loop-cell
invariant-loop-cell l = l.cells.items ++ l.cell-iterator.rest.items ≡ l.fn.cells.items ++ l.fn.more.items
