-- what was added, and what is left; no net is past all of them
use Rattle.std.proofs.Common.{◌≡◌, ◌≤◌, ◌+◌, ◌++◌, drop}
use Rattle.vw_merge.specs.Merging.{latch_starts}
use Rattle.vw_merge.proofs.merging.add_latch_nets.Given as goal

abbrev pub invariant-loop-cell : goal.invariant-loop-cell
invariant-loop-cell l = record {
  next : l.next ≤ l.flat.inputs + l.cell-index;
  nets : l.to.items ++ latch_starts l.next (drop l.cell-index l.cell-items) ≡ l.initial.to.items ++ latch_starts l.flat.inputs l.cell-items;
}
