-- the latches so far, and those that are left
use Rattle.std.proofs.Common.{◌≡◌, ◌≤◌, ◌+◌, drop}
use Rattle.vw_net.specs.Cells.{latch_count}
use Rattle.vw_top.proofs.latches.latch_count.Given as goal

abbrev pub invariant-loop-cell : goal.invariant-loop-cell
invariant-loop-cell l = (l.count + latch_count (drop l.cell-index l.cells) ≡ latch_count l.cells) × (l.count ≤ l.cell-index)
