-- latches in the place of those so far
use Rattle.std.proofs.Common.{take}
use Rattle.vw_merge.specs.Merging.{AreLatchesOf}
use Rattle.vw_merge.proofs.merge.new_latches.Given as goal

abbrev pub invariant-loop-cell : goal.invariant-loop-cell
invariant-loop-cell l = AreLatchesOf (take l.cell-index l.cells) l.to l.latches.items
