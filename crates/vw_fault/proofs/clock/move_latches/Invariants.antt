-- the words of the latches so far, and how many latches and words are left
use Rattle.std.proofs.Common.{◌≡◌, ◌+◌, ◌++◌, ℕ, length, take, drop, map, slice_index_or}
use Rattle.vw_net.specs.Cells.{latch_count, latch_inputs}
use Rattle.vw_fault.proofs.clock.move_latches.Given as goal

abbrev pub invariant-loop-cell : goal.invariant-loop-cell
invariant-loop-cell l =
    let value = λ (net : ℕ). slice_index_or l.words net 0 in
    (length l.state ≡ latch_count l.cell-items) × (l.latch + latch_count (drop l.cell-index l.cell-items) ≡ latch_count l.cell-items)
    × (take l.latch l.state ++ map value (latch_inputs (drop l.cell-index l.cell-items)) ≡ map value (latch_inputs l.cell-items))
