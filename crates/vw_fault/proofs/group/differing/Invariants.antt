-- the outputs so far, and what is left of them, decide
use Rattle.std.proofs.Common.{◌≡◌, ◌<◌, ◌||◌, ℕ, false, drop, map, slice_index_or}
use Rattle.vw_net.specs.TruthTable.{bit_of}
use Rattle.vw_fault.specs.Steps.Lanes.{lane_bits}
use Rattle.vw_fault.specs.Stuck.{bits_differ}
use Rattle.vw_fault.proofs.group.differing.Given as goal

abbrev pub invariant-loop-place : goal.invariant-loop-place
invariant-loop-place l =
    (lane : ℕ) → lane < 64
    → (bit_of l.seen lane || bits_differ (map (λ net. slice_index_or (lane_bits lane l.words) net false) (drop l.place l.outputs)) (drop l.place l.plain))
    ≡ (bit_of l.initial.seen lane || bits_differ (map (λ net. slice_index_or (lane_bits lane l.words) net false) l.outputs) l.plain)
