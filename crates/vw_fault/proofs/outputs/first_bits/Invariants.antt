-- the bits so far
use Rattle.std.proofs.Common.{◌≡◌, ℕ, false, length, take, map, slice_index_or}
use Rattle.vw_fault.specs.Steps.Lanes.{lane_bits}
use Rattle.vw_fault.proofs.outputs.first_bits.Given as goal

abbrev pub invariant-loop-place : goal.invariant-loop-place
invariant-loop-place l = record { size : length l.bits ≡ length l.nets; front : take l.place l.bits ≡ map (λ (net : ℕ). slice_index_or (lane_bits 0 l.words) net false) (take l.place l.nets) }
