-- what is found of the inputs so far
use Rattle.std.proofs.Common.{◌≡◌, ◌<◌, ℕ, false, length, slice_index_or}
use Rattle.vw_fault.specs.Steps.Lanes.{find_in, lane_bits}
use Rattle.vw_fault.proofs.clock.put_inputs.Given as goal

abbrev pub invariant-loop-net : goal.invariant-loop-net
invariant-loop-net l = record {
  nets : length l.words ≡ length l.initial.words;
  inputs : (lane : ℕ) → lane < 64 → (net : ℕ) → net < l.net
      → slice_index_or (lane_bits lane l.words) net false ≡ find_in l.stuck lane net (slice_index_or l.row net false);
}
