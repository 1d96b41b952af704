-- the bits so far
use Rattle.std.proofs.Common.{◌≡◌, ◌<◌, ℕ, length, take}
use Rattle.vw_fault.specs.Steps.Lanes.{lane_bits}
use Rattle.vw_fault.proofs.group.state_words.Given as goal

abbrev pub invariant-loop-place : goal.invariant-loop-place
invariant-loop-place l = record {
  size : length l.words ≡ length l.bits-2;
  bits : (lane : ℕ) → lane < 64 → take l.place (lane_bits lane l.words) ≡ take l.place l.bits-2;
}
