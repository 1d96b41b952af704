-- the faults so far are in their lanes, and nothing is in further ones
use Rattle.std.proofs.Common.{◌≡◌, ◌<◌, ◌≤◌, ℕ, Bool, length, slice_get, Some}
use Rattle.vw_fault.specs.declared.open.Open.{Open}
use Rattle.vw_fault.specs.Steps.Lanes.{find_in}
use Rattle.vw_fault.specs.Stuck.{find_stuck}
use Rattle.vw_fault.proofs.stuck.Stuck.of.Given as goal

abbrev pub invariant-loop-lane : goal.invariant-loop-lane
invariant-loop-lane l = record {
  kept : length l.stuck.kept ≡ l.nets;
  forced : length l.stuck.forced ≡ l.nets;
  put : (lane : ℕ) (fault : Open) → lane < l.lane → slice_get l.faults lane ≡ Some fault → (net : ℕ) (bit : Bool)
      → find_in l.stuck lane net bit ≡ find_stuck fault net bit;
  plain : (lane : ℕ) → lane < 64 → l.lane ≤ lane → (net : ℕ) (bit : Bool) → find_in l.stuck lane net bit ≡ bit;
}
