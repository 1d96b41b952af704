use Rattle.std.proofs.Common.{◌≡◌, ◌≤◌, ◌-◌, ℕ}
use Rattle.std.specs.HashMap.{spare}
use Rattle.vw_slots.specs.Steps.PinUses.{used_at, IsChained}
use Rattle.vw_slots.proofs.pin_use.shorten.Given as goal

-- as many pins are taken as before
abbrev pub invariant-loop-at : goal.invariant-loop-at
invariant-loop-at l = record {
  in_time : l.from ≤ l.at;
  used : (one other : ℕ) → used_at l.pin_uses one other ≡ used_at l.initial.pin_uses one other;
  chained : IsChained l.widths l.pin_uses;
  spare : spare l.pin_uses ≡ spare l.initial.pin_uses;
}

abbrev pub decreases-loop-at : goal.decreases-loop-at
decreases-loop-at l = l.to - l.at
