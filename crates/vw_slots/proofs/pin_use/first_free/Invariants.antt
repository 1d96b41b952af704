use Rattle.std.proofs.Common.{◌≡◌, ◌≤◌, ◌-◌, ◌^◌, slice_index}
use Rattle.vw_slots.specs.Steps.PinUses.{AreBusy}
use Rattle.vw_slots.proofs.pin_use.first_free.Given as goal

-- all so far are full
abbrev pub invariant-loop-pin_use : goal.invariant-loop-pin_use
invariant-loop-pin_use l = record {
  in_time : l.not_before ≤ l.at;
  busy : AreBusy l.widths l.pin_uses l.link l.not_before l.at;
  width : l.width ≡ slice_index l.widths l.link;
}

-- the microcycles are later and later
abbrev pub decreases-loop-pin_use : goal.decreases-loop-pin_use
decreases-loop-pin_use l = 2 ^ 64 - l.at
