-- What a table of slots keeps, given the capacity of its list of taken slots. Source: this project.
use Rattle.std.specs.Prelude.{◌≡◌, ◌≤◌, ◌+◌, ℕ, List, length, slice_index, nat_lt}
use Rattle.std.specs.HashMap as hash
use Rattle.vw_slots.specs.declared.slot.Taken.{Taken}
use Rattle.vw_slots.specs.Slots.{is_pin_taken}
use Rattle.vw_slots.specs.Steps.PinUses.{PinUses, used_at, AreWide, IsChained}

pub record IsPinUseTable (widths : List ℕ) (taken : List Taken) (capacity : ℕ) (pin_uses : PinUses) (spare : ℕ) : Type 0 where
  pub wide : AreWide widths
  pub chained : IsChained widths pin_uses
  -- the pins fill from the least on
  pub used : (link pin at : ℕ) → is_pin_taken taken link pin at ≡ nat_lt pin (used_at pin_uses link at)
  pub within : (link at : ℕ) → used_at pin_uses link at ≤ slice_index widths link
  -- each further slot lists one microcycle more at most
  pub places : spare ≤ hash.spare pin_uses
  pub room : length taken + spare ≤ capacity
