-- The slots of a board's links: a slot is a pin of a link in one microcycle. Source: the Virtual Wires papers, in which
-- the wires of a design share the pins of a chip by microcycles.
use Rattle.std.specs.Prelude.{◌≤◌, ◌<◌, ◌-◌, ◌==◌, ◌&&◌, ℕ, Bool, List, [], ◌∷◌, ◌++◌, map, slice_index, IsTrue}
use Rattle.std.specs.List.{list_any}
use Rattle.vw_plan.specs.declared.board.Board.{Board}
use Rattle.vw_slots.specs.declared.slot.Slot.{Slot}
use Rattle.vw_slots.specs.declared.slot.Taken.{Taken}

-- the number of pins of each link, the slots that are taken, in the order in which they were taken, and how many more
-- there is room for
pub record Slots : Type 0 where
  pub widths : List ℕ
  pub taken : List Taken
  pub spare : ℕ

-- no slot of a board is taken
abbrev pub no_slots : Board → Slots
no_slots board = record { widths = map (λ link. link.width) board.links; taken = []; spare = 0 }

-- whether a pin of a link is taken in a microcycle
abbrev pub is_pin_taken : List Taken → ℕ → ℕ → ℕ → Bool
is_pin_taken taken link pin at = list_any (λ slot. (slot.link == link && slot.at == at) && slot.pin == pin) taken

-- every pin of a link is taken in a microcycle
abbrev pub IsFull : Slots → ℕ → ℕ → Type 0
IsFull slots link at = (pin : ℕ) → pin < slice_index slots.widths link → IsTrue (is_pin_taken slots.taken link pin at)

-- a slot of a link is free, in the least microcycle, not before a given one, in which a pin is free, and there it is the
-- least free pin
pub record IsFirstFree (slots : Slots) (link not_before : ℕ) (slot : Slot) : Type 0 where
  pub in_time : not_before ≤ slot.at
  pub within : slot.pin < slice_index slots.widths link
  pub free : ¬ (IsTrue (is_pin_taken slots.taken link slot.pin slot.at))
  pub full_before : (at : ℕ) → not_before ≤ at → at < slot.at → IsFull slots link at
  pub taken_below : (pin : ℕ) → pin < slot.pin → IsTrue (is_pin_taken slots.taken link pin slot.at)

-- one more slot of a link is taken
abbrev pub with_slot : Slots → ℕ → Slot → Slots
with_slot slots link slot = record { widths = slots.widths; taken = slots.taken ++ record { link = link; pin = slot.pin; at = slot.at } ∷ []; spare = slots.spare - 1 }
