-- What is taken stays taken.
use Rattle.std.proofs.Common.{◌≡◌, ◌==◌, ◌&&◌, ◌∷◌, [], ◌++◌, ◌||◌, ℕ, Bool, true, List, ◌∙◌, ap}
use Rattle.std.specs.List.{list_any}
use Rattle.std.proofs.lemmas.List.Folds.{list_any-append}
use Rattle.vw_slots.specs.declared.slot.Slot.{Slot}
use Rattle.vw_slots.specs.declared.slot.Taken.{Taken}
use Rattle.vw_slots.specs.Slots.{Slots, is_pin_taken, IsFull, with_slot}

-- a taken pin stays taken where more slots are
pub taken_stays : (taken more : List Taken) (link pin at : ℕ) → is_pin_taken taken link pin at ≡ true → is_pin_taken (taken ++ more) link pin at ≡ true
taken_stays taken more link pin at is =
    let is_it = λ (slot : Taken). (slot.link == link && slot.at == at) && slot.pin == pin in
    list_any-append is_it taken more ∙ ap (λ (b : Bool). b || list_any is_it more) is

-- a full microcycle stays full
pub full_stays : (slots : Slots) (one : ℕ) (slot : Slot) (link at : ℕ) → IsFull slots link at → IsFull (with_slot slots one slot) link at
full_stays slots one slot link at full pin below =
    let more : Taken = record { link = one; pin = slot.pin; at = slot.at } in
    taken_stays slots.taken (more ∷ []) link pin at (full pin below)
