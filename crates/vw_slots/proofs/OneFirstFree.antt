-- A link has one first free slot.
use Rattle.std.proofs.Common.{◌≡◌, ◌<◌, ◌≤◌, ℕ, ⊎_elim, ◌∙◌, ap, sym}
use Rattle.std.proofs.Math.Nat.{le_antisymm}
use Rattle.std.proofs.lemmas.Bool.{cases_lt}
use Rattle.vw_slots.specs.declared.slot.Slot.{Slot}
use Rattle.vw_slots.specs.Slots.{Slots, is_pin_taken, IsFirstFree}

module _ (slots : Slots) (link not_before : ℕ) where
  -- an earlier slot would be of a full microcycle
  no_earlier : (one other : Slot) → IsFirstFree slots link not_before one → IsFirstFree slots link not_before other → other.at ≤ one.at
  no_earlier one other is are = ⊎_elim if_earlier (λ later. later) (cases_lt one.at other.at) where
    if_earlier : one.at < other.at → other.at ≤ one.at
    if_earlier earlier = absurd (is.free (are.full_before one.at is.in_time earlier one.pin is.within))

  -- a lower pin would be taken
  no_lower : (one other : Slot) → one.at ≡ other.at → IsFirstFree slots link not_before one → IsFirstFree slots link not_before other
      → other.pin ≤ one.pin
  no_lower one other same is are = ⊎_elim if_lower (λ higher. higher) (cases_lt one.pin other.pin) where
    if_lower : one.pin < other.pin → other.pin ≤ one.pin
    if_lower lower = absurd (is.free (ap (λ (at : ℕ). is_pin_taken slots.taken link one.pin at) same ∙ are.taken_below one.pin lower))

  pub first_free_once : (one other : Slot) → IsFirstFree slots link not_before one → IsFirstFree slots link not_before other → one ≡ other
  first_free_once one other is are =
      let at : one.at ≡ other.at = le_antisymm (no_earlier other one are is) (no_earlier one other is are) in
      let pin : one.pin ≡ other.pin = le_antisymm (no_lower other one (sym at) are is) (no_lower one other at is are) in
      λ i. record { pin = pin i; at = at i }
