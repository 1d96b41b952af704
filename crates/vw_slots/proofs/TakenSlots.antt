-- Taken slots and their numbers.
use Rattle.std.proofs.Common.{◌≡◌, ◌<◌, ◌≤◌, ◌+◌, ◌==◌, ◌&&◌, ◌||◌, ℕ, zero, suc, Bool, true, false, not, cond, nat_lt, List, [], ◌∷◌, ◌++◌, length, if◌then◌else◌, refl, ◌∙◌, ap, sym, ⊎_elim, arith}
use Rattle.std.specs.List.{list_any}
use Rattle.std.proofs.Math.Bool.{or-false}
use Rattle.std.proofs.lemmas.Bool.{and_parts, or_cases, false≢true}
use Rattle.std.proofs.lemmas.List.Folds.{list_any-append}
use Rattle.std.proofs.lemmas.Bool.Decides.{nat_tests}
use Rattle.vw_net.specs.Steps.Bits.{one_if}
use Rattle.vw_net.proofs.Lists.{one_if-le}
use Rattle.vw_slots.specs.declared.slot.Taken.{Taken}
use Rattle.vw_slots.specs.Slots.{is_pin_taken}

-- how many of the slots pass a test
abbrev slots_passing : (Taken → Bool) → List Taken → ℕ
slots_passing test [] = 0
slots_passing test (slot ∷ taken) = one_if (test slot) + slots_passing test taken

number-le : (test : Taken → Bool) (taken : List Taken) → slots_passing test taken ≤ length taken
number-le test [] = omega arith
number-le test (slot ∷ taken) = omega (arith, one_if-le (test slot), number-le test taken)

-- where a slot passes one test at most of two, and then a third one, that many pass the third one
number-add : (one other both : Taken → Bool) → ((slot : Taken) → one_if (one slot) + one_if (other slot) ≤ one_if (both slot)) → (taken : List Taken)
    → slots_passing one taken + slots_passing other taken ≤ slots_passing both taken
number-add one other both apart [] = omega arith
number-add one other both apart (slot ∷ taken) = omega (arith, apart slot, number-add one other both apart taken)

number-some : (one other : Taken → Bool) → ((slot : Taken) → one slot ≡ true → other slot ≡ true) → (taken : List Taken) → list_any one taken ≡ true
    → 1 ≤ slots_passing other taken
number-some one other follows [] some = absurd (false≢true some)
number-some one other follows (slot ∷ taken) some =
    let if_later = λ (is : list_any one taken ≡ true). later (number-some one other follows taken is) in
    ⊎_elim here if_later (or_cases (one slot) (list_any one taken) some) where
      here : one slot ≡ true → 1 ≤ slots_passing other (slot ∷ taken)
      here is = omega (arith, ap one_if (follows slot is))

      later : 1 ≤ slots_passing other taken → 1 ≤ slots_passing other (slot ∷ taken)
      later some_later = omega (arith, some_later)

-- whether a microcycle is one of so many, from one on
abbrev is_within : ℕ → ℕ → ℕ → Bool
is_within from count at = not (nat_lt at from) && nat_lt at (from + count)

within_more : (from count at : ℕ) → one_if (is_within from count at) + one_if (at == from + count) ≤ one_if (is_within from (suc count) at)
within_more from count at = grind (arith, nat_tests)

-- pigeonhole: as many slots are taken as there are microcycles in which one is
module _ (taken : List Taken) (link from : ℕ) where
  -- the first pin of the link is taken in each of so many microcycles
  abbrev FirstPinTaken : ℕ → Type 0
  FirstPinTaken count = (at : ℕ) → from ≤ at → at < from + count → is_pin_taken taken link 0 at ≡ true

  -- how many slots are taken in these microcycles
  abbrev slots_within : ℕ → ℕ
  slots_within count = slots_passing (λ slot. is_within from count slot.at) taken

  one_at : (at : ℕ) → is_pin_taken taken link 0 at ≡ true → 1 ≤ slots_passing (λ slot. slot.at == at) taken
  one_at at is_taken = number-some is_it (λ slot. slot.at == at) its_microcycle taken is_taken where
    is_it : Taken → Bool
    is_it slot = (slot.link == link && slot.at == at) && slot.pin == 0

    its_microcycle : (slot : Taken) → is_it slot ≡ true → (slot.at == at) ≡ true
    its_microcycle slot is = (and_parts (slot.link == link) (slot.at == at) (and_parts (slot.link == link && slot.at == at) (slot.pin == 0) is).0).1

  one_more : (count : ℕ) → slots_within count + slots_passing (λ slot. slot.at == from + count) taken ≤ slots_within (suc count)
  one_more count =
      let in_more = λ (slot : Taken). is_within from (suc count) slot.at in
      number-add (λ slot. is_within from count slot.at) (λ slot. slot.at == from + count) in_more (λ slot. within_more from count slot.at) taken

  as_many : (count : ℕ) → FirstPinTaken count → count ≤ slots_within count
  as_many zero all = omega arith
  as_many (suc count) all =
      let before : count ≤ slots_within count = as_many count (λ at past early. all at past (omega arith)) in
      omega (arith, before, one_at (from + count) (all (from + count) (omega arith) (omega arith)), one_more count)

  pub as_many_taken : (count : ℕ) → FirstPinTaken count → count ≤ length taken
  as_many_taken count all = omega (arith, as_many count all, number-le (λ slot. is_within from count slot.at) taken)

-- the next pin is taken, and those below it are
one_pin_more : (b : Bool) (mine others pin : ℕ) (was : Bool) → was ≡ nat_lt pin others → (b ≡ true → mine ≡ others)
    → (was || (b && mine == pin)) ≡ nat_lt pin (cond b (mine + 1) others)
one_pin_more false mine others pin was is same = or-false was ∙ is
one_pin_more true mine others pin was is same = let equal : mine ≡ others = same refl in rw is (rw (sym equal) (pin_more mine pin)) where
  pin_more : (mine pin : ℕ) → (nat_lt pin mine || mine == pin) ≡ nat_lt pin (mine + 1)
  pin_more mine pin = grind (arith, nat_tests)

-- a slot more is taken
module _ (taken : List Taken) (slot : Taken) (link pin at others : ℕ) where
  pub taken_more : is_pin_taken taken link pin at ≡ nat_lt pin others → (slot.link == link && slot.at == at ≡ true → slot.pin ≡ others)
      → is_pin_taken (taken ++ slot ∷ []) link pin at ≡ nat_lt pin (if slot.link == link && slot.at == at then slot.pin + 1 else others)
  taken_more is same =
      list_any-append (λ s. (s.link == link && s.at == at) && s.pin == pin) taken (slot ∷ [])
      ∙ ap (λ (b : Bool). is_pin_taken taken link pin at || b) (or-false ((slot.link == link && slot.at == at) && slot.pin == pin))
      ∙ one_pin_more (slot.link == link && slot.at == at) slot.pin others pin (is_pin_taken taken link pin at) is same
