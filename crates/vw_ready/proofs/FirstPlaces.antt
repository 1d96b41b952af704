-- What stands at the first place of a pair.
use Rattle.std.proofs.Common.{◌≡◌, ◌<◌, ◌≤◌, ◌+◌, ◌-◌, ℕ, suc, Bool, true, false, List, [], ◌∷◌, length, map, slice_get, Option, Some, None, refl, subst, sym, arith}
use Rattle.std.specs.List.{find}
use Rattle.std.specs.Option.{option_or}
use Rattle.std.specs.HashMap.{HashMap}
use Rattle.vw_net.specs.FirstFound.{found_if}
use Rattle.vw_ready.specs.Pairs.{first_pair, is_number_pair, pair_in, HasPairs}

-- the number of a place, where they are numbered from a number on, leads to the first that passes a test
abbrev LeadsFrom : {X : Type 0} → (X → Bool) → ℕ → List X → Option ℕ → Type 0
LeadsFrom test from xs None = find test xs ≡ None
LeadsFrom test from xs (Some place) = (from ≤ place) × (place < from + length xs) × (slice_get xs (place - from) ≡ find test xs)

module _ {X : Type 0} (pair_of : X → ℕ × ℕ) (test : X → Bool) (one other : ℕ) (same : (x : X) → test x ≡ is_number_pair one other (pair_of x)) where
  leads_one : (from : ℕ) (x : X) (xs : List X) (here : Bool) → test x ≡ here → (rest : Option ℕ) → LeadsFrom test (suc from) xs rest → LeadsFrom test from (x ∷ xs) (option_or (found_if here from) rest)
  leads_one from x xs true is rest leads =
      let none : from - from ≡ 0 = omega arith in
      (omega arith, omega arith, rw (none, is) refl)
  leads_one from x xs false is None leads = rw is leads
  leads_one from x xs false is (Some place) leads =
      let later : place - from ≡ suc (place - suc from) = omega arith in
      (omega arith, omega arith, rw (later, is) leads.2)

  leads_from : (from : ℕ) (xs : List X) → LeadsFrom test from xs (first_pair from (map pair_of xs) one other)
  leads_from from [] = refl
  leads_from from (x ∷ xs) = subst (λ (here : Bool). LeadsFrom test from (x ∷ xs) (option_or (found_if here from) (first_pair (suc from) (map pair_of xs) one other))) (same x) (leads_one from x xs (test x) refl (first_pair (suc from) (map pair_of xs) one other) (leads_from (suc from) xs))

-- the number of a place leads to the first that passes a test
abbrev pub LeadsTo : {X : Type 0} → (X → Bool) → List X → Option ℕ → Type 0
LeadsTo test xs None = find test xs ≡ None
LeadsTo test xs (Some place) = (place < length xs) × (slice_get xs place ≡ find test xs)

from_zero : {X : Type 0} (test : X → Bool) (xs : List X) (found : Option ℕ) → LeadsFrom test 0 xs found → LeadsTo test xs found
from_zero test xs None leads = leads
from_zero test xs (Some place) leads =
    let same : place - 0 ≡ place = omega arith in
    (omega arith, rw same at leads.2)

-- the first place of a pair of a list
pub first_leads : {X : Type 0} (pair_of : X → ℕ × ℕ) (test : X → Bool) (one other : ℕ) (same : (x : X) → test x ≡ is_number_pair one other (pair_of x)) (xs : List X) → LeadsTo test xs (first_pair 0 (map pair_of xs) one other)
first_leads pair_of test one other same xs = from_zero test xs (first_pair 0 (map pair_of xs) one other) (leads_from pair_of test one other same 0 xs)

-- what a table of the pairs of a list finds
pub leads : {X S : Type 0} (pair_of : X → ℕ × ℕ) (test : X → Bool) (one other : ℕ) (same : (x : X) → test x ≡ is_number_pair one other (pair_of x)) (xs : List X) (table : HashMap (ℕ × ℕ) ℕ S) → HasPairs (map pair_of xs) table → LeadsTo test xs (pair_in table one other)
leads pair_of test one other same xs table has = subst (LeadsTo test xs) (sym (has one other)) (first_leads pair_of test one other same xs)
