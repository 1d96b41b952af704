-- Searches step by step.
use Rattle.std.proofs.Common.{◌≡◌, ◌<◌, ◌+◌, ℕ, Bool, true, false, cond, List, [], ◌∷◌, ◌++◌, drop, length, map, filter_map, get_or, Option, Some, None, find, option_map, append_assoc, refl, sym, ◌∙◌, ap}
use Rattle.std.specs.List.{cons_option}
use Rattle.std.proofs.lemmas.List.{drop_more}

module _ {A : Type 0} (test : A → Bool) (xs : List A) (i : ℕ) (x : A) (within : i < length xs) (at : x ≡ get_or xs i x) where
  step : find test (drop i xs) ≡ cond (test x) (Some x) (find test (drop (i + 1) xs))
  step = ap (find test) (drop_more xs i x within ∙ ap (λ (y : A). y ∷ drop (i + 1) xs) (sym at))

  -- an element that doesn't pass is passed over, and one that passes is found
  pub find_next : test x ≡ false → find test (drop i xs) ≡ find test xs → find test (drop (i + 1) xs) ≡ find test xs
  find_next fails far = sym (step ∙ ap (λ (b : Bool). cond b (Some x) (find test (drop (i + 1) xs))) fails) ∙ far

  pub find_now : test x ≡ true → find test (drop i xs) ≡ find test xs → Some x ≡ find test xs
  find_now passes far = sym (step ∙ ap (λ (b : Bool). cond b (Some x) (find test (drop (i + 1) xs))) passes) ∙ far

-- the same where what is found is gathered
module _ {A B : Type 0} (f : A → Option B) (xs : List A) (i : ℕ) (x : A) (within : i < length xs) (at : x ≡ get_or xs i x) (gathered whole : List B) (so_far : gathered ++ filter_map f (drop i xs) ≡ whole) where
  here : gathered ++ cons_option (f x) (filter_map f (drop (i + 1) xs)) ≡ whole
  here = ap (λ (left : List A). gathered ++ filter_map f left) (sym (drop_more xs i x within ∙ ap (λ (y : A). y ∷ drop (i + 1) xs) (sym at))) ∙ so_far

  pub gather_none : None ≡ f x → gathered ++ filter_map f (drop (i + 1) xs) ≡ whole
  gather_none none = ap (λ (found : Option B). gathered ++ cons_option found (filter_map f (drop (i + 1) xs))) none ∙ here

  pub gather_one : (y : B) → Some y ≡ f x → (further : List B) → further ≡ gathered ++ y ∷ [] → further ++ filter_map f (drop (i + 1) xs) ≡ whole
  gather_one y one further more =
      ap (λ (list : List B). list ++ filter_map f (drop (i + 1) xs)) more
      ∙ append_assoc gathered (y ∷ []) (filter_map f (drop (i + 1) xs))
      ∙ ap (λ (found : Option B). gathered ++ cons_option found (filter_map f (drop (i + 1) xs))) one ∙ here

pub find_map : {A B : Type 0} (f : A → B) (test : B → Bool) (xs : List A) → find test (map f xs) ≡ option_map f (find (λ x. test (f x)) xs)
find_map f test [] = refl
find_map {A} f test (x ∷ xs) = by (test (f x)) (find_map f test xs) where
  by : (b : Bool) → find test (map f xs) ≡ option_map f (find (λ (y : A). test (f y)) xs)
      → cond b (Some (f x)) (find test (map f xs)) ≡ option_map f (cond b (Some x) (find (λ (y : A). test (f y)) xs))
  by true rest = refl
  by false rest = rest
