-- Elements of lists by their numbers.
use Rattle.std.proofs.Common.{◌≡◌, ◌≢◌, ◌<◌, ◌⊎◌, inl, inr, ⊎_elim, ℕ, zero, suc, List, [], ◌∷◌, ◌++◌, length, Some, None, slice_get, slice_set, slice_index_or, refl, sym, ◌∙◌, ap, subst, arith}
use Rattle.std.proofs.lemmas.Bool.{cases_lt}
use Rattle.std.proofs.lemmas.List.{get_or_past}
use Rattle.std.proofs.lemmas.Option.{none-some, same_Some, slice_get-get_or}

module _ {A : Type 0} where
  -- an element of a front, the first one behind it, and the last one
  pub in_front : (xs ys : List A) (k : ℕ) (x : A) → slice_get xs k ≡ Some x → slice_get (xs ++ ys) k ≡ Some x
  in_front [] ys k x at = absurd (none-some x at)
  in_front (first ∷ xs) ys zero x at = at
  in_front (first ∷ xs) ys (suc k) x at = in_front xs ys k x at

  pub behind : (xs ys : List A) → slice_get (xs ++ ys) (length xs) ≡ slice_get ys 0
  behind [] ys = refl
  behind (first ∷ xs) ys = behind xs ys

  pub at_end : (xs : List A) (x : A) (k : ℕ) → length xs ≡ k → slice_get (xs ++ (x ∷ [])) k ≡ Some x
  at_end xs x k long = subst (λ (n : ℕ). slice_get (xs ++ (x ∷ [])) n ≡ Some x) long (behind xs (x ∷ []))

  pub same_front : (xs ys : List A) (k : ℕ) → k < length xs → slice_get (xs ++ ys) k ≡ slice_get xs k
  same_front [] ys k within = absurd (omega arith)
  same_front (x ∷ xs) ys zero within = refl
  same_front (x ∷ xs) ys (suc k) within = same_front xs ys k (omega arith)

  -- each number below the length has an element
  pub at_within : (xs : List A) (k : ℕ) → k < length xs → (x : A) × (slice_get xs k ≡ Some x)
  at_within [] k within = absurd (omega arith)
  at_within (x ∷ xs) zero within = (x, refl)
  at_within (x ∷ xs) (suc k) within = at_within xs k (omega arith)

  pub none_at_place : (xs : List A) (k : ℕ) → k < length xs → slice_get xs k ≡ None → ⊥
  none_at_place [] k within is = omega arith
  none_at_place (x ∷ xs) zero within is = none-some x (sym is)
  none_at_place (x ∷ xs) (suc k) within is = none_at_place xs k (omega arith) is

  -- an element of a list with one more
  pub or_last : (xs : List A) (last x : A) (k : ℕ) → slice_get (xs ++ (last ∷ [])) k ≡ Some x → (slice_get xs k ≡ Some x) ⊎ ((k ≡ length xs) × (last ≡ x))
  or_last [] last x zero at = inr (refl, same_Some last x at)
  or_last [] last x (suc k) at = absurd (none-some x at)
  or_last (first ∷ xs) last x zero at = inl at
  or_last (first ∷ xs) last x (suc k) at = ⊎_elim (λ found. inl found) (λ there. inr (ap suc there.0, there.1)) (or_last xs last x k at)

  -- an element that was set, and the others
  pub set_here : (xs : List A) (k : ℕ) (x : A) → k < length xs → slice_get (slice_set xs k x) k ≡ Some x
  set_here [] k x within = absurd (omega arith)
  set_here (y ∷ xs) zero x within = refl
  set_here (y ∷ xs) (suc k) x within = set_here xs k x (omega arith)

  pub set_elsewhere : (xs : List A) (k j : ℕ) (x : A) → j ≢ k → slice_get (slice_set xs k x) j ≡ slice_get xs j
  set_elsewhere [] k j x apart = refl
  set_elsewhere (y ∷ xs) zero zero x apart = absurd (apart refl)
  set_elsewhere (y ∷ xs) zero (suc j) x apart = refl
  set_elsewhere (y ∷ xs) (suc k) zero x apart = refl
  set_elsewhere (y ∷ xs) (suc k) (suc j) x apart = set_elsewhere xs k j x (λ same. apart (ap suc same))

-- the list at a place of lists, where it has an element
pub list_at : {A : Type 0} → (lists : List (List A)) (k place : ℕ) (x : A) → slice_get (slice_index_or lists k []) place ≡ Some x
    → slice_get lists k ≡ Some (slice_index_or lists k [])
list_at {A = A} lists k place x at = ⊎_elim
    (λ within. slice_get-get_or lists k [] within)
    (λ past. absurd (none-some x (sym (ap (λ (l : List A). slice_get l place) (get_or_past lists k [] past)) ∙ at)))
    (cases_lt k (length lists))
