-- Lists that grow at their ends.
use Rattle.std.proofs.Common.{◌≡◌, ℕ, List, [], ◌∷◌, ◌++◌, length, length-append, Some, slice_get, reverse, ⊎_elim, refl, sym, ◌∙◌, ap, subst, arith}
use Rattle.std.proofs.lemmas.List.{reverse-append}
use Rattle.std.proofs.lemmas.Option.{none-some}
use Rattle.vw_design.proofs.ListPlaces.{in_front, behind, or_last}
use Rattle.vw_instances.specs.Tables.{AreNumbered}

module _ {A : Type 0} where
  -- the last one first
  pub last_first : (xs : List A) (last : A) → reverse (xs ++ (last ∷ [])) ≡ last ∷ reverse xs
  last_first xs last = reverse-append xs (last ∷ [])

  pub two_last_first : (xs : List A) (one other : A) → reverse (xs ++ (one ∷ other ∷ [])) ≡ other ∷ one ∷ reverse xs
  two_last_first xs one other = reverse-append xs (one ∷ other ∷ [])

module _ {A B : Type 0} where
  pub none_numbered : (R : ℕ → A → B → Type 0) → AreNumbered R [] []
  none_numbered R = record { same_length = refl; each = λ number x at. absurd (none-some x at) }

  pub more_numbered : (R S : ℕ → A → B → Type 0) → ((number : ℕ) (x : A) (y : B) → R number x y → S number x y) → (xs : List A) (ys : List B) (x : A) (y : B) → AreNumbered R xs ys
      → S (length xs) x y → AreNumbered S (xs ++ (x ∷ [])) (ys ++ (y ∷ []))
  more_numbered R S gives xs ys x y are here = record {
    same_length = omega (arith, are.same_length, length-append xs (x ∷ []), length-append ys (y ∷ []));
    each = λ number z at. ⊎_elim (λ found. old number z (are.each number z found)) (λ last. new number z last.0 last.1) (or_last xs x z number at);
  } where
    old : (number : ℕ) (z : A) → (w : B) × (slice_get ys number ≡ Some w) × R number z w → (w : B) × (slice_get (ys ++ (y ∷ [])) number ≡ Some w) × S number z w
    old number z found = (found.0, in_front ys (y ∷ []) number found.0 found.1, gives number z found.0 found.2)

    new : (number : ℕ) (z : A) → number ≡ length xs → x ≡ z → (w : B) × (slice_get (ys ++ (y ∷ [])) number ≡ Some w) × S number z w
    new number z is same = (
      y,
      ap (slice_get (ys ++ (y ∷ []))) (is ∙ are.same_length) ∙ behind ys (y ∷ []),
      subst (λ (v : A). S number v y) same (subst (λ (n : ℕ). S n x y) (sym is) here),
    )
