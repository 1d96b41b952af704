-- Values of lists that are gathered from numbers and from numbered elements, of which none stands twice: each number or
-- element has its own.
use Rattle.std.proofs.Common.{◌≡◌, ◌<◌, ◌+◌, ◌++◌, ◌∙◌, ℕ, zero, suc, Bool, true, false, cond, List, [], ◌∷◌, map, slice_get, Some, ap, refl, sym, subst, arith}
use Rattle.std.proofs.lemmas.List.{map-append}
use Rattle.vw_net.specs.Gathered.{gather, listed}
use Rattle.vw_net.proofs.ListedLists.{StandsIn, from_gather, from_listed}
use Rattle.vw_design.proofs.DistinctNames.{AreOnce, once_append}
use Rattle.vw_design.proofs.ListElements.{Has, at-Has, from-map}

module _ {X Y : Type 0} (f : X → Y) where
  -- an element of which a value is
  pub from_values : (z : Y) (xs : List X) → Has z (map f xs) → (u : X) × StandsIn u xs × (f u ≡ z)
  from_values z xs has = let from = from-map f z xs has in (from.0, at-Has from.0 xs from.1, from.2)

  -- of two lists that have no common value
  pub once_both : (xs ys : List X) → AreOnce (map f xs) → AreOnce (map f ys) → ((u v : X) → StandsIn u xs → StandsIn v ys → f u ≡ f v → ⊥)
      → AreOnce (map f (xs ++ ys))
  once_both xs ys one other apart =
      subst AreOnce (sym (map-append f xs ys)) (once_append (map f xs) (map f ys) one other (λ z here there.
      let first = from_values z xs here in
      let second = from_values z ys there in
      apart first.0 second.0 first.1 second.1 (first.2 ∙ sym second.2)))

  -- of a list that is there by a test
  pub once_when : (test : Bool) (xs : List X) → (test ≡ true → AreOnce (map f xs)) → AreOnce (map f (cond test xs []))
  once_when true xs once = once refl
  once_when false xs once = tt

  -- of numbers
  pub once_gather : (key : Y → ℕ) (each : ℕ → List X) (count : ℕ) → ((k : ℕ) → k < count → AreOnce (map f (each k)))
      → ((k : ℕ) (u : X) → StandsIn u (each k) → key (f u) ≡ k) → AreOnce (map f (gather each count))
  once_gather key each zero once keyed = tt
  once_gather key each (suc count) once keyed =
      once_both (gather each count) (each count) (once_gather key each count (λ k below. once k (omega (arith, below))) keyed) (once count (omega arith)) (λ u v here there same.
      let given = from_gather u each count here in
      let below = given.below in
      let first = keyed given.number u given.stands in
      let second = keyed count v there in
      let equal = ap key same in
      omega (arith, first, second, equal, below))

  module _ {A : Type 0} where
    -- of elements
    pub once_listed : (key : Y → ℕ) (each : ℕ → A → List X) (number : ℕ) (xs : List A)
        → ((place : ℕ) (x : A) → slice_get xs place ≡ Some x → AreOnce (map f (each (number + place) x)))
        → ((k : ℕ) (x : A) (u : X) → StandsIn u (each k x) → key (f u) ≡ k) → AreOnce (map f (listed each number xs))
    once_listed key each number [] once keyed = tt
    once_listed key each number (x ∷ xs) once keyed =
        let zero_on : number + 0 ≡ number = omega arith in
        once_both (each number x) (listed each (suc number) xs) (subst (λ (k : ℕ). AreOnce (map f (each k x))) zero_on (once 0 x refl))
        (once_listed key each (suc number) xs (λ place y at. let next : number + suc place ≡ suc number + place = omega arith in subst (λ (k : ℕ). AreOnce (map f (each k y))) next (once (suc place) y at)) keyed)
        (λ u v here there same.
        let by = from_listed v each (suc number) xs there in
        let first = keyed number x u here in
        let second = keyed (suc number + by.place) by.item v by.stands in
        let equal = ap key same in
        omega (arith, first, second, equal))

    -- of elements of which one alone has any
    pub once_alone : (each : ℕ → A → List X) (number : ℕ) (xs : List A)
        → ((place : ℕ) (x : A) → slice_get xs place ≡ Some x → AreOnce (map f (each (number + place) x)))
        → ((i j : ℕ) (x y : A) (u v : X) → slice_get xs i ≡ Some x → slice_get xs j ≡ Some y → StandsIn u (each (number + i) x) → StandsIn v (each (number + j) y) → i ≡ j)
        → AreOnce (map f (listed each number xs))
    once_alone each number [] once alone = tt
    once_alone each number (x ∷ xs) once alone =
        let zero_on : number + 0 ≡ number = omega arith in
        once_both (each number x) (listed each (suc number) xs) (subst (λ (k : ℕ). AreOnce (map f (each k x))) zero_on (once 0 x refl))
        (once_alone each (suc number) xs (λ place y at. let next : number + suc place ≡ suc number + place = omega arith in subst (λ (k : ℕ). AreOnce (map f (each k y))) next (once (suc place) y at))
        (λ i j y z u v at_i at_j here there.
        let one : suc number + i ≡ number + suc i = omega arith in
        let two : suc number + j ≡ number + suc j = omega arith in
        let same = alone (suc i) (suc j) y z u v at_i at_j (subst (λ (k : ℕ). StandsIn u (each k y)) one here) (subst (λ (k : ℕ). StandsIn v (each k z)) two there) in
        omega (arith, same)))
        (λ u v here there same.
        let by = from_listed v each (suc number) xs there in
        let one : suc number + by.place ≡ number + suc by.place = omega arith in
        let equal = alone 0 (suc by.place) x by.item u v refl by.at (subst (λ (k : ℕ). StandsIn u (each k x)) (sym zero_on) here) (subst (λ (k : ℕ). StandsIn v (each k by.item)) one by.stands) in
        omega (arith, equal))
