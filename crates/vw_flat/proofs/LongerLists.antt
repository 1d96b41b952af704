-- Lists with one element more.
use Rattle.std.proofs.Common.{◌≡◌, ◌+◌, ℕ, zero, suc, List, [], ◌∷◌, ◌++◌, take, map, Some, slice_get, sym, ◌∙◌, ap, ap₂, subst, arith}
use Rattle.std.specs.List.{All, AllZip}
use Rattle.std.proofs.lemmas.List.{map-append}
use Rattle.std.proofs.lemmas.List.Elements.{All-append}
use Rattle.std.proofs.lemmas.Option.{none-some, same_Some}

-- a front with one element more
take_suc : {A : Type 0} → (xs : List A) (k : ℕ) (x : A) → slice_get xs k ≡ Some x → take (suc k) xs ≡ take k xs ++ x ∷ []
take_suc [] k x is = absurd (none-some x is)
take_suc (y ∷ xs) zero x is = ap (λ z. z ∷ []) (same_Some y x is)
take_suc (y ∷ xs) (suc k) x is = ap (λ zs. y ∷ zs) (take_suc xs k x is)

pub take_more : {A : Type 0} → (xs : List A) (k : ℕ) (x : A) → slice_get xs k ≡ Some x → take (k + 1) xs ≡ take k xs ++ x ∷ []
take_more xs k x is = let next : k + 1 ≡ suc k = omega arith in ap (λ n. take n xs) next ∙ take_suc xs k x is

-- elements with something that holds
pub all_more : {A : Type 0} → (P : A → Type 0) (xs more : List A) (x : A) → All P xs → P x → more ≡ xs ++ x ∷ [] → All P more
all_more {A} P xs more x all here is = subst (All P) (sym is) (All-append P xs (x ∷ []) all one) where
  one : All P (x ∷ [])
  one zero d within = here
  one (suc k) d within = absurd (omega (arith, within))

-- values of two lists that go along
pub maps_more : {A B C : Type 0} → (f : A → C) (g : B → C) (xs : List A) (front more : List B) (k : ℕ) (x : A) (y : B) → slice_get xs k ≡ Some x → f x ≡ g y
    → map f (take k xs) ≡ map g front → more ≡ front ++ y ∷ [] → map f (take (k + 1) xs) ≡ map g more
maps_more f g xs front more k x y at same along is =
    ap (map f) (take_more xs k x at) ∙ map-append f (take k xs) (x ∷ []) ∙ ap₂ (λ zs z. zs ++ z ∷ []) along same ∙ sym (map-append g front (y ∷ [])) ∙ ap (map g) (sym is)

-- elements of two lists that are related
pub zip_more : {A B : Type 0} → (R : A → B → Type 0) (xs : List A) (front more : List B) (k : ℕ) (x : A) (y : B) → slice_get xs k ≡ Some x → R x y
    → AllZip R (take k xs) front → more ≡ front ++ y ∷ [] → AllZip R (take (k + 1) xs) more
zip_more {A} {B} R xs front more k x y at here along is = subst (AllZip R (take (k + 1) xs)) (sym is) (subst (λ zs. AllZip R zs (front ++ y ∷ [])) (sym (take_more xs k x at)) (pushed (take k xs) front along)) where
  pushed : (us : List A) (vs : List B) → AllZip R us vs → AllZip R (us ++ x ∷ []) (vs ++ y ∷ [])
  pushed [] [] all = (here, tt)
  pushed [] (v ∷ vs) all = absurd all
  pushed (u ∷ us) [] all = absurd all
  pushed (u ∷ us) (v ∷ vs) all = (all.0, pushed us vs all.1)
