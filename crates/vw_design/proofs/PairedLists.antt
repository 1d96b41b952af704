-- Lists that go along with each other.
use Rattle.std.proofs.Common.{◌≡◌, ◌<◌, ◌+◌, ℕ, zero, suc, List, [], ◌∷◌, ◌++◌, length, map, take, get_or, Some, slice_get, refl, sym, ◌∙◌, ap, subst, arith}
use Rattle.std.specs.List.{AllZip}
use Rattle.std.proofs.lemmas.List.{take_more}
use Rattle.std.proofs.lemmas.Option.{same_Some, none-some}

module _ {A B : Type 0} where
  -- what goes along with an element of the first
  pub AllZip-at : (R : A → B → Type 0) (xs : List A) (ys : List B) (k : ℕ) (x : A) → AllZip R xs ys → slice_get xs k ≡ Some x
      → (y : B) × (slice_get ys k ≡ Some y) × R x y
  AllZip-at R [] ys k x along at = absurd (none-some x at)
  AllZip-at R (first ∷ xs) [] k x along at = absurd along
  AllZip-at R (first ∷ xs) (y ∷ ys) zero x along at = (y, refl, subst (λ (z : A). R z y) (same_Some first x at) along.0)
  AllZip-at R (first ∷ xs) (y ∷ ys) (suc k) x along at = AllZip-at R xs ys k x along.1 at

  pub AllZip-length : (R : A → B → Type 0) (xs : List A) (ys : List B) → AllZip R xs ys → length xs ≡ length ys
  AllZip-length R [] [] along = refl
  AllZip-length R [] (y ∷ ys) along = absurd along
  AllZip-length R (x ∷ xs) [] along = absurd along
  AllZip-length R (x ∷ xs) (y ∷ ys) along = ap suc (AllZip-length R xs ys along.1)

  -- and with one of the second
  pub AllZip-back : (R : A → B → Type 0) (xs : List A) (ys : List B) (k : ℕ) (y : B) → AllZip R xs ys → slice_get ys k ≡ Some y
      → (x : A) × (slice_get xs k ≡ Some x) × R x y
  AllZip-back R [] [] k y along at = absurd (none-some y at)
  AllZip-back R [] (first ∷ ys) k y along at = absurd along
  AllZip-back R (x ∷ xs) [] k y along at = absurd along
  AllZip-back R (x ∷ xs) (first ∷ ys) zero y along at = (x, refl, subst (λ (z : B). R x z) (same_Some first y at) along.0)
  AllZip-back R (x ∷ xs) (first ∷ ys) (suc k) y along at = AllZip-back R xs ys k y along.1 at

  -- from place to place
  pub AllZip-each : (R : A → B → Type 0) (xs : List A) (ys : List B) → length xs ≡ length ys
      → ((k : ℕ) (x : A) (y : B) → slice_get xs k ≡ Some x → slice_get ys k ≡ Some y → R x y) → AllZip R xs ys
  AllZip-each R [] [] long each = tt
  AllZip-each R [] (y ∷ ys) long each = absurd (omega arith)
  AllZip-each R (x ∷ xs) [] long each = absurd (omega arith)
  AllZip-each R (x ∷ xs) (y ∷ ys) long each = (each 0 x y refl refl, AllZip-each R xs ys (omega arith) (λ k a b at_a at_b. each (suc k) a b at_a at_b))

  -- of values
  pub AllZip-values : (R : A → B → Type 0) (value : A → B) (xs : List A) → ((x : A) → R x (value x)) → AllZip R xs (map value xs)
  AllZip-values R value [] each = tt
  AllZip-values R value (x ∷ xs) each = (each x, AllZip-values R value xs each)

  -- by a wider relation
  pub AllZip-wider : (R S : A → B → Type 0) → ((x : A) (y : B) → R x y → S x y) → (xs : List A) (ys : List B) → AllZip R xs ys → AllZip S xs ys
  AllZip-wider R S gives [] [] along = tt
  AllZip-wider R S gives [] (y ∷ ys) along = absurd along
  AllZip-wider R S gives (x ∷ xs) [] along = absurd along
  AllZip-wider R S gives (x ∷ xs) (y ∷ ys) along = (gives x y along.0, AllZip-wider R S gives xs ys along.1)

  -- with one more at the end of each
  pub AllZip-push : (R : A → B → Type 0) (xs : List A) (ys : List B) (x : A) (y : B) → AllZip R xs ys → R x y → AllZip R (xs ++ (x ∷ [])) (ys ++ (y ∷ []))
  AllZip-push R [] [] x y along here = (here, tt)
  AllZip-push R [] (z ∷ ys) x y along here = absurd along
  AllZip-push R (w ∷ xs) [] x y along here = absurd along
  AllZip-push R (w ∷ xs) (z ∷ ys) x y along here = (along.0, AllZip-push R xs ys x y along.1 here)

-- lists that go along with each other, one behind the other
pub AllZip-append : {A B : Type 0} (R : A → B → Type 0) (xs more : List A) (ys others : List B) → AllZip R xs ys → AllZip R more others
    → AllZip R (xs ++ more) (ys ++ others)
AllZip-append R [] more [] others along rest = rest
AllZip-append R [] more (y ∷ ys) others along rest = absurd along
AllZip-append R (x ∷ xs) more [] others along rest = absurd along
AllZip-append R (x ∷ xs) more (y ∷ ys) others along rest = (along.0, AllZip-append R xs more ys others along.1 rest)

-- one more of the first goes along
pub AllZip-take_more : {A B : Type 0} (R : A → B → Type 0) (xs : List A) (i : ℕ) (x : A) → i < length xs → x ≡ get_or xs i x → (ys : List B)
    → AllZip R (take i xs) ys → (y : B) → R x y → (new : List B) → new ≡ ys ++ y ∷ []
    → AllZip R (take (i + 1) xs) new
AllZip-take_more {A} {B} R xs i x within at ys along y here new is =
    subst (λ (l : List B). AllZip R (take (i + 1) xs) l) (sym is)
    (subst (λ (l : List A). AllZip R l (ys ++ y ∷ [])) (sym (take_more xs i x within ∙ ap (λ (z : A). take i xs ++ z ∷ []) (sym at))) (AllZip-append R (take i xs) (x ∷ []) ys (y ∷ []) along (here, tt)))

-- what is made of each
pub AllZip-maps : {A B : Type 0} (R : A → A → Type 0) (S : B → B → Type 0) (value : A → B) (xs ys : List A)
    → ((x y : A) → R x y → S (value x) (value y)) → AllZip R xs ys → AllZip S (map value xs) (map value ys)
AllZip-maps R S value [] [] each along = tt
AllZip-maps R S value [] (y ∷ ys) each along = absurd along
AllZip-maps R S value (x ∷ xs) [] each along = absurd along
AllZip-maps R S value (x ∷ xs) (y ∷ ys) each along = (each x y along.0, AllZip-maps R S value xs ys each along.1)
