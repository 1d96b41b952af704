-- Bits as numbers, lists that go round, and numbers of which none stands twice.
use Rattle.std.proofs.Common.{◌≡◌, ◌≤◌, ℕ, Bool, true, false, List, [], ◌∷◌, map, eqb, refl, arith}
use Rattle.std.specs.List.{AllByRecursion, list_any, IsDistinct}
use Rattle.std.proofs.lemmas.Bool.{or_parts}
use Rattle.std.proofs.lemmas.List.{map-append}
use Rattle.vw_net.specs.Lists.{turned}
use Rattle.vw_net.specs.Steps.Bits.{one_if}

pub one_if-le : (bit : Bool) → one_if bit ≤ 1
one_if-le true = omega arith
one_if-le false = omega arith

-- the values of a list that goes round
pub map_turned : {A B : Type 0} → (f : A → B) (xs : List A) → map f (turned xs) ≡ turned (map f xs)
map_turned f [] = refl
map_turned f (x ∷ xs) = map-append f xs (x ∷ [])

-- what isn't among numbers differs from each of them
pub differs : (number : ℕ) (numbers : List ℕ) → list_any (eqb number) numbers ≡ false → AllByRecursion (λ other. eqb number other ≡ false) numbers
differs number [] none = tt
differs number (other ∷ numbers) none = let parts = or_parts (eqb number other) (list_any (eqb number) numbers) none in (parts.0, differs number numbers parts.1)

pub once_none : IsDistinct eqb []
unfolding IsDistinct
once_none = tt
