-- Lists by their elements.
use Rattle.std.proofs.Common.{◌≡◌, ◌<◌, ◌∷◌, ℕ, suc, List, [], length, get_or, ap₂, refl, arith}

-- lists with the same elements
pub same_lists : {A : Type 0} (xs ys : List A) (default : A) → length xs ≡ length ys → ((place : ℕ) → place < length xs → get_or xs place default ≡ get_or ys place default) → xs ≡ ys
same_lists [] [] default long each = refl
same_lists [] (y ∷ ys) default long each = absurd (omega (arith, long))
same_lists (x ∷ xs) [] default long each = absurd (omega (arith, long))
same_lists (x ∷ xs) (y ∷ ys) default long each = ap₂ (λ (first : _) (rest : List _). first ∷ rest) (each 0 (omega arith)) (same_lists xs ys default (omega (arith, long)) (λ place below. each (suc place) (omega (arith, below))))
