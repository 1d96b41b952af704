-- The steps of a way.
use Rattle.std.proofs.Common.{◌≡◌, ℕ, suc, List, [], ◌∷◌, length, refl, ap}
use Rattle.vw_plan.specs.Routes.{steps_of}

-- there is one for each further node
pub steps_long : (first : ℕ) (further : List ℕ) → length (steps_of (first ∷ further)) ≡ length further
steps_long first [] = refl
steps_long first (next ∷ further) = ap suc (steps_long next further)
