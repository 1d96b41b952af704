-- A list in order, by a test of which of two elements comes before the other.
use Rattle.std.specs.Prelude.{Bool, List, [], ◌∷◌, if◌then◌else◌}

-- an element put into a list, behind all that come before it
abbrev pub put : {X : Type 0} → (X → X → Bool) → X → List X → List X
put before x [] = x ∷ []
put before x (y ∷ ys) = if before y x then y ∷ put before x ys else x ∷ y ∷ ys

-- the elements of a list in order
abbrev pub sorted : {X : Type 0} → (X → X → Bool) → List X → List X
sorted before [] = []
sorted before (x ∷ xs) = put before x (sorted before xs)
