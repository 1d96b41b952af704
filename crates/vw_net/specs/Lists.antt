-- The greatest of some numbers, and lists that go round.
use Rattle.std.specs.Prelude.{ℕ, List, [], ◌∷◌, ◌++◌, max}

-- the greatest of some numbers; 0 where there is none
abbrev pub greatest : List ℕ → ℕ
greatest [] = 0
greatest (number ∷ numbers) = max number (greatest numbers)

-- the list from its second element on, and then the first: what comes next behind each element of a circle
abbrev pub turned : {A : Type 0} → List A → List A
turned [] = []
turned (x ∷ xs) = xs ++ x ∷ []
