-- A list by its elements.
use Rattle.std.specs.Prelude.{ℕ, zero, suc, List, [], ◌∷◌, ◌++◌}

-- the elements at the numbers below a count
abbrev pub tabulate : {A : Type 0} → (ℕ → A) → ℕ → List A
tabulate each zero = []
tabulate each (suc count) = tabulate each count ++ each count ∷ []
