-- The form of a message on a line of a design text.
use Rattle.std.specs.Prelude.{ℕ, List, [], ◌∷◌, ◌++◌, codes}
use Rattle.std.specs.Fmt.{decimal}

-- the number of a fault, its line, and what is wrong
abbrev pub at_line : ℕ → ℕ → List ℕ → List ℕ
at_line fault line what = codes "design " ++ decimal fault ++ codes ": line " ++ decimal line ++ codes ": " ++ what ++ 10 ∷ []
