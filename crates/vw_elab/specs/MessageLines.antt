-- The forms of messages on designs.
use Rattle.std.specs.Prelude.{ℕ, List, [], ◌∷◌, ◌++◌, codes, flat_map}
use Rattle.std.specs.Fmt.{decimal}

-- a fault at a line: its number, the line, what is wrong, and a name
abbrev pub at_line_of_name : ℕ → ℕ → List ℕ → List ℕ → List ℕ
at_line_of_name fault line what name = codes "design " ++ decimal fault ++ codes ": line " ++ decimal line ++ codes ": " ++ what ++ name ++ 10 ∷ []

-- a fault of a net, and one of two names
abbrev pub of_net : ℕ → List ℕ → List ℕ → List ℕ
of_net fault what net = codes "design " ++ decimal fault ++ codes ": " ++ what ++ net ++ 10 ∷ []

abbrev pub of_pair : ℕ → List ℕ → List ℕ → List ℕ → List ℕ
of_pair fault what first other = codes "design " ++ decimal fault ++ codes ": " ++ what ++ first ++ 32 ∷ other ++ 10 ∷ []

-- each name behind a blank
abbrev pub spaced : List (List ℕ) → List ℕ
spaced names = flat_map (λ name. 32 ∷ name) names
