-- What printers append. Source: this project.
use Rattle.std.specs.Prelude.{ℕ, Bool, List, [], ◌∷◌, ◌++◌, map, codes, if◌then◌else◌}

-- a line with its end
abbrev pub with_newline : List ℕ → List ℕ
with_newline line = line ++ 10 ∷ []

-- one character for each bit; a list without bits is written `-`
abbrev pub bits_text : List Bool → List ℕ
bits_text [] = codes "-"
bits_text (bit ∷ bits) = map (λ b. if b then 49 else 48) (bit ∷ bits)
