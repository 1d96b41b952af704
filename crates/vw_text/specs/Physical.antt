-- The physical lines of a text. Source: the Berkeley description of BLIF; what byte 10 at the very end means is this
-- project's choice.
use Rattle.std.specs.Prelude.{ℕ, List, [], ◌∷◌, ◌++◌, if◌then◌else◌, ◌==◌}
use Rattle.std.specs.List.{onto_first, flat_map}

-- a line ends at byte 10 or at the end of the text, and byte 10 at the very end begins no further line
abbrev pub text_lines : List ℕ → List (List ℕ)
text_lines [] = []
text_lines (b ∷ bs) = if b == 10 then [] ∷ text_lines bs else onto_first b (text_lines bs)

-- lines one after the other, each with byte 10 at its end
abbrev pub lines_text : List (List ℕ) → List ℕ
lines_text lines = flat_map (λ line. line ++ 10 ∷ []) lines

-- the text with byte 10 at its end, where it has bytes and the last of them is another
abbrev pub ended : List ℕ → List ℕ
ended [] = []
ended (b ∷ []) = if b == 10 then b ∷ [] else b ∷ 10 ∷ []
ended (b ∷ c ∷ bs) = b ∷ ended (c ∷ bs)
