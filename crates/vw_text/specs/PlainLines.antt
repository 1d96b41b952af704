-- The plain way to write lines of words.
use Rattle.std.specs.Prelude.{ℕ, ◌+◌, Bool, ◌||◌, ◌&&◌, not, List, [], ◌∷◌, ◌++◌, ◌==◌, IsTrue}
use Rattle.std.specs.List.{list_any, list_all, flat_map, join_with_byte}
use Rattle.vw_text.specs.declared.line.Line.{Line}
use Rattle.vw_text.specs.Bare.{is_blank}
use Rattle.vw_text.specs.WordLines.{is_empty}

-- a byte that a plain word doesn't have: a blank, the end of a line, `#` or `\`
abbrev pub is_special : ℕ → Bool
is_special b = is_blank b || (b == 10 || (b == 35 || b == 92))

-- a word with bytes, none of them special
abbrev pub is_plain : List ℕ → Bool
is_plain word = not (is_empty word) && not (list_any is_special word)

-- a line with words, all of them plain
abbrev pub IsPlainLine : List (List ℕ) → Type 0
IsPlainLine words = IsTrue (not (is_empty words) && list_all is_plain words)

-- lines with one space between words, each ended by byte 10
abbrev pub plain_text : List (List (List ℕ)) → List ℕ
plain_text lines = flat_map (λ words. join_with_byte 32 words ++ 10 ∷ []) lines

-- lines numbered from a number on
abbrev pub numbered_lines : ℕ → List (List (List ℕ)) → List Line
numbered_lines number [] = []
numbered_lines number (words ∷ lines) = record { number = number; words = words } ∷ numbered_lines (number + 1) lines
