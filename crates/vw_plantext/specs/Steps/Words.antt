-- Words and numbers of a line of a plan text.
use Rattle.std.specs.Prelude.{◌==◌, ℕ, List, [], ◌∷◌, Option, Some, None, option_map, if◌then◌else◌}
use Rattle.std.specs.List.{slice_split}
use Rattle.std.specs.Str.{bytes_eq}
use Rattle.vw_text.specs.Number.{spelled_number}

-- a line cut at each space
abbrev pub words_between_spaces : List ℕ → List (List ℕ)
words_between_spaces line = slice_split (λ b. b == 32) line

-- the words behind the first, where something stands behind it
abbrev pub words_behind : Option (List ℕ) → List (List ℕ)
words_behind None = []
words_behind (Some rest) = words_between_spaces rest

-- a number before others, where all are there
abbrev pub with_next_number : Option ℕ → Option (List ℕ) → Option (List ℕ)
with_next_number None numbers = None
with_next_number (Some number) numbers = option_map (λ more. number ∷ more) numbers

-- the numbers that words spell, where each spells one
abbrev pub numbers_of : List (List ℕ) → Option (List ℕ)
numbers_of [] = Some []
numbers_of (word ∷ words) = with_next_number (spelled_number word) (numbers_of words)

-- the numbers behind the first of some words, where it is this one
abbrev pub numbers_behind : List ℕ → List (List ℕ) → Option (List ℕ)
numbers_behind word [] = None
numbers_behind word (first ∷ words) = if bytes_eq first word then numbers_of words else None

-- the numbers of a line behind a word
abbrev pub line_numbers : List ℕ → List ℕ → Option (List ℕ)
line_numbers word line = numbers_behind word (words_between_spaces line)
