-- A physical line without its comment and without the blanks at its end. Source: the Berkeley description of BLIF for
-- the comment; the order of the steps and the list of blanks are this project's choice.
use Rattle.std.specs.Prelude.{ℕ, ◌-◌, Bool, ◌||◌, ◌==◌, List, length, take}
use Rattle.std.specs.List.{before_first, suffix_len}

-- tabs and feeds, the return, and the space
abbrev pub is_blank : ℕ → Bool
is_blank b = b == 9 || (b == 11 || (b == 12 || (b == 13 || b == 32)))

-- a `#` begins a comment to the end of the line, also inside a word
abbrev pub without_comment : List ℕ → List ℕ
without_comment line = before_first (λ b. b == 35) line

-- the line without the blanks at its end
abbrev pub trimmed : List ℕ → List ℕ
trimmed line = take (length line - suffix_len is_blank line) line

-- a line without its comment and without blanks at its ends
abbrev pub bare : List ℕ → List ℕ
bare line = trimmed (without_comment line)
