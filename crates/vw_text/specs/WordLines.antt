-- The word lines of a text: its logical lines as words, without those that have none.
use Rattle.std.specs.Prelude.{ℕ, Bool, not, List, map, filter, length, ◌==◌}
use Rattle.std.specs.List.{slice_split}
use Rattle.vw_text.specs.declared.line.Line.{Line}
use Rattle.vw_text.specs.Bare.{is_blank}
use Rattle.vw_text.specs.Logical.{Logical, logical_lines}

-- whether there is nothing in a list
abbrev pub is_empty : {A : Type 0} → List A → Bool
is_empty list = length list == 0

-- the words of a line: the longest runs of bytes that aren't blanks
abbrev pub words_of : List ℕ → List (List ℕ)
words_of bytes = filter (λ part. not (is_empty part)) (slice_split is_blank bytes)

-- a logical line as words
abbrev pub word_line : Logical → Line
word_line line = record { number = line.number; words = words_of line.bytes }

-- logical lines as words, without those that have none
abbrev pub word_lines_of : List Logical → List Line
word_lines_of lines = filter (λ line. not (is_empty line.words)) (map word_line lines)

-- the lines of a text that have words, as their words
abbrev pub word_lines : List ℕ → List Line
word_lines text = word_lines_of (logical_lines text)
