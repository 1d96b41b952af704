-- Words and numbers of a line of a board text. Source: this project.
use Rattle.std.specs.Prelude.{◌==◌, ℕ, Bool, ◌&&◌, List, [], length, slice_index_or, Option, Some, None, unwrap_or, nat_le, if◌then◌else◌}
use Rattle.std.specs.Str.{bytes_eq}
use Rattle.vw_text.specs.declared.line.Line.{Line}
use Rattle.vw_text.specs.Number.{spelled_number}

-- a word of a line, from 0; no byte where there is none
abbrev pub line_word : ℕ → Line → List ℕ
line_word place line = slice_index_or line.words place []

-- whether a line has this many words, and begins with a word
abbrev pub is_line_of : List ℕ → ℕ → Line → Bool
is_line_of word count line = length line.words == count && bytes_eq (line_word 0 line) word

-- a number, where it is in a range
abbrev pub within : ℕ → ℕ → Option ℕ → Option ℕ
within least greatest None = None
within least greatest (Some number) = if nat_le least number && nat_le number greatest then Some number else None

-- the number that a word of a line spells, where it spells one in a range
abbrev pub number_within : ℕ → ℕ → ℕ → Line → Option ℕ
number_within least greatest place line = within least greatest (spelled_number (line_word place line))

-- the number that it spells; 0 where it spells none
abbrev pub number_at : ℕ → Line → ℕ
number_at place line = unwrap_or (spelled_number (line_word place line)) 0
