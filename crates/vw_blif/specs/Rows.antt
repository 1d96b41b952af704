-- Rows of a table. Source: the Berkeley description of BLIF tables.
use Rattle.std.specs.Prelude.{ℕ, Bool, true, false, ◌&&◌, ◌||◌, List, [], ◌∷◌, map, length, codes, if◌then◌else◌, ◌==◌, nat_lt}
use Rattle.std.specs.List.{list_all}
use Rattle.std.specs.Str.{bytes_eq}
use Rattle.vw_net.specs.declared.cover.Mark.{Mark}
use Rattle.vw_net.specs.declared.cover.Mark.TheVariants.{Zero, One, Any}
use Rattle.vw_text.specs.declared.line.Line.{Line}
use Rattle.vw_blif.specs.Words.{last_word}
use Rattle.vw_design.specs.Paths.{Word}

-- whether a byte is one of the marks `0`, `1` and `-`
abbrev pub is_mark : ℕ → Bool
is_mark b = b == 48 || (b == 49 || b == 45)

-- the mark that a byte spells
abbrev pub mark_of_byte : ℕ → Mark
mark_of_byte b = if b == 48 then Zero else if b == 49 then One else Any

-- the value of a row: `0` or `1`
abbrev pub is_value : Word → Bool
is_value word = bytes_eq word (codes "0") || bytes_eq word (codes "1")

abbrev pub value_word : Bool → Word
value_word true = codes "1"
value_word false = codes "0"

-- whether words are a row of a table with so many inputs: a mark for each of them in one word, where there are any,
-- and a value
abbrev pub is_row_of : ℕ → List Word → Bool
is_row_of width [] = false
is_row_of width (value ∷ []) = width == 0 && is_value value
is_row_of width (marks ∷ value ∷ []) =
    nat_lt 0 width && (length marks == width && (list_all is_mark marks && is_value value))
is_row_of width (marks ∷ value ∷ more ∷ words) = false

-- the marks of a row
abbrev pub row_marks : List Word → List Mark
row_marks [] = []
row_marks (value ∷ []) = []
row_marks (marks ∷ value ∷ words) = map mark_of_byte marks

-- whether the rows of a table are its on-set: its first row ends in `1`, or there is none
abbrev pub are_on_set : List Line → Bool
are_on_set [] = true
are_on_set (row ∷ rows) = bytes_eq (last_word row.words) (codes "1")
