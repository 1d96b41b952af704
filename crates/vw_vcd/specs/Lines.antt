-- The text of a wave: a value change dump with the values 0 and 1 alone. Source: IEEE 1364 for the keywords and the forms of
-- the lines; which of them are written, the names and the unit are this project's choice.
use Rattle.std.specs.Prelude.{ℕ, ◌+◌, Bool, ◌||◌, List, [], ◌∷◌, ◌++◌, Option, Some, None, map, length, codes, if◌then◌else◌, ◌==◌}
use Rattle.std.specs.Char.{is_ascii_alphanumeric}
use Rattle.std.specs.Fmt.{decimal}
use Rattle.vw_text.specs.Physical.{lines_text}
use Rattle.vw_vcd.specs.Identifiers.{identifier}
use Rattle.vw_vcd.specs.Changes.{of_each, of_changed, under}

-- ---- the head

-- ASCII letters, digits and `_` stay, and any other byte is `_`
abbrev pub name_byte : ℕ → ℕ
name_byte byte = if is_ascii_alphanumeric byte || byte == 95 then byte else 95

-- what a viewer calls the signal with a printed net
abbrev pub signal_name : List ℕ → List ℕ
signal_name net = codes "n_" ++ map name_byte net

-- the line that declares a signal, by its number and its printed net
abbrev pub var_line : ℕ → List ℕ → List ℕ
var_line number net = codes "$var wire 1 " ++ (identifier number ++ 32 ∷ (signal_name net ++ codes " $end"))

-- the lines of signals, of which the first has this number
abbrev pub var_lines : ℕ → List (List ℕ) → List (List ℕ)
var_lines number [] = []
var_lines number (net ∷ nets) = var_line number net ∷ var_lines (number + 1) nets

-- the lines before the first clock
abbrev pub lines_of_head : List (List ℕ) → List (List ℕ)
lines_of_head nets =
    codes "$timescale 1 s $end" ∷ codes "$scope module design $end" ∷ (var_lines 0 nets ++ codes "$upscope $end" ∷ codes "$enddefinitions $end" ∷ [])

-- ---- clocks

-- the line of a time
abbrev pub time_line : ℕ → List ℕ
time_line clock = 35 ∷ decimal clock

-- the line of the value of a signal
abbrev pub value_line : ℕ → Bool → List ℕ
value_line number bit = (if bit then 49 else 48) ∷ identifier number

-- the lines of a clock in which the signals have these values: where the wave has no clock before it, all values; and behind a
-- clock with those before, the changed ones, and none where nothing has changed
abbrev pub lines_of_clock : ℕ → Option (List Bool) → List Bool → List (List ℕ)
lines_of_clock clock None bits = time_line clock ∷ codes "$dumpvars" ∷ (of_each value_line 0 bits ++ codes "$end" ∷ [])
lines_of_clock clock (Some before) bits = under (time_line clock) (of_changed value_line 0 before bits)

-- the lines of some clocks, of which the first has this number
abbrev pub lines_of_clocks : ℕ → Option (List Bool) → List (List Bool) → List (List ℕ)
lines_of_clocks clock before [] = []
lines_of_clocks clock before (bits ∷ rows) = lines_of_clock clock before bits ++ lines_of_clocks (clock + 1) (Some bits) rows

-- ---- the whole

-- the lines of signals with these printed nets, which have the values of these rows, one row a clock; the first clock has this
-- number, and the last line is the number behind the last one
abbrev pub wave_lines_from : ℕ → List (List ℕ) → List (List Bool) → List (List ℕ)
wave_lines_from first nets rows = lines_of_head nets ++ (lines_of_clocks first None rows ++ time_line (first + length rows) ∷ [])

-- their text
abbrev pub wave_text_from : ℕ → List (List ℕ) → List (List Bool) → List ℕ
wave_text_from first nets rows = lines_text (wave_lines_from first nets rows)

-- the text where the first clock has the number 0
abbrev pub wave_text : List (List ℕ) → List (List Bool) → List ℕ
wave_text nets rows = wave_text_from 0 nets rows
