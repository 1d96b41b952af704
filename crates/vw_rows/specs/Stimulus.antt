-- The rows of a stimulus text, or its fault: the first line at fault, and on it the least fault. Source: this project.
use Rattle.std.specs.Prelude.{ℕ, ◌+◌, Bool, true, false, not, ◌||◌, ◌&&◌, List, [], ◌∷◌, ◌++◌, map, length, replicate, codes, Option, Some, None, Result, Ok, Err, if◌then◌else◌, ◌==◌, nat_le, nat_lt}
use Rattle.std.specs.List.{list_all}
use Rattle.std.specs.Option.{option_and_then}
use Rattle.std.specs.Str.{bytes_eq}
use Rattle.vw_text.specs.Bare.{without_comment}
use Rattle.vw_text.specs.Number.{spelled_number}
use Rattle.vw_text.specs.Physical.{text_lines}
use Rattle.vw_text.specs.WordLines.{words_of}
use Rattle.vw_rows.specs.declared.fault.StimFault.{StimFault}
use Rattle.vw_rows.specs.declared.fault.StimFault.TheVariants.{TooLarge, BadLine, WrongWidth, TooManyClocks, ReadFault, NoMemory}
use Rattle.vw_rows.specs.declared.limits.TheConstants.{MOST_CLOCKS, MOST_STIMULUS_BYTES}

-- ---- words

-- the words of a line; a `#` begins a comment, and no line goes on with the next
abbrev pub line_words : List ℕ → List (List ℕ)
line_words line = words_of (without_comment line)

-- a word of `0` and `1` that isn't empty
abbrev pub is_bits : List ℕ → Bool
is_bits word = list_all (λ b. b == 48 || b == 49) word && not (length word == 0)

-- the bits that a word spells; `-` spells a row that has none
abbrev pub bits_of : List ℕ → Option (List Bool)
bits_of word =
    if is_bits word then Some (map (λ b. b == 49) word)
    else if bytes_eq word (codes "-") then Some []
    else None

-- a number of clocks that a run can have
abbrev pub clocks_within : ℕ → Option ℕ
clocks_within number = if nat_le number MOST_CLOCKS then Some number else None

-- how often two words, `hold` and a number, repeat the row before them
abbrev pub held_times : List ℕ → List ℕ → Option ℕ
held_times verb count =
    if bytes_eq verb (codes "hold") then option_and_then clocks_within (spelled_number count) else None

-- ---- lines

-- a row with as many bits as there are columns, for the line with this number
abbrev pub row_of_bits : ℕ → ℕ → Option (List Bool) → Result (List (List Bool)) StimFault
row_of_bits width number None = Err (BadLine number)
row_of_bits width number (Some row) =
    if length row == width then Ok (row ∷ []) else Err (WrongWidth number (length row) width)

-- a row so many times
abbrev pub repeated : ℕ → List Bool → Option ℕ → Result (List (List Bool)) StimFault
repeated number row None = Err (BadLine number)
repeated number row (Some times) = Ok (replicate times row)

-- the rows that a line of words adds, where this is the row before it
abbrev pub rows_added : ℕ → ℕ → List Bool → List (List ℕ) → Result (List (List Bool)) StimFault
rows_added width number before [] = Ok []
rows_added width number before (word ∷ []) = row_of_bits width number (bits_of word)
rows_added width number before (verb ∷ count ∷ []) = repeated number before (held_times verb count)
rows_added width number before (verb ∷ count ∷ word ∷ words) = Err (BadLine number)

-- the last of some rows, or else this one
abbrev pub last_row : List Bool → List (List Bool) → List Bool
last_row row [] = row
last_row row (next ∷ rows) = last_row next rows

-- ---- texts

-- rows that are added behind so many others, unless they are too many for a run
abbrev pub within_run : ℕ → Result (List (List Bool)) StimFault → Result (List (List Bool)) StimFault
within_run count (Err fault) = Err fault
within_run count (Ok added) =
    if nat_lt MOST_CLOCKS (count + length added) then Err (TooManyClocks (count + length added)) else Ok added

-- what comes of rows, unless there is a fault
abbrev pub and_then : Result (List (List Bool)) StimFault → (List (List Bool) → Result (List (List Bool)) StimFault) → Result (List (List Bool)) StimFault
and_then (Ok rows) further = further rows
and_then (Err fault) further = Err fault

-- rows and those behind them, unless there is a fault
abbrev pub behind : List (List Bool) → Result (List (List Bool)) StimFault → Result (List (List Bool)) StimFault
behind rows (Ok more) = Ok (rows ++ more)
behind rows (Err fault) = Err fault

-- the rows of lines: the first line has this number, before it there are so many rows, and this is the last of them
abbrev pub rows_of_lines : ℕ → ℕ → ℕ → List Bool → List (List ℕ) → Result (List (List Bool)) StimFault
rows_of_lines width number count before [] = Ok []
rows_of_lines width number count before (line ∷ lines) =
    and_then (within_run count (rows_added width number before (line_words line)))
    (λ added. behind added (rows_of_lines width (number + 1) (count + length added) (last_row before added) lines))

-- the rows of a text, before which there is a row of zeros; that it is too large is decided before all lines
abbrev pub stimulus_rows : ℕ → List ℕ → Result (List (List Bool)) StimFault
stimulus_rows width text =
    if nat_lt MOST_STIMULUS_BYTES (length text) then Err TooLarge
    else rows_of_lines width 1 0 (replicate width false) (text_lines text)

-- ---- faults

-- whether a fault lies in the text; the others are a read that failed and want of memory
abbrev pub is_text_fault : StimFault → Bool
is_text_fault TooLarge = true
is_text_fault (BadLine line) = true
is_text_fault (WrongWidth line found wanted) = true
is_text_fault (TooManyClocks count) = true
is_text_fault ReadFault = false
is_text_fault NoMemory = false

-- whether an answer says something of the text: what it asked for, or a fault that lies in it
abbrev pub is_of_text : {A : Type 0} → Result A StimFault → Bool
is_of_text (Ok x) = true
is_of_text (Err fault) = is_text_fault fault
