-- The lines of a stimulus text, as it is read piece by piece.
use Rattle.std.specs.Prelude.{◌≡◌, ◌<◌, ◌≤◌, ℕ, ◌+◌, ◌^◌, Bool, List, [], ◌∷◌, ◌++◌, length, replicate, Result, Ok, Err}
use Rattle.vw_text.specs.Physical.{text_lines}
use Rattle.vw_rows.specs.declared.fault.StimFault.{StimFault}
use Rattle.vw_rows.specs.declared.scan.Adds.{Adds}
use Rattle.vw_rows.specs.declared.scan.Adds.TheVariants.{Nothing, Row, Copies}
use Rattle.vw_rows.specs.declared.scan.Scan.{Scan}
use Rattle.vw_rows.specs.Stimulus.{line_words, rows_added, last_row, within_run, behind, rows_of_lines}
use Rattle.vw_rows.specs.Steps.Lines.{IsLine}
use Rattle.vw_rows.specs.declared.limits.TheConstants.{MOST_CLOCKS}

-- how many rows a line adds
abbrev pub rows_from_line : Adds → ℕ
rows_from_line Nothing = 0
rows_from_line Row = 1
rows_from_line (Copies times) = times

-- the rows that a line adds, where it spells this row, or the row before it is this
abbrev pub rows_by : Adds → List Bool → List Bool → List (List Bool)
rows_by Nothing row before = []
rows_by Row row before = row ∷ []
rows_by (Copies times) row before = replicate times before

-- a row has so many bits, and no row is held more often than there may be clocks
abbrev pub FitsWidth : ℕ → Adds → List Bool → Type 0
FitsWidth width Nothing row = Unit {0}
FitsWidth width Row row = length row ≡ width
FitsWidth width (Copies times) row = times ≤ MOST_CLOCKS

-- what a whole line adds
pub record AddsRows (scan : Scan) (adds : Adds) (line : List ℕ) : Type 0 where
  pub row : List Bool
  pub added : (before : List Bool) → rows_added scan.width scan.number before (line_words line) ≡ Ok (rows_by adds row before)
  pub fits : FitsWidth scan.width adds row
  pub bits : length row ≤ scan.line.kept → scan.line.bits.items ≡ row

-- what the line adds, or its fault
abbrev pub AddsLine : Scan → Result Adds StimFault → Type 0
AddsLine scan (Ok adds) = (line : List ℕ) → IsLine line scan.line → AddsRows scan adds line
AddsLine scan (Err fault) = (line : List ℕ) → IsLine line scan.line → length line < 2 ^ 63
    → (before : List Bool) → rows_added scan.width scan.number before (line_words line) ≡ Err fault

-- what a whole line adds to the rows before it
pub record AddsToRun (scan : Scan) (adds : Adds) (line : List ℕ) : Type 0 where
  pub row : List Bool
  pub added : (before : List Bool) → within_run scan.clocks (rows_added scan.width scan.number before (line_words line)) ≡ Ok (rows_by adds row before)
  pub fits : FitsWidth scan.width adds row
  pub bits : length row ≤ scan.line.kept → scan.line.bits.items ≡ row

-- the line is counted, or is at fault
abbrev pub EndsLine : Scan → Scan → Result Adds StimFault → Type 0
EndsLine old new (Ok adds) = ((line : List ℕ) → IsLine line old.line → AddsToRun old adds line)
    × (new ≡ record { line = old.line; width = old.width; number = old.number; clocks = old.clocks + rows_from_line adds })
EndsLine old new (Err fault) = (line : List ℕ) → IsLine line old.line → length line < 2 ^ 63
    → (before : List Bool) → within_run old.clocks (rows_added old.width old.number before (line_words line)) ≡ Err fault

-- some bytes were read, and before the line that is being read there are these rows; behind the row before all and so many others, this is what comes of all bytes, of which the first line has this number
pub record IsReadSoFar (first : List Bool) (base start : ℕ) (total : List ℕ → Result (List (List Bool)) StimFault) (read : List ℕ) (scan : Scan) (rows : List (List Bool)) : Type 0 where
  pub line : List ℕ
  pub is : IsLine line scan.line
  pub short : length line ≤ length read
  pub clocks : scan.clocks ≡ base + length rows
  pub lines : List (List ℕ)
  pub place : (rest : List ℕ) → text_lines (read ++ rest) ≡ lines ++ text_lines (line ++ rest)
  pub number : scan.number ≡ start + length lines
  pub left : (rest : List ℕ) → total (read ++ rest) ≡ behind rows (rows_of_lines scan.width scan.number scan.clocks (last_row first rows) (text_lines (line ++ rest)))
