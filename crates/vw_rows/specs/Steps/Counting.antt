-- Rows that are counted, piece by piece.
use Rattle.std.specs.Prelude.{◌≡◌, ◌<◌, ◌≤◌, ℕ, ◌+◌, ◌^◌, Bool, true, false, List, ◌++◌, length, replicate, take, Result, Ok, Err}
use Rattle.vw_text.specs.Physical.{text_lines}
use Rattle.vw_rows.specs.declared.fault.StimFault.{StimFault}
use Rattle.vw_rows.specs.declared.scan.Scan.{Scan}
use Rattle.vw_rows.specs.Stimulus.{rows_of_lines, is_text_fault}
use Rattle.vw_rows.specs.Steps.Scans.{IsReadSoFar}
use Rattle.vw_rows.specs.declared.limits.TheConstants.{MOST_STIMULUS_BYTES}

-- some bytes more were read, and there may be more rows
abbrev pub IsReadFurther : List ℕ → Scan → Scan → Type 0
IsReadFurther bytes old new = (first : List Bool) (base start : ℕ) (total : List ℕ → Result (List (List Bool)) StimFault) (read : List ℕ) (rows : List (List Bool))
    → IsReadSoFar first base start total read old rows → length read + length bytes < 2 ^ 63
    → (more : List (List Bool)) × IsReadSoFar first base start total (read ++ bytes) new more

-- with some bytes there is a fault, whatever follows
abbrev pub IsAtFaultWith : List ℕ → Scan → StimFault → Type 0
IsAtFaultWith bytes old fault = (first : List Bool) (base start : ℕ) (total : List ℕ → Result (List (List Bool)) StimFault) (read : List ℕ) (rows : List (List Bool))
    → IsReadSoFar first base start total read old rows → length read + length bytes < 2 ^ 63
    → (rest : List ℕ) → total (read ++ (bytes ++ rest)) ≡ Err fault

abbrev pub CountsLine : List ℕ → Scan → Scan → Result ℕ StimFault → Type 0
CountsLine piece old new (Ok count) = IsReadFurther (take count piece) old new
CountsLine piece old new (Err fault) = is_text_fault fault ≡ true → IsAtFaultWith piece old fault

abbrev pub CountsPiece : List ℕ → Scan → Scan → Result (Unit {0}) StimFault → Type 0
CountsPiece piece old new (Ok _) = IsReadFurther piece old new
CountsPiece piece old new (Err fault) = is_text_fault fault ≡ true → IsAtFaultWith piece old fault

-- the rows of the lines of a text, before which there is a row of zeros
abbrev pub rows_in : ℕ → List ℕ → Result (List (List Bool)) StimFault
rows_in width text = rows_of_lines width 1 0 (replicate width false) (text_lines text)

-- a text that isn't too large has so many rows
pub record HasRows (width : ℕ) (text : List ℕ) (clocks : ℕ) : Type 0 where
  pub rows : List (List Bool)
  pub are : rows_in width text ≡ Ok rows
  pub count : length rows ≡ clocks
  pub short : length text ≤ MOST_STIMULUS_BYTES

-- a text that isn't too large has a fault
pub record HasFault (width : ℕ) (text : List ℕ) (fault : StimFault) : Type 0 where
  pub is : rows_in width text ≡ Err fault
  pub short : length text ≤ MOST_STIMULUS_BYTES

abbrev pub CountsRows : ℕ → List ℕ → Result ℕ StimFault → Type 0
CountsRows width text (Ok clocks) = HasRows width text clocks
CountsRows width text (Err fault) = HasFault width text fault
