-- Rows that are gathered into a batch.
use Rattle.std.specs.Prelude.{◌≡◌, ◌<◌, ◌≤◌, ℕ, ◌+◌, ◌^◌, Bool, true, List, [], ◌++◌, length, replicate, take, drop, Result, Ok, Err}
use Rattle.std.specs.List.{All}
use Rattle.vw_outside.specs.Told.{Told, held}
use Rattle.vw_text.specs.Physical.{text_lines}
use Rattle.vw_rows.specs.declared.fault.StimFault.{StimFault}
use Rattle.vw_rows.specs.declared.scan.Adds.{Adds}
use Rattle.vw_rows.specs.declared.batch.Batch.{Batch}
use Rattle.vw_rows.specs.Stimulus.{line_words, rows_added, last_row, within_run, behind, rows_of_lines, is_text_fault}
use Rattle.vw_rows.specs.Standing.{IsFoundIn}
use Rattle.vw_rows.specs.Steps.Lines.{IsLine}
use Rattle.vw_rows.specs.Steps.Scans.{rows_from_line, rows_by, AddsToRun, IsReadSoFar}
use Rattle.vw_rows.specs.declared.limits.TheConstants.{MOST_CLOCKS, MOST_STIMULUS_BYTES}

-- the rows of a batch and the copies that are owed, where this is the row before them
abbrev pub all_rows : List Bool → Batch → List (List Bool)
all_rows before batch = batch.rows ++ replicate batch.owed (last_row before batch.rows)

-- no more rows than are wanted, and no copy is owed where there are fewer
pub record IsPaid (batch : Batch) : Type 0 where
  pub within : length batch.rows ≤ batch.wanted
  pub paid : length batch.rows < batch.wanted → batch.owed ≡ 0

-- the numbers of a batch are within their limits
pub record HasFitNumbers (batch : Batch) : Type 0 where
  pub rows : IsPaid batch
  pub few : batch.scan.clocks ≤ MOST_CLOCKS
  pub kept : batch.scan.line.kept ≡ batch.scan.width
  pub places : batch.at ≤ batch.read
  pub limit : batch.read ≤ MOST_STIMULUS_BYTES
  pub number : batch.scan.number ≤ batch.at + 1
  pub settled : length batch.rows ≡ batch.wanted → batch.at ≡ batch.read

-- the rows alone change
pub record KeepsPlaces (old new : Batch) : Type 0 where
  pub scan : new.scan ≡ old.scan
  pub at : new.at ≡ old.at
  pub read : new.read ≡ old.read
  pub wanted : new.wanted ≡ old.wanted

-- copies that are owed went over to the rows
pub record GivesCopies (before : List Bool) (old new : Batch) : Type 0 where
  pub all : all_rows before new ≡ all_rows before old
  pub paid : IsPaid new
  pub places : KeepsPlaces old new

-- what a line adds is among the rows, or owed
pub record AddsToBatch (before : List Bool) (adds : Adds) (old new : Batch) : Type 0 where
  pub all : all_rows before new ≡ all_rows before old ++ rows_by adds old.scan.line.bits.items (last_row before (all_rows before old))
  pub paid : IsPaid new
  pub places : KeepsPlaces old new

-- a line has ended, is counted, and what it adds is added; the next begins
pub record EndsCounted (before : List Bool) (old new : Batch) : Type 0 where
  pub adds : Adds
  pub counted : (line : List ℕ) → IsLine line old.scan.line → AddsToRun old.scan adds line
  pub all : all_rows before new ≡ all_rows before old ++ rows_by adds old.scan.line.bits.items (last_row before (all_rows before old))
  pub paid : IsPaid new
  pub fresh : IsLine [] new.scan.line
  pub kept : new.scan.line.kept ≡ old.scan.line.kept
  pub width : new.scan.width ≡ old.scan.width
  pub number : new.scan.number ≡ old.scan.number + 1
  pub clocks : new.scan.clocks ≡ old.scan.clocks + rows_from_line adds
  pub few : new.scan.clocks ≤ MOST_CLOCKS
  pub at : new.at ≡ old.read
  pub read : new.read ≡ old.read
  pub wanted : new.wanted ≡ old.wanted

abbrev pub EndsLineOf : List Bool → Batch → Batch → Result (Unit {0}) StimFault → Type 0
EndsLineOf before old new (Ok _) = EndsCounted before old new
EndsLineOf before old new (Err fault) = is_text_fault fault ≡ true → (line : List ℕ) → IsLine line old.scan.line → length line < 2 ^ 63
    → (last : List Bool) → within_run old.scan.clocks (rows_added old.scan.width old.scan.number last (line_words line)) ≡ Err fault

-- some bytes were read from a place on; the rows and the copies that are owed are those of the lines
pub record IsGathered (before : List Bool) (base start origin : ℕ) (total : List ℕ → Result (List (List Bool)) StimFault) (read : List ℕ) (batch : Batch) : Type 0 where
  pub so_far : IsReadSoFar before base start total read batch.scan (all_rows before batch)
  pub place : batch.at + length so_far.line ≡ batch.read
  pub size : origin + length read ≡ batch.read
  pub first : length before ≡ batch.scan.width
  pub wide : All (λ row. length row ≡ batch.scan.width) (all_rows before batch)

-- some bytes more were read
abbrev pub GathersFurther : List Bool → List ℕ → Batch → Batch → Type 0
GathersFurther before bytes old new = (base start origin : ℕ) (total : List ℕ → Result (List (List Bool)) StimFault) (read : List ℕ)
    → IsGathered before base start origin total read old → length read + length bytes < 2 ^ 63 → IsGathered before base start origin total (read ++ bytes) new

-- with some bytes there is a fault, whatever follows
abbrev pub FailsWith : List Bool → List ℕ → Batch → StimFault → Type 0
FailsWith before bytes old fault = (base start origin : ℕ) (total : List ℕ → Result (List (List Bool)) StimFault) (read : List ℕ)
    → IsGathered before base start origin total read old → length read + length bytes < 2 ^ 63 → (rest : List ℕ) → total (read ++ (bytes ++ rest)) ≡ Err fault

abbrev pub TakesLineOf : List Bool → List ℕ → Batch → Batch → Result ℕ StimFault → Type 0
TakesLineOf before piece old new (Ok count) = GathersFurther before (take count piece) old new
TakesLineOf before piece old new (Err fault) = is_text_fault fault ≡ true → FailsWith before piece old fault

-- bytes at the front of a piece were read
pub record GathersFront (before : List Bool) (piece : List ℕ) (old new : Batch) : Type 0 where
  pub gone : List ℕ
  pub rest : List ℕ
  pub cut : piece ≡ gone ++ rest
  pub gathers : GathersFurther before gone old new
  pub read : new.read ≡ old.read + length gone
  pub whole : length new.rows < new.wanted → rest ≡ []

abbrev pub TakesPieceOf : List Bool → List ℕ → Batch → Batch → Result (Unit {0}) StimFault → Type 0
TakesPieceOf before piece old new (Ok _) = GathersFront before piece old new
TakesPieceOf before piece old new (Err fault) = is_text_fault fault ≡ true → FailsWith before piece old fault

-- the rows and the copies that are owed are counted, and have the width
pub record HasItsRows (before : List Bool) (base : ℕ) (batch : Batch) : Type 0 where
  pub clocks : batch.scan.clocks ≡ base + length (all_rows before batch)
  pub first : length before ≡ batch.scan.width
  pub wide : All (λ row. length row ≡ batch.scan.width) (all_rows before batch)

-- the batch stands before a line of a text, or at its end; the rows of the lines from there on are those that come behind its own
pub record IsAtLine (before : List Bool) (start origin : ℕ) (total : List ℕ → Result (List (List Bool)) StimFault) (text : List ℕ) (batch : Batch) : Type 0 where
  pub lines : List (List ℕ)
  pub at : ℕ
  pub is : batch.at ≡ origin + at
  pub inside : at ≤ length text
  pub place : text_lines text ≡ lines ++ text_lines (drop at text)
  pub number : batch.scan.number ≡ start + length lines
  pub left : total text ≡ behind (all_rows before batch) (rows_of_lines batch.scan.width batch.scan.number batch.scan.clocks (last_row before (all_rows before batch)) (text_lines (drop at text)))

-- the text has ended with the last line, or it is at fault, or has fewer rows than are wanted
abbrev pub EndsTextOf : List Bool → Batch → Batch → Result (Unit {0}) StimFault → Type 0
EndsTextOf before old new (Ok _) = (base start origin : ℕ) (total : List ℕ → Result (List (List Bool)) StimFault) (read : List ℕ)
    → IsGathered before base start origin total read old → HasItsRows before base new × IsAtLine before start origin total read new
EndsTextOf before old new (Err fault) = is_text_fault fault ≡ true → (base start origin : ℕ) (total : List ℕ → Result (List (List Bool)) StimFault) (read : List ℕ)
    → IsGathered before base start origin total read old → length read < 2 ^ 62 → IsFoundIn old.wanted start read fault (total read)

-- the rows that are wanted were read; or bytes were, that have fewer or are at fault
abbrev pub GathersOf : Told → List Bool → Batch → Batch → Result (Unit {0}) StimFault → Type 0
GathersOf told before old new (Ok _) = (base start : ℕ) (total : List ℕ → Result (List (List Bool)) StimFault)
    → IsGathered before base start old.read total [] old
    → HasItsRows before base new × ((text : List ℕ) → told ≡ held text → old.read ≤ length text → IsAtLine before start old.read total (drop old.read text) new)
GathersOf told before old new (Err fault) = is_text_fault fault ≡ true → (base start : ℕ) (total : List ℕ → Result (List (List Bool)) StimFault)
    → IsGathered before base start old.read total [] old
    → ((bytes : List ℕ) × IsFoundIn old.wanted start bytes fault (total bytes))
    × ((text : List ℕ) → told ≡ held text → old.read ≤ length text → (all : List (List Bool)) → total (drop old.read text) ≡ Ok all → length all < old.wanted)
