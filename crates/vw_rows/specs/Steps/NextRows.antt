-- The next rows of a stimulus.
use Rattle.std.specs.Prelude.{◌≡◌, ℕ, true, List, length, drop, Result, Ok, Err}
use Rattle.vw_outside.specs.Told.{Told, held}
use Rattle.vw_rows.specs.declared.fault.StimFault.{StimFault}
use Rattle.vw_rows.specs.declared.batch.Batch.{Batch}
use Rattle.vw_rows.specs.declared.stimulus.Stimulus.{Stimulus}
use Rattle.vw_rows.specs.Stimulus.{is_text_fault}
use Rattle.vw_rows.specs.Standing.{rows_left, HasNoNext}
use Rattle.vw_rows.specs.Steps.Batches.{HasFitNumbers, HasItsRows, IsAtLine}

-- a batch of so many of them
pub record IsNext (told : Told) (wanted : ℕ) (stimulus : Stimulus) (batch : Batch) : Type 0 where
  pub fit : HasFitNumbers batch
  pub full : length batch.rows ≡ wanted
  pub has : HasItsRows stimulus.before stimulus.done batch
  pub stands : (text : List ℕ) → told ≡ held text → IsAtLine stimulus.before stimulus.line stimulus.at (rows_left stimulus) (drop stimulus.at text) batch

abbrev pub GathersNext : Told → ℕ → Stimulus → Result Batch StimFault → Type 0
GathersNext told wanted stimulus (Ok batch) = IsNext told wanted stimulus batch
GathersNext told wanted stimulus (Err fault) = is_text_fault fault ≡ true → HasNoNext wanted stimulus fault × ((text : List ℕ) → told ≡ held text → ⊥)
