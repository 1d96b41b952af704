-- What is within the limits is above none of them, and what isn't is above a first one.
use Rattle.std.proofs.Common.{◌≤◌, ◌<◌, ◌⊎◌, inl, inr, IsTrue, length, refl, sym, true≢false, arith}
use Rattle.std.proofs.lemmas.Bool.{cases_lt}
use Rattle.vw_net.specs.declared.limits.TheConstants.{MOST_CELLS, MOST_DESIGN_OUTPUTS}
use Rattle.vw_text.specs.declared.limits.TheConstants.{MOST_DESIGN_BYTES}
use Rattle.vw_plan.specs.PlannedBoard.{PlannedBoard}
use Rattle.vw_emit_text.specs.declared.fault.EmitFault.{EmitFault}
use Rattle.vw_emit_text.specs.declared.fault.EmitFault.TheVariants.{TooManyCells, TooManyOutputs, TooLong, NoMemory}
use Rattle.vw_emit_text.specs.Emitted.{FitsDesigns, IsEmitFault, emitted_cells, emitted_outputs, emitted_text}
use Rattle.vw_emit_text.specs.Messages.{is_emit_fault}

pub fits_apart : (planned : PlannedBoard) (fault : EmitFault) → FitsDesigns planned → IsTrue (is_emit_fault fault) → IsEmitFault planned fault → ⊥
fits_apart planned (TooManyCells cells) fits is (same, above) = omega (arith, fits.cells, same, above)
fits_apart planned (TooManyOutputs outputs) fits is (few, same, above) = omega (arith, fits.outputs, same, above)
fits_apart planned (TooLong bytes) fits is (few, some, same, above) = omega (arith, fits.bytes, same, above)
fits_apart planned NoMemory fits is fault = true≢false (sym is)

-- it is above a limit, and this is the first one
abbrev pub HasEmitFault : PlannedBoard → Type 0
HasEmitFault planned = (fault : EmitFault) × IsTrue (is_emit_fault fault) × IsEmitFault planned fault

pub fits_or_not : (planned : PlannedBoard) → FitsDesigns planned ⊎ HasEmitFault planned
fits_or_not planned = by_cells (cases_lt MOST_CELLS (emitted_cells planned)) where
  by_bytes : emitted_cells planned ≤ MOST_CELLS → emitted_outputs planned ≤ MOST_DESIGN_OUTPUTS
      → (MOST_DESIGN_BYTES < length (emitted_text planned)) ⊎ (length (emitted_text planned) ≤ MOST_DESIGN_BYTES) → FitsDesigns planned ⊎ HasEmitFault planned
  by_bytes cells outputs (inl above) = inr (TooLong (length (emitted_text planned)), refl, (cells, outputs, refl, above))
  by_bytes cells outputs (inr bytes) = inl (record { cells = cells; outputs = outputs; bytes = bytes })

  by_outputs : emitted_cells planned ≤ MOST_CELLS → (MOST_DESIGN_OUTPUTS < emitted_outputs planned) ⊎ (emitted_outputs planned ≤ MOST_DESIGN_OUTPUTS) → FitsDesigns planned ⊎ HasEmitFault planned
  by_outputs cells (inl above) = inr (TooManyOutputs (emitted_outputs planned), refl, (cells, refl, above))
  by_outputs cells (inr outputs) = by_bytes cells outputs (cases_lt MOST_DESIGN_BYTES (length (emitted_text planned)))

  by_cells : (MOST_CELLS < emitted_cells planned) ⊎ (emitted_cells planned ≤ MOST_CELLS) → FitsDesigns planned ⊎ HasEmitFault planned
  by_cells (inl above) = inr (TooManyCells (emitted_cells planned), refl, (refl, above))
  by_cells (inr cells) = by_outputs cells (cases_lt MOST_DESIGN_OUTPUTS (emitted_outputs planned))
