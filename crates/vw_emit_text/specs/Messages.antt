-- The message line of each fault of a planned board that isn't written, with the end of the line.
use Rattle.std.specs.Prelude.{ℕ, Bool, true, false, List, [], ◌∷◌, ◌++◌, codes}
use Rattle.std.specs.Fmt.{decimal}
use Rattle.vw_emit_text.specs.declared.fault.EmitFault.{EmitFault}
use Rattle.vw_emit_text.specs.declared.fault.EmitFault.TheVariants.{TooManyCells, TooManyOutputs, TooLong, NoMemory}

-- whether a fault lies in the planned board; want of memory doesn't
abbrev pub is_emit_fault : EmitFault → Bool
is_emit_fault (TooManyCells cells) = true
is_emit_fault (TooManyOutputs outputs) = true
is_emit_fault (TooLong bytes) = true
is_emit_fault NoMemory = false

abbrev pub fault_text : EmitFault → List ℕ
fault_text (TooManyCells cells) = codes "emit 1: " ++ (decimal cells ++ (codes " cells" ++ 10 ∷ []))
fault_text (TooManyOutputs outputs) = codes "emit 2: " ++ (decimal outputs ++ (codes " outputs" ++ 10 ∷ []))
fault_text (TooLong bytes) = codes "emit 3: " ++ (decimal bytes ++ (codes " bytes" ++ 10 ∷ []))
fault_text NoMemory = codes "out of memory" ++ 10 ∷ []
