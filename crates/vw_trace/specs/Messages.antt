-- The message line of each fault of a run, with the end of the line.
use Rattle.std.specs.Prelude.{ℕ, List, [], ◌∷◌, ◌++◌, codes}
use Rattle.vw_rows.specs.Messages as rows
use Rattle.vw_trace.specs.declared.fault.RunFault.{RunFault}
use Rattle.vw_trace.specs.declared.fault.RunFault.TheVariants.{ReadFault, WriteFault, Stimulus, NoMemory}

abbrev pub fault_text : RunFault → List ℕ
fault_text ReadFault = codes "read fault: stimulus" ++ 10 ∷ []
fault_text WriteFault = codes "write fault" ++ 10 ∷ []
fault_text (Stimulus fault) = rows.fault_text fault
fault_text NoMemory = codes "out of memory" ++ 10 ∷ []
