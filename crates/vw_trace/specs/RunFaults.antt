-- Why a run over a checked stimulus wasn't finished.
use Rattle.vw_outside.specs.declared.unwritten.Unwritten.{Unwritten}
use Rattle.vw_outside.specs.declared.unwritten.Unwritten.TheVariants as unwritten
use Rattle.vw_rows.specs.declared.fault.StimFault.{StimFault}
use Rattle.vw_rows.specs.declared.fault.StimFault.TheVariants as rows
use Rattle.vw_trace.specs.declared.fault.RunFault.{RunFault}
use Rattle.vw_trace.specs.declared.fault.RunFault.TheVariants.{ReadFault, WriteFault, Stimulus, NoMemory}

-- a text that wasn't written whole
abbrev pub run_fault_of : Unwritten → RunFault
run_fault_of unwritten.WriteFault = WriteFault
run_fault_of unwritten.NoMemory = NoMemory

-- rows that weren't read
abbrev pub run_fault_of_rows : StimFault → RunFault
run_fault_of_rows rows.TooLarge = Stimulus rows.TooLarge
run_fault_of_rows (rows.BadLine line) = Stimulus (rows.BadLine line)
run_fault_of_rows (rows.WrongWidth line found wanted) = Stimulus (rows.WrongWidth line found wanted)
run_fault_of_rows (rows.TooManyClocks count) = Stimulus (rows.TooManyClocks count)
run_fault_of_rows rows.ReadFault = ReadFault
run_fault_of_rows rows.NoMemory = NoMemory
