use Rattle.vw_emit_hardware.proofs.Microclocks.{delays, registers}
use Rattle.vw_emit_hardware.proofs.laws.hops_carry_their_nets.Goals as goal

pub returns-clause-delays : goal.returns-clause-delays
returns-clause-delays c = delays

pub returns-clause-registers : goal.returns-clause-registers
returns-clause-registers c = registers
