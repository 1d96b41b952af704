use Rattle.vw_emit_hardware.proofs.WellRead.{read_driven, read_rises}
use Rattle.vw_emit_hardware.proofs.laws.items_read_what_is_driven.Goals as goal

pub returns-clause-driven : goal.returns-clause-driven
returns-clause-driven c = read_driven

pub returns-clause-rises : goal.returns-clause-rises
returns-clause-rises c = read_rises
