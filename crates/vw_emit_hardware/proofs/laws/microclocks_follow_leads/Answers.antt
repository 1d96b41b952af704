use Rattle.vw_emit_hardware.proofs.Microclocks.{nets, stages}
use Rattle.vw_emit_hardware.proofs.laws.microclocks_follow_leads.Goals as goal

pub returns-clause-stages : goal.returns-clause-stages
returns-clause-stages c = stages

pub returns-clause-nets : goal.returns-clause-nets
returns-clause-nets c = nets
