use Rattle.vw_statuses.proofs.TriggerLaws.{triggers_end}
use Rattle.vw_statuses.proofs.statuses.triggers_end_runs.Goals as goal

pub returns : goal.returns
returns c = triggers_end
