use Rattle.vw_statuses.proofs.UsageLaws.{usage_table}
use Rattle.vw_statuses.proofs.statuses.usage_statuses.Goals as goal

pub returns : goal.returns
returns c = usage_table
