use Rattle.vw_statuses.proofs.NetsLaws.{nets_table}
use Rattle.vw_statuses.proofs.statuses.nets_statuses.Goals as goal

pub returns : goal.returns
returns c = nets_table
