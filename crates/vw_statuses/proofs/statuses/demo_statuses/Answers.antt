use Rattle.vw_statuses.proofs.DemoLaws.{demo_table}
use Rattle.vw_statuses.proofs.statuses.demo_statuses.Goals as goal

pub returns : goal.returns
returns c = demo_table
