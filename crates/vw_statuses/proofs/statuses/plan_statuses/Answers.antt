use Rattle.vw_statuses.proofs.WrittenLaws.{plan_table}
use Rattle.vw_statuses.proofs.statuses.plan_statuses.Goals as goal

pub returns : goal.returns
returns c = λ probes few design board by call. plan_table probes design board by call few
