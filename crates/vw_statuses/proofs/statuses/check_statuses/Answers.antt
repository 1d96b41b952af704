use Rattle.vw_statuses.proofs.WrittenLaws.{check_table}
use Rattle.vw_statuses.proofs.statuses.check_statuses.Goals as goal

pub returns : goal.returns
returns c = λ probes few design board plan call. check_table probes design board plan call few
