use Rattle.vw_statuses.proofs.ReportLaws.{report_table}
use Rattle.vw_statuses.proofs.statuses.report_statuses.Goals as goal

pub returns : goal.returns
returns c = λ probes few design board by call is. report_table probes design board by call few is
