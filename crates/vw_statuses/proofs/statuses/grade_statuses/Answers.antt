use Rattle.vw_statuses.proofs.SimLaws.{grade_table}
use Rattle.vw_statuses.proofs.statuses.grade_statuses.Goals as goal

pub returns : goal.returns
returns c = λ share design stimulus unknown call. grade_table share unknown design stimulus call
