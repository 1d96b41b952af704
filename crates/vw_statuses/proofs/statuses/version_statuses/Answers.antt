use Rattle.vw_courses.specs.Help.{version_text}
use Rattle.vw_statuses.proofs.ConstantLaws.{constant_table}
use Rattle.vw_statuses.proofs.statuses.version_statuses.Goals as goal

pub returns : goal.returns
returns c = λ call. constant_table version_text call
