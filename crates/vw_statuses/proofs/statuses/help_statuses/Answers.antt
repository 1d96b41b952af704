use Rattle.vw_courses.specs.Help.{help_text}
use Rattle.vw_statuses.proofs.ConstantLaws.{constant_table}
use Rattle.vw_statuses.proofs.statuses.help_statuses.Goals as goal

pub returns : goal.returns
returns c = λ call. constant_table help_text call
