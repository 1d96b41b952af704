use Rattle.vw_course.proofs.CallTable.{call_table}
use Rattle.vw_courses.specs.Commands.{course_of}
use Rattle.vw_statuses.proofs.statuses.call_statuses.Goals as goal

pub returns : goal.returns
returns c = λ spelled call. call_table (course_of spelled) call
