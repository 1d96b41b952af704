use Rattle.std.proofs.Common.{length}
use Rattle.vw_courses.specs.Commands.{ends_by, watched_words}
use Rattle.vw_statuses.proofs.ResumeLaws.{resume_table}
use Rattle.vw_statuses.proofs.statuses.resume_statuses.Goals as goal

pub returns : goal.returns
returns c = λ probes until few design board state stimulus by workers call.
    resume_table (watched_words until probes) (length probes) few design board by state stimulus (ends_by until) workers call
