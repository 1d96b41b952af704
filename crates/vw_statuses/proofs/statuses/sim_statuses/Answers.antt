use Rattle.vw_courses.specs.Commands.{ends_by, trace_of_until, watched_words}
use Rattle.vw_statuses.proofs.SimLaws.{sim_table}
use Rattle.vw_statuses.proofs.statuses.sim_statuses.Goals as goal

pub returns : goal.returns
returns c = λ probes until design stimulus unknown call. sim_table (watched_words until probes) (trace_of_until (ends_by until) unknown) design stimulus call
