use Rattle.vw_courses.specs.Commands.{ends_by, watched_words, wave_of_until}
use Rattle.vw_statuses.proofs.SimLaws.{sim_table}
use Rattle.vw_statuses.proofs.statuses.wave_statuses.Goals as goal

pub returns : goal.returns
returns c = λ probes until design stimulus unknown call. sim_table (watched_words until probes) (wave_of_until (ends_by until) probes unknown) design stimulus call
