use Rattle.vw_courses.specs.Commands.{ends_by, replayed_wave_of_until, watched_words}
use Rattle.vw_statuses.proofs.ReplayLaws.{replay_table}
use Rattle.vw_statuses.proofs.statuses.replay_wave_statuses.Goals as goal

pub returns : goal.returns
returns c = λ probes until design state stimulus call. replay_table (watched_words until probes) (replayed_wave_of_until (ends_by until) probes) design state stimulus call
