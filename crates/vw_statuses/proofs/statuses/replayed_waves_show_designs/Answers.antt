use Rattle.vw_statuses.proofs.WaveLaws.{designs_replay_from}
use Rattle.vw_statuses.proofs.statuses.replayed_waves_show_designs.Goals as goal

pub returns : goal.returns
returns c = designs_replay_from c.waves_of_replays_replay.ensures
