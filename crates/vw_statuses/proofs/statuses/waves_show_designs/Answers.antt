use Rattle.vw_statuses.proofs.WaveLaws.{designs_replay}
use Rattle.vw_statuses.proofs.statuses.waves_show_designs.Goals as goal

pub returns : goal.returns
returns c = designs_replay c.waves_of_runs_replay.ensures.from_the_start
