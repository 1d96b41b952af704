use Rattle.vw_vcd.proofs.Replays.{waves_replay}
use Rattle.vw_vcd.proofs.laws.waves_replay.Goals as goal

pub returns : goal.returns
returns c = waves_replay
