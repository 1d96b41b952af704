use Rattle.vw_delays.proofs.LevelDelays.{least_low}
use Rattle.vw_delays.proofs.laws.least_delays_are_small.Goals as goal

pub returns : goal.returns
returns c = least_low
