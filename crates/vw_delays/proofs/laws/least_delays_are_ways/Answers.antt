use Rattle.vw_delays.proofs.LevelDelays.{least_ways}
use Rattle.vw_delays.proofs.laws.least_delays_are_ways.Goals as goal

pub returns : goal.returns
returns c = least_ways
