use Rattle.vw_plan.proofs.Shortest.{distance_is_least}
use Rattle.vw_plan.proofs.laws.distances_are_least.Goals as goal

-- a walk can be shortened until it goes through no node twice, so the least one is found below the number of chips
pub returns : goal.returns
returns c = distance_is_least
