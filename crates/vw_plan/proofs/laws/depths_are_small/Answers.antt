use Rattle.vw_plan.proofs.Depths.{depth-small}
use Rattle.vw_plan.proofs.laws.depths_are_small.Goals as goal

-- each driver that is followed adds at most one wire
pub returns : goal.returns
returns c = depth-small
