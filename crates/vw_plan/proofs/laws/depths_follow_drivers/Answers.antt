use Rattle.vw_plan.proofs.Depths.{depth-by_driver}
use Rattle.vw_plan.proofs.laws.depths_follow_drivers.Goals as goal

-- a level up, a net has the depth of what drives it, and there no depth changes
pub returns : goal.returns
returns c = depth-by_driver
