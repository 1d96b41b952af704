use Rattle.vw_plan.proofs.Depths.{depth_is_deepest}
use Rattle.vw_plan.proofs.laws.depths_are_deepest.Goals as goal

-- along the order: an inlet of a net is one of its gate, or one of a net of the node that its gate reads
pub returns : goal.returns
returns c = depth_is_deepest
