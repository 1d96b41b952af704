use Rattle.vw_bound.proofs.DuePeriods.{depth_bounds}
use Rattle.vw_bound.proofs.laws.depths_bound_periods.Goals as goal

pub returns : goal.returns
returns c = depth_bounds
