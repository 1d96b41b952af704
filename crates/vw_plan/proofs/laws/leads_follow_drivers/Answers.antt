use Rattle.vw_plan.proofs.LeadLevels.{lead-by_driver}
use Rattle.vw_plan.proofs.laws.leads_follow_drivers.Goals as goal

-- a level up, a net has the lead of what drives it, and there no lead changes
pub returns : goal.returns
returns c = lead-by_driver
