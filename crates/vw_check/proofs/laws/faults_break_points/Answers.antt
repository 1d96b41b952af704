use Rattle.vw_check.proofs.SoundPlans.{breaks}
use Rattle.vw_check.proofs.laws.faults_break_points.Goals as goal

pub returns : goal.returns
returns c = breaks
