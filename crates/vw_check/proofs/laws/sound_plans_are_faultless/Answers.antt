use Rattle.vw_check.proofs.SoundPlans.{faultless}
use Rattle.vw_check.proofs.laws.sound_plans_are_faultless.Goals as goal

pub returns : goal.returns
returns c = faultless
