use Rattle.vw_check.proofs.SoundPlans.{sound}
use Rattle.vw_check.proofs.laws.faultless_plans_are_sound.Goals as goal

pub returns : goal.returns
returns c = sound
