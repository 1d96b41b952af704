use Rattle.vw_plan.proofs.OneHopAPin.{one_user}
use Rattle.vw_plan.proofs.laws.pins_have_one_user.Goals as goal

pub returns : goal.returns
returns c = one_user
