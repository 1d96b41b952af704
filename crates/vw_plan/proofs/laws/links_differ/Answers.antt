use Rattle.vw_plan.proofs.LinkDelays.{arrives, one_number}
use Rattle.vw_plan.proofs.laws.links_differ.Goals as goal

pub returns : goal.returns
returns c = record { once = one_number; delay = arrives }
