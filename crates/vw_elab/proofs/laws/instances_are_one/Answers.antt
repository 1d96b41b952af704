use Rattle.vw_elab.proofs.OneInstance.{instance_once}
use Rattle.vw_elab.proofs.laws.instances_are_one.Goals as goal

-- one path, one model, and one instance that places it
pub returns : goal.returns
returns c = λ design faultless. instance_once design (c.instances_are_listed.ensures.placed design faultless) (c.items_are_once.ensures.instances design)
