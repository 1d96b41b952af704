use Rattle.vw_plan.proofs.NeededNets.{needed_net}
use Rattle.vw_plan.proofs.laws.needed_nets_are_nets.Goals as goal

pub returns : goal.returns
returns c = needed_net
