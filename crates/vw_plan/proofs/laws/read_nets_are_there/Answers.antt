use Rattle.vw_plan.proofs.ReadNets.{read_or_needed}
use Rattle.vw_plan.proofs.laws.read_nets_are_there.Goals as goal

pub returns : goal.returns
returns c = read_or_needed
