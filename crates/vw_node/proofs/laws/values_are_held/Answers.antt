use Rattle.vw_node.proofs.Held.{start_holds}
use Rattle.vw_node.proofs.laws.values_are_held.Goals as goal

pub returns : goal.returns
returns c = record { start = start_holds }
