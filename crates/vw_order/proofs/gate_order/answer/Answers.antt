use Rattle.std.proofs.lemmas.Result.{IfOk-weaker}
use Rattle.vw_net.specs.declared.flat.Flat.{Flat}
use Rattle.vw_order.specs.declared.depth_first.Found.{Found}
use Rattle.vw_order.specs.declared.depth_first.Found.TheVariants.{Order, Circle}
use Rattle.vw_order.specs.SearchResults.{IsFound}
use Rattle.vw_order.specs.Steps.Gates.{gates}
use Rattle.vw_order.specs.Steps.GateOrders.{IsAnswered}
use Rattle.vw_order.proofs.Inputs.{within}
use Rattle.vw_order.proofs.OrderedGates.{is_order}
use Rattle.vw_order.proofs.Loops.{is_loop}
use Rattle.vw_order.proofs.gate_order.answer.Goals as goal

-- what is found of the numbers is found of the gates
answered : (flat : Flat) (found : Found) → IsFound (gates flat) found → IsAnswered flat found
answered flat (Order order) is = is_order flat order.items is
answered flat (Circle circle) is = is_loop flat circle.items is.0 is.1

pub search-requires : goal.search-requires
search-requires c = within c.args.flat.now

pub returns : goal.returns
returns c = IfOk-weaker c.search.result (IsFound (gates c.args.flat.now)) (IsAnswered c.args.flat.now) (answered c.args.flat.now) c.search.ensures
