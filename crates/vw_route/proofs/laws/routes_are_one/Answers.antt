use Rattle.vw_route.proofs.OneRoute.{route_once}
use Rattle.vw_route.proofs.laws.routes_are_one.Goals as goal

-- step by step
pub returns : goal.returns
returns c = λ board from to. route_once c.first_steps_are_one.ensures board to from
