-- the routes so far have the turns of their nets
use Rattle.std.proofs.Common.{◌≡◌, length, map, take, slice_index}
use Rattle.vw_plan.specs.declared.need.Route.{Route}
use Rattle.vw_pipe.proofs.turns.with_routes.Given as goal

abbrev pub invariant-loop-route : goal.invariant-loop-route
invariant-loop-route l = l.routes.items ≡ map (λ (route : Route). slice_index l.nets.items route.net) (take l.route-index l.given.routes.now)
