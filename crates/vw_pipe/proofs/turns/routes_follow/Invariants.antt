-- no route so far comes before its net
use Rattle.std.proofs.Common.{◌≡◌, ◌<◌, ◌≤◌, ℕ, length, slice_get, slice_index, Some}
use Rattle.vw_plan.specs.declared.need.Route.{Route}
use Rattle.vw_pipe.proofs.turns.routes_follow.Given as goal

abbrev pub invariant-loop-number : goal.invariant-loop-number
invariant-loop-number l = (place : ℕ) (route : Route) → place < l.number → slice_get l.given.routes.now place ≡ Some route
    → slice_index l.turns.nets.items route.net ≤ slice_index l.turns.routes.items place
