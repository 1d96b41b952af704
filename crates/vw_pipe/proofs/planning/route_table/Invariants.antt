-- the pairs of the routes so far, and those of the rest
use Rattle.std.proofs.Common.{◌≡◌, ◌++◌, drop}
use Rattle.vw_pipe.specs.Steps.Leads.{route_pairs}
use Rattle.vw_pipe.proofs.planning.route_table.Given as goal

abbrev pub invariant-loop-route : goal.invariant-loop-route
invariant-loop-route l = l.pairs.items ++ route_pairs (drop l.route-index l.routes) ≡ route_pairs l.routes
