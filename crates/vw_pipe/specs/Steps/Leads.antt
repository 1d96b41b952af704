-- Leads from the hops so far. Source: this project.
use Rattle.std.specs.Prelude.{◌==◌, ◌&&◌, ℕ, List, [], ◌∷◌, map, if◌then◌else◌}
use Rattle.vw_net.specs.declared.flat.Flat.{Flat}
use Rattle.vw_plan.specs.declared.board.Board.{Board}
use Rattle.vw_plan.specs.declared.need.Route.{Route}
use Rattle.vw_plan.specs.declared.wire.Hop.{Hop}
use Rattle.vw_plan.specs.declared.wire.Wire.{Wire}
use Rattle.vw_plan.specs.Lead.{after_last}
use Rattle.vw_ready.specs.Leads as by_table

-- the pairs of a net and a node that some routes are for
abbrev pub route_pairs : List Route → List (ℕ × ℕ)
route_pairs routes = map (λ route. (route.net, route.to)) routes

-- the hops of the first route that brings a net to a node; none where there is no such route
abbrev pub route_hops_to : List Route → List (List Hop) → ℕ → ℕ → List Hop
route_hops_to [] hops node net = []
route_hops_to (route ∷ routes) [] node net = []
route_hops_to (route ∷ routes) (sent ∷ hops) node net = if route.net == net && route.to == node then sent else route_hops_to routes hops node net

-- the wires of some routes with these hops
abbrev pub wires_of : List Route → List (List Hop) → List Wire
wires_of [] hops = []
wires_of (route ∷ routes) [] = []
wires_of (route ∷ routes) (sent ∷ hops) = record { net = route.net; to = route.to; hops = sent } ∷ wires_of routes hops

-- one past the arrival of a net at a node, by the hops of routes; 0 where there are none
abbrev pub arrived_by : Board → List Route → List (List Hop) → ℕ → ℕ → ℕ
arrived_by board routes hops net node = after_last board.links (route_hops_to routes hops node net)

-- the lead of a net at a node, from leads at their own nodes and hops
abbrev pub lead_so_far : Flat → Board → List ℕ → List Route → List (List Hop) → List ℕ → ℕ → ℕ → ℕ
lead_so_far flat board chip_of routes hops leads node net =
    by_table.lead_by flat chip_of (arrived_by board routes hops) leads node net

-- the microcycle from which on a node can use a net, from the same
abbrev pub usable_so_far : Flat → Board → List ℕ → List Route → List (List Hop) → List ℕ → ℕ → ℕ → ℕ
usable_so_far flat board chip_of routes hops leads node net =
    by_table.usable_by flat chip_of board.settle (arrived_by board routes hops) leads node net
