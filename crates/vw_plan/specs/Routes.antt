-- The routes of needed pairs, and the wires that follow them. Source: this project.
use Rattle.std.specs.Prelude.{◌≡◌, ◌<◌, ◌^◌, ℕ, List, [], ◌∷◌, length, map, sum_by}
use Rattle.std.specs.List.{All}
use Rattle.vw_net.specs.declared.flat.Flat.{Flat}
use Rattle.vw_plan.specs.declared.board.Board.{Board}
use Rattle.vw_plan.specs.declared.need.Need.{Need}
use Rattle.vw_plan.specs.declared.need.Route.{Route}
use Rattle.vw_plan.specs.declared.wire.Wire.{Wire}
use Rattle.vw_plan.specs.Needs.{needed_pairs}
use Rattle.vw_plan.specs.Nets.{node_of}
use Rattle.vw_plan.specs.Walks.{IsWalk}

-- the pair that a route is for
abbrev pub need_of_route : Route → Need
need_of_route route = record { net = route.net; to = route.to }

-- the nodes of a route are a walk from the net's own node to the node where it is needed, both ends included
pub record IsRoute (flat : Flat) (board : Board) (chip_of : List ℕ) (route : Route) : Type 0 where
  pub further : List ℕ
  pub nodes : route.nodes ≡ node_of flat chip_of route.net ∷ further
  pub walk : IsWalk board.links (node_of flat chip_of route.net) further route.to

-- the steps from each of some nodes to the next
abbrev pub steps_of : List ℕ → List (ℕ × ℕ)
steps_of [] = []
steps_of (node ∷ []) = []
steps_of (node ∷ next ∷ nodes) = (node, next) ∷ steps_of (next ∷ nodes)

-- one route for each needed pair, in their order, with few links in all
pub record AreRoutes (flat : Flat) (board : Board) (chip_of : List ℕ) (routes : List Route) : Type 0 where
  pub pairs : map need_of_route routes ≡ needed_pairs flat chip_of
  pub each : All (IsRoute flat board chip_of) routes
  pub few : sum_by (λ route. length (steps_of route.nodes)) routes < 2 ^ 30

-- a wire follows a route: it brings its net to its node, hop by hop along its nodes
pub record FollowsRoute (route : Route) (wire : Wire) : Type 0 where
  pub net : wire.net ≡ route.net
  pub to : wire.to ≡ route.to
  pub steps : map (λ hop. (hop.from, hop.to)) wire.hops ≡ steps_of route.nodes
