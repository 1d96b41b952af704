-- Routes that are as short as they can be.
use Rattle.std.specs.Prelude.{◌≡◌, ℕ, List, length}
use Rattle.vw_net.specs.declared.flat.Flat.{Flat}
use Rattle.vw_plan.specs.declared.board.Board.{Board}
use Rattle.vw_plan.specs.declared.need.Route.{Route}
use Rattle.vw_plan.specs.Distance.{distance}
use Rattle.vw_plan.specs.Nets.{node_of}
use Rattle.vw_plan.specs.Routes.{IsRoute, steps_of}

-- a route has as many links as its nodes are apart
pub record IsShortRoute (flat : Flat) (board : Board) (chip_of : List ℕ) (route : Route) : Type 0 where
  pub route_is : IsRoute flat board chip_of route
  pub short : length (steps_of route.nodes) ≡ distance board (node_of flat chip_of route.net) route.to
