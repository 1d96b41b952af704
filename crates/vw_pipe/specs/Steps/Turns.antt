-- What comes first. Source: this project.
use Rattle.std.specs.Prelude.{◌≡◌, ◌+◌, ◌<◌, ◌≤◌, ℕ, List, length, slice_get, slice_index, Some}
use Rattle.std.specs.List.{All}
use Rattle.vw_net.specs.declared.ordered.Ordered.{Ordered}
use Rattle.vw_net.specs.Order.{gate_inputs}
use Rattle.vw_plan.specs.declared.need.Route.{Route}
use Rattle.vw_ready.specs.Pairs.{first_pair}
use Rattle.vw_pipe.specs.declared.turns.Turns.{Turns}
use Rattle.vw_pipe.specs.Steps.Leads.{route_pairs}

-- the nets that the gate at a place of the order reads, and its turn, by the turns of nets
abbrev pub reads_at : Ordered → ℕ → List ℕ
reads_at ordered place = gate_inputs (slice_get ordered.flat.cells (slice_index ordered.order place))

abbrev pub turn_at : Ordered → List ℕ → ℕ → ℕ
turn_at ordered nets place = slice_index nets (ordered.flat.inputs + slice_index ordered.order place)

-- each gate comes behind the nets that it reads
abbrev pub AreBehind : Ordered → List ℕ → Type 0
AreBehind ordered nets = (place : ℕ) → place < length ordered.order
    → All (λ read. slice_index nets read < turn_at ordered nets place) (reads_at ordered place)

-- a net, and the route that brings it to a node, come before a turn
pub record ComesBefore (routes : List Route) (nets sendings : List ℕ) (node turn net : ℕ) : Type 0 where
  pub own : slice_index nets net < turn
  pub brought : (place : ℕ) → first_pair 0 (route_pairs routes) net node ≡ Some place → slice_index sendings place < turn

-- the gate at a place of the order comes behind each net that it reads, at its node
abbrev pub IsBehindReads : Ordered → List ℕ → List Route → List ℕ → List ℕ → ℕ → Type 0
IsBehindReads ordered chip_of routes nets sendings place =
    All (ComesBefore routes nets sendings (slice_index chip_of (slice_index ordered.order place)) (turn_at ordered nets place))
    (reads_at ordered place)

-- each route has a turn, not before that of its net
pub record RoutesFollow (routes : List Route) (nets sendings : List ℕ) : Type 0 where
  pub long : length sendings ≡ length routes
  pub late : (number : ℕ) (route : Route) → slice_get routes number ≡ Some route → slice_index nets route.net ≤ slice_index sendings number

-- turns of nets and routes: what is worked out or sent rests on what has an earlier turn, or is the lead of the net of its turn
pub record AreTurns (ordered : Ordered) (chip_of : List ℕ) (routes : List Route) (turns : Turns) : Type 0 where
  pub gates : (place : ℕ) → place < length ordered.order → IsBehindReads ordered chip_of routes turns.nets.items turns.routes.items place
  pub sent : RoutesFollow routes turns.nets.items turns.routes.items
