-- A schedule of shortest routes of a placement is a plan for its chips, and a good one where these are best.
use Rattle.std.proofs.Common.{◌≡◌, ℕ, suc, List, [], ◌∷◌, length, map, refl, sym, subst, ◌∙◌, ap, ap₂, All}
use Rattle.std.specs.List.{AllZip}
use Rattle.std.proofs.lemmas.List.Elements.{All-nil, All-cons, All-head, All-tail}
use Rattle.vw_net.specs.declared.flat.Flat.{Flat}
use Rattle.vw_net.specs.declared.ordered.Ordered.{Ordered}
use Rattle.vw_plan.specs.declared.board.Board.{Board}
use Rattle.vw_plan.specs.declared.need.Need.{Need}
use Rattle.vw_plan.specs.declared.need.Route.{Route}
use Rattle.vw_plan.specs.declared.plan.Plan.{Plan}
use Rattle.vw_plan.specs.declared.wire.Hop.{Hop}
use Rattle.vw_plan.specs.declared.wire.Wire.{Wire}
use Rattle.vw_plan.specs.Distance.{distance}
use Rattle.vw_plan.specs.Good.{IsGood, NoMoveHelps, NoExchangeHelps}
use Rattle.vw_plan.specs.Needs.{needed_pairs}
use Rattle.vw_plan.specs.Nets.{node_of}
use Rattle.vw_plan.specs.Routes.{AreRoutes, FollowsRoute, need_of_route}
use Rattle.vw_plan.specs.PlannedBoard.{planned_board}
use Rattle.vw_pipe.specs.Schedules.{IsSchedule}
use Rattle.vw_run.specs.GivenChips.{IsPlanFor}
use Rattle.vw_run.specs.Shortest.{IsShortRoute}

abbrev need_of_wire : Wire → Need
need_of_wire wire = record { net = wire.net; to = wire.to }

-- wires that follow routes are for the same pairs
pairs_followed : (routes : List Route) (wires : List Wire) → AllZip FollowsRoute routes wires → map need_of_wire wires ≡ map need_of_route routes
pairs_followed [] [] follows = refl
pairs_followed [] (wire ∷ wires) follows = absurd follows
pairs_followed (route ∷ routes) [] follows = absurd follows
pairs_followed (route ∷ routes) (wire ∷ wires) follows =
    let net = follows.0.net in
    let to = follows.0.to in
    let same : need_of_wire wire ≡ need_of_route route = λ i. record { net = net i; to = to i } in
    let rest : map need_of_wire wires ≡ map need_of_route routes = pairs_followed routes wires follows.1 in
    λ i. same i ∷ rest i

abbrev ends_of : Hop → ℕ × ℕ
ends_of hop = (hop.from, hop.to)

length_steps : (hops : List Hop) → length (map ends_of hops) ≡ length hops
length_steps [] = refl
length_steps (hop ∷ hops) = ap suc (length_steps hops)

short_wires : (flat : Flat) (board : Board) (chip_of : List ℕ) (routes : List Route) (wires : List Wire) → AllZip FollowsRoute routes wires → All (IsShortRoute flat board chip_of) routes
    → All (λ wire. length wire.hops ≡ distance board (node_of flat chip_of wire.net) wire.to) wires
short_wires flat board chip_of [] [] follows short = All-nil (λ wire. length wire.hops ≡ distance board (node_of flat chip_of wire.net) wire.to)
short_wires flat board chip_of [] (wire ∷ wires) follows short = absurd follows
short_wires flat board chip_of (route ∷ routes) [] follows short = absurd follows
short_wires flat board chip_of (route ∷ routes) (wire ∷ wires) follows short =
    let its = All-head (IsShortRoute flat board chip_of) route routes short in
    let here : length wire.hops ≡ distance board (node_of flat chip_of wire.net) wire.to =
    sym (length_steps wire.hops) ∙ ap (λ (steps : List (ℕ × ℕ)). length steps) follows.0.steps ∙ its.short ∙ ap₂ (λ (net to : ℕ). distance board (node_of flat chip_of net) to) (sym follows.0.net) (sym follows.0.to) in
    All-cons (λ (one : Wire). length one.hops ≡ distance board (node_of flat chip_of one.net) one.to) wire wires here
    (short_wires flat board chip_of routes wires follows.1 (All-tail (IsShortRoute flat board chip_of) route routes short))

-- it is a plan for its chips
pub plan_made : (ordered : Ordered) (board : Board) (chip_of : List ℕ) (routes : List Route) (plan : Plan) → IsSchedule ordered board chip_of routes plan → AreRoutes ordered.flat board chip_of routes → All (IsShortRoute ordered.flat board chip_of) routes
    → IsPlanFor ordered board chip_of plan
plan_made ordered board chip_of routes plan is are short = record {
  chips = is.chips;
  sound = is.sound;
  in_order = pairs_followed routes plan.wires is.follows ∙ are.pairs ∙ ap (needed_pairs ordered.flat) (sym is.chips);
  short = subst (λ (chips : List ℕ). All (λ (wire : Wire). length wire.hops ≡ distance board (node_of ordered.flat chips wire.net) wire.to) plan.wires) (sym is.chips) (short_wires ordered.flat board chip_of routes plan.wires is.follows short);
  earliest = is.earliest;
  least_period = is.least_period;
}

-- and a good one, where no other chips are better
pub good_plan : (ordered : Ordered) (board : Board) (chip_of : List ℕ) (plan : Plan) → IsPlanFor ordered board chip_of plan → NoMoveHelps ordered.flat board chip_of → NoExchangeHelps ordered.flat board chip_of → IsGood (planned_board ordered board plan)
good_plan ordered board chip_of plan is moves exchanges = record {
  sound = is.sound;
  in_order = is.in_order;
  no_move_helps = subst (NoMoveHelps ordered.flat board) (sym is.chips) moves;
  no_exchange_helps = subst (NoExchangeHelps ordered.flat board) (sym is.chips) exchanges;
  short = is.short;
  earliest = is.earliest;
  least_period = is.least_period;
}
