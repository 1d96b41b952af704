-- What a task rests on is done before it.
use Rattle.std.proofs.Common.{◌≡◌, ◌<◌, ◌≤◌, ◌+◌, ◌-◌, ◌∙◌, ◌∷◌, ◌&&◌, ◌||◌, ℕ, zero, suc, Bool, true, false, not, List, [], length, map, get_or, eqb, nat_lt, if◌then◌else◌, slice_get, slice_index, Option, Some, None, ap, ap₂, refl, sym, subst, ⊎_elim, true≢false, arith, eqb-true, eq-eqb}
use Rattle.std.specs.List.{list_any}
use Rattle.std.proofs.lemmas.Bool.{and_from, and_parts, cases_Bool, cases_lt, lt-ltb, ne_eqb, or_left}
use Rattle.std.proofs.lemmas.List.Folds.{list_any_at}
use Rattle.std.proofs.lemmas.Option.{slice_get-get_or, slice_get_within}
use Rattle.vw_net.proofs.Orders.{among_at, eqb_comm}
use Rattle.vw_net.specs.FirstFound.{found_if}
use Rattle.std.specs.Option.{option_or}
use Rattle.vw_ready.specs.Pairs.{first_pair, is_number_pair}
use Rattle.vw_net.specs.declared.cell.Cell.{Cell}
use Rattle.vw_net.specs.declared.cell.Cell.TheVariants.{Gate, Latch}
use Rattle.vw_net.specs.declared.flat.Flat.{Flat}
use Rattle.vw_net.specs.declared.ordered.Ordered.{Ordered}
use Rattle.vw_net.specs.Order.{is_among, is_gate, read_nets_at, gate_inputs}
use Rattle.vw_plan.specs.declared.board.Board.{Board}
use Rattle.vw_plan.specs.declared.need.Route.{Route}
use Rattle.vw_plan.specs.Needs.{is_pair}
use Rattle.vw_plan.specs.Nets.{driving_cell, is_needed, is_read_at, node_of}
use Rattle.vw_plan.specs.Routes.{need_of_route}
use Rattle.vw_plan.proofs.NeededPairs.{any-needed_pairs}
use Rattle.vw_plan.proofs.ReadNets.{read_there}
use Rattle.vw_pipe.specs.declared.task.Task.{Task}
use Rattle.vw_pipe.specs.declared.turns.Turns.{Turns}
use Rattle.vw_pipe.specs.Steps.Leads.{route_pairs}
use Rattle.vw_pipe.specs.Steps.Turns.{ComesBefore}
use Rattle.vw_pipe.specs.Steps.Underway.{is_passed, task_at}
use Rattle.vw_pipe.proofs.DoneTasks.{IsAgenda, done_earlier, done_later, kind_at}
use Rattle.vw_pipe.proofs.UntouchedMicrocycles.{IsHomeDone, ReadsRestOnDone, RestsOnDone, route_place}

-- a net that a gate drives is past the inputs, and its number is a gate's
pub gate_number : (flat : Flat) (net : ℕ) → is_gate (driving_cell flat net) ≡ true
    → (flat.inputs ≤ net) × (is_gate (slice_get flat.cells (net - flat.inputs)) ≡ true)
gate_number flat net gate =
    let cell = slice_get flat.cells (net - flat.inputs) in
    let driven_by : Bool → Bool = λ input. is_gate (if input then None else cell) in
    let if_input = λ (input : nat_lt net flat.inputs ≡ true).
    let none : is_gate (driving_cell flat net) ≡ false = ap driven_by input in
    let whole : (flat.inputs ≤ net) × (is_gate cell ≡ true) = absurd (true≢false (sym gate ∙ none)) in whole in
    let if_past = λ (past : nat_lt net flat.inputs ≡ false).
    let same : is_gate cell ≡ true = sym (ap driven_by past) ∙ gate in
    let late : flat.inputs ≤ net =
    ⊎_elim (λ less. absurd (true≢false (sym (lt-ltb net flat.inputs less) ∙ past))) (λ no_less. no_less) (cases_lt net flat.inputs) in
    let whole : (flat.inputs ≤ net) × (is_gate cell ≡ true) = (late, same) in whole in
    ⊎_elim if_input if_past (cases_Bool (nat_lt net flat.inputs))

reads_among : (cell : Option Cell) (place default : ℕ) → place < length (gate_inputs cell)
    → is_among (read_nets_at cell) (get_or (gate_inputs cell) place default) ≡ true
reads_among None place default within = absurd (omega (arith, within))
reads_among (Some (Gate ins cover)) place default within =
    let net = get_or ins place default in
    list_any_at (λ other. eqb other net) ins place default within (eq-eqb net net refl)
reads_among (Some (Latch d init)) place default within = absurd (omega (arith, within))

-- whether a net and a node are the pair of a route
abbrev is_listed : List Route → ℕ → ℕ → Bool
is_listed routes net node = list_any (is_pair net node) (map need_of_route routes)

-- the first route that brings a net to a node is one of the routes, and the first of the pair
abbrev HasRoute : List Route → ℕ → ℕ → Type 0
HasRoute routes net node = (route_place routes net node < length routes)
    × (first_pair 0 (route_pairs routes) net node ≡ Some (route_place routes net node))

-- the same of routes that are numbered from a number on
abbrev HasRouteFrom : ℕ → List Route → ℕ → ℕ → Type 0
HasRouteFrom from routes net node = (route_place routes net node < length routes)
    × (first_pair from (route_pairs routes) net node ≡ Some (from + route_place routes net node))

-- a pair that is listed has a route
listed_from : (from : ℕ) (routes : List Route) (net node : ℕ) → is_listed routes net node ≡ true → HasRouteFrom from routes net node
listed_from from [] net node listed = absurd (true≢false (sym listed))
listed_from from (first ∷ routes) net node listed = by (eqb first.net net && eqb first.to node) refl (listed_from (suc from) routes net node) where
  found_in : Bool → Option ℕ
  found_in here = option_or (found_if here from) (first_pair (suc from) (route_pairs routes) net node)

  turned : is_number_pair net node (first.net, first.to) ≡ (eqb first.net net && eqb first.to node)
  turned = ap₂ (λ (one other : Bool). one && other) (eqb_comm net first.net) (eqb_comm node first.to)

  by : (here : Bool) → (eqb first.net net && eqb first.to node) ≡ here → (is_listed routes net node ≡ true → HasRouteFrom (suc from) routes net node)
      → HasRouteFrom from (first ∷ routes) net node
  by true is more =
      let own : from + 0 ≡ from = omega arith in
      rw is (omega arith, ap found_in (turned ∙ is) ∙ ap Some (sym own))
  by false is more =
      let rest = more (sym (ap (λ (bit : Bool). bit || is_listed routes net node) is) ∙ listed) in
      let place = route_place routes net node in
      let next : suc from + place ≡ from + suc place = omega arith in
      rw is (omega (arith, rest.0), ap found_in (turned ∙ is) ∙ rest.1 ∙ ap Some next)

place_listed : (routes : List Route) (net node : ℕ) → is_listed routes net node ≡ true → HasRoute routes net node
place_listed routes net node listed =
    let found = listed_from 0 routes net node listed in
    let same : 0 + route_place routes net node ≡ route_place routes net node = omega arith in
    (found.0, found.1 ∙ ap Some same)

-- what is done stays done
pub done_to : (tasks : List Task) (from more : ℕ) (sends : Bool) (place : ℕ) → from + more ≤ length tasks
    → is_passed tasks from sends place ≡ true → is_passed tasks (from + more) sends place ≡ true
done_to tasks from zero sends place within done =
    let same : from + 0 ≡ from = omega arith in
    ap (λ (n : ℕ). is_passed tasks n sends place) same ∙ done
done_to tasks from (suc more) sends place within done =
    let next : from + suc more ≡ (from + more) + 1 = omega arith in
    let before = done_to tasks from more sends place (omega (arith, within)) done in
    ap (λ (n : ℕ). is_passed tasks n sends place) next ∙ done_later tasks (from + more) sends place (omega (arith, within)) before

pub done_by : (tasks : List Task) (from to : ℕ) (sends : Bool) (place : ℕ) → from ≤ to → to ≤ length tasks
    → is_passed tasks from sends place ≡ true → is_passed tasks to sends place ≡ true
done_by tasks from to sends place before within done =
    let sum : from + (to - from) ≡ to = omega (arith, before) in
    ap (λ (n : ℕ). is_passed tasks n sends place) (sym sum) ∙ done_to tasks from (to - from) sends place (omega (arith, sum, within)) done

module _ {ordered : Ordered} {board : Board} {chip_of : List ℕ} {routes : List Route} {turns : Turns} {tasks : List Task}
    (agenda : IsAgenda ordered board chip_of routes turns tasks) where
  -- the net of the gate at a place of the order
  abbrev net_at : ℕ → ℕ
  net_at place = ordered.flat.inputs + slice_index ordered.order place

  -- what that gate reads, and the node that it is on
  abbrev reads_at : ℕ → List ℕ
  reads_at place = gate_inputs (slice_get ordered.flat.cells (slice_index ordered.order place))

  abbrev node_at : ℕ → ℕ
  node_at place = slice_index chip_of (slice_index ordered.order place)

  -- what is settled stays so
  pub home_later : (from to net : ℕ) → from ≤ to → to ≤ length tasks
      → IsHomeDone ordered board chip_of routes tasks from net → IsHomeDone ordered board chip_of routes tasks to net
  home_later from to net before within home gate =
      let found = home gate in
      (found.0, found.1, found.2, done_by tasks from to false found.0 before within found.3)

  pub settled_later : (from to node net : ℕ) → from ≤ to → to ≤ length tasks
      → RestsOnDone ordered board chip_of routes tasks from node net → RestsOnDone ordered board chip_of routes tasks to node net
  settled_later from to node net before within settled = (
    λ home. home_later from to net before within (settled.0 home),
    λ away. done_by tasks from to true (route_place routes net node) before within (settled.1 away),
  )

  -- routes of earlier turns are sent before a task
  pub sooner_before : (at : ℕ) → at < length tasks → (number : ℕ) → number < length routes
      → slice_index turns.routes.items number < (task_at tasks at).turn → is_passed tasks at true number ≡ true
  sooner_before at within number inside less =
      let in_the_end = agenda.tasks_are.routed number inside in
      done_earlier agenda.tasks_are at true number within in_the_end (λ other other_inside sends place most.
      let kind = kind_at agenda.tasks_are other true other_inside sends in
      let its_turn : (task_at tasks other).turn ≡ slice_index turns.routes.items number = kind.1 ∙ ap (slice_index turns.routes.items) place in
      omega (arith, less, its_turn, most.turns))

  -- the place of a gate's net
  pub gate_place : (net : ℕ) → is_gate (driving_cell ordered.flat net) ≡ true
      → (place : ℕ) × (place < length ordered.order) × (net ≡ ordered.flat.inputs + slice_index ordered.order place)
  gate_place net gate =
      let its = gate_number ordered.flat net gate in
      let number = net - ordered.flat.inputs in
      let found = among_at ordered.order number (sym (ordered.is_order.each number) ∙ its.1) in
      let same : net ≡ net_at found.0 = omega (arith, its.0, found.2) in
      (found.0, found.1, same)

  -- the turn of the task for the gate of a net
  lead_turn : (at place net : ℕ) → at < length tasks → (task_at tasks at).sends ≡ false → (task_at tasks at).place ≡ place
      → net ≡ ordered.flat.inputs + slice_index ordered.order place → (task_at tasks at).turn ≡ slice_index turns.nets.items net
  lead_turn at place net within sends is net_is =
      let kind = kind_at agenda.tasks_are at false within sends in
      kind.1 ∙ ap (λ (p : ℕ). slice_index turns.nets.items (net_at p)) is ∙ ap (slice_index turns.nets.items) (sym net_is)

  -- the lead of a net is worked out before its hops are sent
  pub home_before : (at number : ℕ) (route : Route) → at < length tasks → (task_at tasks at).sends ≡ true → (task_at tasks at).place ≡ number
      → slice_get routes number ≡ Some route → IsHomeDone ordered board chip_of routes tasks at route.net
  home_before at number route within sends place is gate =
      let found = gate_place route.net gate in
      let own = kind_at agenda.tasks_are at true within sends in
      let its_turn : (task_at tasks at).turn ≡ slice_index turns.routes.items number = own.1 ∙ ap (slice_index turns.routes.items) place in
      let late = agenda.kept.sent.late number route is in
      let in_the_end = agenda.tasks_are.gates found.0 found.1 in
      let done = done_earlier agenda.tasks_are at false found.0 within in_the_end (λ other inside other_sends other_place most.
      let same = lead_turn other found.0 route.net inside other_sends other_place found.2 in
      let ranks = most.kinds (omega (arith, its_turn, late, same, most.turns)) in
      let no : 1 ≤ 0 = rw (sends, other_sends) at ranks in
      omega (arith, no)) in
      (found.0, found.1, found.2, done)

  -- what a gate reads is settled before its lead is worked out
  pub settled_before : (at place : ℕ) → at < length tasks → (task_at tasks at).sends ≡ false → (task_at tasks at).place ≡ place
      → ReadsRestOnDone ordered board chip_of routes tasks at place
  settled_before at place within sends is = λ turn default inside. (at_home turn default inside, away turn default inside) where
    read : ℕ → ℕ → ℕ
    read turn default = get_or (gate_inputs (slice_get ordered.flat.cells (slice_index ordered.order place))) turn default

    place_within : place < length ordered.order
    place_within = subst (λ (p : ℕ). p < length ordered.order) is (kind_at agenda.tasks_are at false within sends).0

    before : (turn default : ℕ) → turn < length (reads_at place)
        → ComesBefore routes turns.nets.items turns.routes.items (node_at place) (slice_index turns.nets.items (net_at place)) (read turn default)
    before turn default inside = agenda.kept.gates place place_within turn default inside

    its_turn : (task_at tasks at).turn ≡ slice_index turns.nets.items (net_at place)
    its_turn = lead_turn at place (net_at place) within sends is refl

    sooner : (turn default : ℕ) → turn < length (reads_at place) → slice_index turns.nets.items (read turn default) < (task_at tasks at).turn
    sooner turn default inside = omega (arith, (before turn default inside).own, its_turn)

    at_home : (turn default : ℕ) → turn < length (reads_at place) → node_of ordered.flat chip_of (read turn default) ≡ node_at place
        → IsHomeDone ordered board chip_of routes tasks at (read turn default)
    at_home turn default inside own_is gate =
        let net = read turn default in
        let found = gate_place net gate in
        let in_the_end = agenda.tasks_are.gates found.0 found.1 in
        let done = done_earlier agenda.tasks_are at false found.0 within in_the_end (λ other within_other other_sends other_place most.
        let turn_is = lead_turn other found.0 net within_other other_sends other_place found.2 in
        omega (arith, most.turns, turn_is, sooner turn default inside)) in
        (found.0, found.1, found.2, done)

    away : (turn default : ℕ) → turn < length (reads_at place) → (node_of ordered.flat chip_of (read turn default) ≡ node_at place → ⊥)
        → is_passed tasks at true (route_place routes (read turn default) (node_at place)) ≡ true
    away turn default inside apart =
        let net = read turn default in
        let number = slice_index ordered.order place in
        let node = node_at place in
        let among = reads_among (slice_get ordered.flat.cells number) turn default inside in
        let reads : is_read_at ordered.flat chip_of net node ≡ true = read_there chip_of ordered.flat.cells number net agenda.each among in
        let not_home = ap not (ne_eqb (node_of ordered.flat chip_of net) node apart) in
        let needed : is_needed ordered.flat chip_of net node ≡ true = and_from _ _ not_home (or_left _ _ reads) in
        let same_pairs = ap (list_any (is_pair net node)) agenda.routes_are.pairs in
        let listed : is_listed routes net node ≡ true = same_pairs ∙ any-needed_pairs ordered.flat chip_of net node ∙ needed in
        let placed = place_listed routes net node listed in
        let its_place = route_place routes net node in
        let less = (before turn default inside).brought its_place placed.1 in
        sooner_before at within its_place placed.0 (omega (arith, less, its_turn))
