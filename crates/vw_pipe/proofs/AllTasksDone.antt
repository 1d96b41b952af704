-- All tasks are done.
use Rattle.std.proofs.Common.{◌≡◌, ◌<◌, ◌≤◌, ◌+◌, ◌∙◌, ◌∷◌, ◌&&◌, ◌||◌, ℕ, suc, Bool, true, false, not, List, [], length, take, eqb, if◌then◌else◌, slice_get, slice_index, slice_index_or, Some, ap, refl, sym, subst, true≢false, arith, eq-eqb}
use Rattle.std.specs.List.{All, AllZip, flat_map, list_any}
use Rattle.std.proofs.lemmas.Bool.{and_parts}
use Rattle.std.proofs.lemmas.List.{take_all}
use Rattle.std.proofs.lemmas.Option.{slice_get_within}
use Rattle.vw_net.specs.declared.ordered.Ordered.{Ordered}
use Rattle.vw_net.specs.Order.{is_among, is_gate}
use Rattle.vw_plan.specs.declared.board.Board.{Board}
use Rattle.vw_plan.specs.declared.link.Link.{Link}
use Rattle.vw_plan.specs.declared.need.Route.{Route}
use Rattle.vw_plan.specs.declared.plan.Plan.{Plan}
use Rattle.vw_plan.specs.declared.wire.Hop.{Hop}
use Rattle.vw_plan.specs.declared.wire.Wire.{Wire}
use Rattle.vw_plan.specs.Earliest.{AreEarliest, is_in_use}
use Rattle.vw_plan.specs.Lead.{lead, usable}
use Rattle.vw_plan.specs.Nets.{driving_cell, is_read_at, node_of}
use Rattle.vw_plan.specs.Routes.{AreRoutes, steps_of}
use Rattle.vw_plan.specs.PlannedBoard.{PlannedBoard, home, planned_board}
use Rattle.vw_plan.specs.Sound.{share_pin}
use Rattle.vw_plan.specs.Walks.{IsWalk}
use Rattle.vw_slots.specs.Slots.{is_pin_taken}
use Rattle.vw_pipe.specs.declared.draft.Draft.{Draft}
use Rattle.vw_pipe.specs.declared.task.Task.{Task}
use Rattle.vw_pipe.specs.declared.turns.Turns.{Turns}
use Rattle.vw_pipe.specs.Steps.SentHops.{AreSent, hop_link}
use Rattle.vw_pipe.specs.Steps.FinishedSchedules.{IsAlong, IsTasksDone, IsSentWell, all_hops, uses}
use Rattle.vw_pipe.specs.Steps.Drafts.{hops_at}
use Rattle.vw_pipe.specs.Steps.Leads.{wires_of}
use Rattle.vw_pipe.specs.Steps.Underway.{AreTasks, IsSentOff, IsUnderway, is_passed, is_task, ready_by}
use Rattle.vw_pipe.proofs.LeadsRight.{HasRightLeads, leads_right, right_at}
use Rattle.vw_pipe.proofs.NeededRoutes.{route_needed}
use Rattle.vw_pipe.proofs.TaskReady.{its_route, route_linked}
use Rattle.vw_pipe.proofs.SentFacts.{sent_pins, sent_ready, sent_rises, sent_steps}
use Rattle.vw_pipe.proofs.StepsOf.{steps_long}
use Rattle.vw_pipe.proofs.WellSent.{all_wires, early_from, hops_same, uses_some}

-- what holds of each route and its hops
all_zip : (R : Route → List Hop → Type 0) (routes : List Route) (hops : List (List Hop)) → length hops ≡ length routes
    → ((number : ℕ) (route : Route) → slice_get routes number ≡ Some route → R route (slice_index_or hops number []))
    → AllZip R routes hops
all_zip R [] [] long each = tt
all_zip R [] (sent ∷ hops) long each = absurd (omega (arith, long))
all_zip R (route ∷ routes) [] long each = absurd (omega (arith, long))
all_zip R (route ∷ routes) (sent ∷ hops) long each =
    let others = all_zip R routes hops (omega (arith, long)) (λ number other at. each (suc number) other at) in
    (each 0 route refl, others)

walk_some : (links : List Link) (from : ℕ) (further : List ℕ) (to : ℕ) → IsWalk links from further to → (from ≡ to → ⊥) → 0 < length further
walk_some links from [] to walk apart = absurd (apart walk)
walk_some links from (node ∷ further) to walk apart = omega arith

low_bit : (bit : Bool) → (if bit then 1 else 0) ≤ 1
low_bit true = omega arith
low_bit false = omega arith

-- all tasks are done
record IsAllDone (ordered : Ordered) (board : Board) (chip_of : List ℕ) (routes : List Route) (turns : Turns) (tasks : List Task)
    (count : ℕ) (draft : Draft) : Type 0 where
  routes_are : AreRoutes ordered.flat board chip_of routes
  tasks_are : AreTasks ordered turns routes tasks
  whole : length tasks ≤ count
  way : IsUnderway ordered board chip_of routes tasks count draft

module _ {ordered : Ordered} {board : Board} {chip_of : List ℕ} {routes : List Route} {turns : Turns} {tasks : List Task} {count : ℕ} {draft : Draft}
    (all : IsAllDone ordered board chip_of routes turns tasks count draft) where
  all_taken : take count tasks ≡ take (length tasks) tasks
  all_taken = take_all count tasks all.whole ∙ sym (take_all (length tasks) tasks (omega arith))

  gate_done : (place : ℕ) → place < length ordered.order → is_passed tasks count false place ≡ true
  gate_done place within = ap (list_any (is_task false place)) all_taken ∙ all.tasks_are.gates place within

  off : (number : ℕ) (route : Route) → slice_get routes number ≡ Some route → IsSentOff ordered board chip_of routes draft route (hops_at draft number)
  off number route at =
      let in_the_end = all.tasks_are.routed number (slice_get_within routes number route at) in
      all.way.sent number route at (ap (list_any (is_task true number)) all_taken ∙ in_the_end)

  -- a route has a step
  some_steps : (number : ℕ) (route : Route) → slice_get routes number ≡ Some route → 0 < length (steps_of route.nodes)
  some_steps number route at =
      let its = its_route all.routes_are number route at in
      let home = node_of ordered.flat chip_of route.net in
      let is_read = is_read_at ordered.flat chip_of route.net route.to || (eqb route.to 0 && is_among ordered.flat.outputs route.net) in
      let needed = route_needed ordered.flat board chip_of routes all.routes_are number route at in
      let apart : home ≡ route.to → ⊥ = λ same.
      let not_home = (and_parts (not (eqb home route.to)) is_read needed).0 in
      true≢false (sym not_home ∙ ap not (eq-eqb home route.to same)) in
      let some = walk_some board.links home its.further route.to its.walk apart in
      omega (arith, some, ap (λ (nodes : List ℕ). length (steps_of nodes)) its.nodes, steps_long home its.further)

  along : (number : ℕ) (route : Route) → slice_get routes number ≡ Some route → IsAlong board route (hops_at draft number)
  along number route at =
      let sent = off number route at in
      let its = its_route all.routes_are number route at in
      let from = node_of ordered.flat chip_of route.net in
      let steps = steps_of route.nodes in
      let hops = hops_at draft number in
      let ready = ready_by ordered board chip_of routes draft.hops.items draft.leads.items route.net in
      let linked = route_linked its from its.further its.nodes in
      let sent_from = subst (λ (nodes : List ℕ). AreSent board sent.before ready (steps_of nodes) hops) its.nodes sent.sent in
      record {
        steps = sent_steps board sent.before ready steps hops sent.sent;
        rising = sent_rises board sent.before ready steps hops sent.sent;
        pins = sent_pins board sent.before ready from its.further hops linked sent_from;
      }

-- ---- with a plan

module _ {ordered : Ordered} {board : Board} (plan : Plan) {routes : List Route} {turns : Turns} {tasks : List Task} {count : ℕ} {draft : Draft}
    (all : IsAllDone ordered board plan.chip_of routes turns tasks count draft) (wires : plan.wires ≡ wires_of routes draft.hops.items) where
  abbrev planned : PlannedBoard
  planned = planned_board ordered board plan

  right : HasRightLeads ordered board plan routes draft.hops.items draft.leads.items
  right = record {
    long = all.way.fit.long;
    wires = wires;
    worked = λ place within. all.way.worked place within (gate_done all place within);
    zero_at = all.way.zero;
  }

  plan_leads : (net : ℕ) → lead (planned_board ordered board plan) (home (planned_board ordered board plan) net) net ≡ slice_index draft.leads.items net
  plan_leads net = leads_right right net

  -- a slot that is taken is used by a hop of the plan
  in_use : (hop : Hop) → is_pin_taken draft.table.taken (hop_link board hop) hop.pin hop.at ≡ true → is_in_use plan hop ≡ true
  in_use hop taken =
      let one : uses hop (all_hops draft.hops.items) ≡ 1 = all.way.slots hop ∙ ap (λ (bit : Bool). if bit then 1 else 0) taken in
      ap (λ (list : List Wire). list_any (share_pin hop) (flat_map (λ wire. wire.hops) list)) wires
      ∙ ap (list_any (share_pin hop)) (hops_same routes draft.hops.items all.way.fit.long)
      ∙ uses_some hop (all_hops draft.hops.items) (omega (arith, one))

  -- when a net is usable at its own node
  abbrev ready_at : ℕ → ℕ
  ready_at net = ready_by ordered board plan.chip_of routes draft.hops.items draft.leads.items net

  usable_same : (net : ℕ) → usable planned (home planned net) net ≡ ready_at net
  usable_same net =
      let own = home planned net in
      let settle = if is_gate (driving_cell ordered.flat net) && eqb own own then board.settle else 0 in
      ap (λ (lead : ℕ). lead + settle) (right_at right own net (plan_leads net))

  well : (number : ℕ) (route : Route) → slice_get routes number ≡ Some route
      → IsSentWell planned (record { net = route.net; to = route.to; hops = slice_index_or draft.hops.items number [] })
  well number route at =
      let sent = off all number route at in
      let steps = steps_of route.nodes in
      let hops = hops_at draft number in
      let ready = ready_at route.net in
      let first = sent_ready board sent.before ready steps hops (some_steps all number route at) sent.sent in
      let early = early_from board plan draft.table.taken in_use sent.before ready steps hops sent.sent sent.stays in
      let its_usable = usable_same route.net in
      record {
        when_usable = λ hop is. omega (arith, first hop is, its_usable);
        earliest = subst (λ (microcycle : ℕ). AreEarliest board plan microcycle hops) (sym its_usable) early;
      }

  all_well : All (IsSentWell planned) plan.wires
  all_well = subst (All (IsSentWell planned)) (sym wires) (all_wires (IsSentWell planned) routes draft.hops.items all.way.fit.long well)

-- ---- all of it

pub finished : (ordered : Ordered) (board : Board) (chip_of : List ℕ) (routes : List Route) (turns : Turns) (tasks : List Task) (count : ℕ) (draft : Draft)
    → AreRoutes ordered.flat board chip_of routes → AreTasks ordered turns routes tasks → length tasks ≤ count
    → IsUnderway ordered board chip_of routes tasks count draft → IsTasksDone ordered board chip_of routes draft
finished ordered board chip_of routes turns tasks count draft routes_are tasks_are whole way =
    let all : IsAllDone ordered board chip_of routes turns tasks count draft = record {
      routes_are = routes_are;
      tasks_are = tasks_are;
      whole = whole;
      way = way;
    } in
    let with_chips = λ (chips : List ℕ). IsAllDone ordered board chips routes turns tasks count draft in
    record {
      fit = way.fit;
      along = all_zip (IsAlong board) routes draft.hops.items way.fit.long (along all);
      once = λ hop. omega (arith, way.slots hop, low_bit (is_pin_taken draft.table.taken (hop_link board hop) hop.pin hop.at));
      sent_well = λ plan has. all_well plan (subst with_chips (sym has.chips) all) has.wires;
      leads = λ plan has net within. plan_leads plan (subst with_chips (sym has.chips) all) has.wires net;
      last = way.last;
    }
