-- The hops of one route more are sent.
use Rattle.std.proofs.Common.{◌≡◌, ◌<◌, ◌≤◌, ◌+◌, ◌∙◌, ◌∷◌, ◌++◌, ◌&&◌, ℕ, zero, suc, Bool, true, false, List, [], length, length-append, map, max, get_or, set, eqb, if◌then◌else◌, slice_get, slice_index, slice_index_or, Some, ap, refl, sym, subst, ⊎_elim, true≢false, arith}
use Rattle.std.specs.List.{All}
use Rattle.std.proofs.lemmas.Bool.{or_left, or_right}
use Rattle.std.proofs.lemmas.List.{get_or-set_other, length-map, length-set}
use Rattle.std.proofs.lemmas.List.Elements.{All-set, All-weaker}
use Rattle.std.proofs.lemmas.List.Folds.{list_any-append}
use Rattle.std.proofs.lemmas.Option.{slice_get-get_or}
use Rattle.vw_net.specs.declared.ordered.Ordered.{Ordered}
use Rattle.vw_net.specs.Order.{is_gate}
use Rattle.vw_plan.specs.declared.board.Board.{Board}
use Rattle.vw_plan.specs.declared.link.Link.{Link}
use Rattle.vw_plan.specs.declared.need.Route.{Route}
use Rattle.vw_plan.specs.declared.wire.Hop.{Hop}
use Rattle.vw_plan.specs.Lead.{after_last}
use Rattle.vw_net.specs.Lists.{greatest}
use Rattle.vw_plan.specs.Nets.{driving_cell, node_of}
use Rattle.vw_plan.specs.Routes.{IsRoute, steps_of}
use Rattle.vw_slots.specs.declared.slot.Taken.{Taken}
use Rattle.vw_slots.specs.Slots.{is_pin_taken}
use Rattle.vw_pipe.specs.declared.draft.Draft.{Draft}
use Rattle.vw_pipe.specs.declared.task.Task.{Task}
use Rattle.vw_pipe.specs.declared.turns.Turns.{Turns}
use Rattle.vw_pipe.specs.Steps.SentHops.{AreSent, hop_link, hop_takes}
use Rattle.vw_pipe.specs.Steps.FinishedSchedules.{all_hops, uses}
use Rattle.vw_pipe.specs.Steps.Drafts.{DoesTask, IsEarly, IsSentMore, hops_at, microcycle_limit}
use Rattle.vw_pipe.specs.Steps.Leads.{usable_so_far}
use Rattle.vw_pipe.specs.Steps.Underway.{IsOfKind, IsSentOff, IsUnderway, is_passed, is_task, lead_at_place, ready_by, task_at}
use Rattle.vw_pipe.proofs.DoneTasks.{IsAgenda, done_or_next, is_passed-more, is_task-own, is_task-true, kind_at, not_done_before}
use Rattle.vw_pipe.proofs.UntouchedMicrocycles.{AreUntouched, place_kept, ready_kept}
use Rattle.vw_pipe.proofs.LeadLimits.{HasArrived, fit_low, last_low, lead_low}
use Rattle.vw_pipe.proofs.TaskReady.{hops-cons, its_route, room, route_linked, sent_long}
use Rattle.std.proofs.lemmas.Option.{same_Some}
use Rattle.vw_pipe.proofs.SettledReads.{home_before}
use Rattle.vw_pipe.proofs.Tally.{tally_sent, uses_set}
use Rattle.vw_pipe.proofs.LeadWorked.{done_other, home_done, reads_done}

-- hops that are written where none were
long_set : (hops : List (List Hop)) (number : ℕ) (sent : List Hop) → number < length hops → get_or hops number [] ≡ []
    → length (all_hops (set hops number sent)) ≡ length (all_hops hops) + length sent
long_set [] number sent within none = absurd (omega (arith, within))
long_set (first ∷ hops) zero sent within none =
    let empty : length first ≡ 0 = ap length none in
    omega (arith, empty, hops-cons sent hops, hops-cons first hops)
long_set (first ∷ hops) (suc number) sent within none =
    let rest = long_set hops number sent (omega (arith, within)) none in
    omega (arith, hops-cons first (set hops number sent), hops-cons first hops, rest)

greatest_set : (links : List Link) (hops : List (List Hop)) (number : ℕ) (sent : List Hop) → number < length hops → get_or hops number [] ≡ []
    → greatest (map (after_last links) (set hops number sent)) ≡ max (greatest (map (after_last links) hops)) (after_last links sent)
greatest_set links [] number sent within none = absurd (omega (arith, within))
greatest_set links (first ∷ hops) zero sent within none = let empty : after_last links first ≡ 0 = ap (after_last links) none in omega (arith, empty)
greatest_set links (first ∷ hops) (suc number) sent within none = omega (arith, greatest_set links hops number sent (omega (arith, within)) none)

settle_low : (board : Board) (bit : Bool) → (if bit then board.settle else 0) ≤ 15
settle_low board true = board.quick
settle_low board false = omega arith

module _ {ordered : Ordered} {board : Board} {chip_of : List ℕ} {routes : List Route} {turns : Turns} {tasks : List Task}
    (agenda : IsAgenda ordered board chip_of routes turns tasks) {count : ℕ} (within : count < length tasks)
    {draft : Draft} (way : IsUnderway ordered board chip_of routes tasks count draft) (sends : (task_at tasks count).sends ≡ true) where
  abbrev number : ℕ
  number = (task_at tasks count).place

  kind : IsOfKind ordered turns routes true (task_at tasks count)
  kind = kind_at agenda.tasks_are count true within sends

  not_done : is_passed tasks count true number ≡ false
  not_done = subst (λ (bit : Bool). is_passed tasks count bit number ≡ false) sends (agenda.tasks_are.once count within)

  none_yet : hops_at draft number ≡ []
  none_yet = way.none number not_done

  inside : number < length draft.hops.items
  inside = omega (arith, kind.0, way.fit.long)

  own_done : is_passed tasks (count + 1) true number ≡ true
  own_done =
      let is_own = subst (λ (bit : Bool). is_task bit number (task_at tasks count) ≡ true) sends (is_task-own (task_at tasks count)) in
      is_passed-more tasks count true number within ∙ or_right (is_passed tasks count true number) _ is_own

  not_own : (other : ℕ) → is_passed tasks count true other ≡ true → other ≡ number → ⊥
  not_own other done same = true≢false (sym done ∙ ap (is_passed tasks count true) same ∙ not_done)

  no_lead : (place : ℕ) → is_passed tasks (count + 1) false place ≡ true → is_passed tasks count false place ≡ true
  no_lead place done = done_other tasks count false place within (λ leads _. true≢false (sym sends ∙ leads)) done

  -- the microcycle at which a net is usable at its own node, by what was done before
  abbrev ready_before : ℕ → ℕ
  ready_before net = usable_so_far ordered.flat board chip_of routes draft.hops.items draft.leads.items (node_of ordered.flat chip_of net) net

  module _ {new : Draft} (route : Route) (there : slice_get routes number ≡ Some route)
      (has : IsSentMore board route number (ready_before route.net) draft new) where
    abbrev ready : ℕ
    ready = ready_before route.net

    abbrev sent_hops : List Hop
    sent_hops = hops_at new number

    -- how late microcycles may be, before and now
    abbrev old_top : ℕ
    old_top = microcycle_limit (length draft.table.taken)

    abbrev top : ℕ
    top = microcycle_limit (length new.table.taken)

    -- whether a hop's pin is taken in its microcycle
    abbrev takes : List Taken → Hop → Bool
    takes taken hop = is_pin_taken taken (hop_link board hop) hop.pin hop.at

    its : IsRoute ordered.flat board chip_of route
    its = its_route agenda.routes_are number route there

    hops_other : (other : ℕ) → (other ≡ number → ⊥) → hops_at new other ≡ hops_at draft other
    hops_other other apart =
        ap (λ (list : List (List Hop)). slice_index_or list other []) has.hops ∙ get_or-set_other draft.hops.items number other sent_hops [] apart

    long_new : length new.hops.items ≡ length routes
    long_new = ap length has.hops ∙ length-set draft.hops.items number sent_hops ∙ way.fit.long

    kept : AreUntouched ordered board chip_of routes tasks count draft.hops.items new.hops.items draft.leads.items new.leads.items
    kept = record {
      long = way.fit.long;
      long_more = long_new;
      leads_same = λ net home. ap (λ leads. slice_index leads.items net) has.leads;
      hops_same = λ other done. hops_other other (not_own other done);
    }

    as_long : length sent_hops ≡ length (steps_of route.nodes)
    as_long = sent_long board draft.table.taken ready (steps_of route.nodes) sent_hops has.sent

    taken_long : length new.table.taken ≡ length draft.table.taken + length sent_hops
    taken_long =
        let takes_of = map (hop_takes board) sent_hops in
        let long : length takes_of ≡ length sent_hops = length-map sent_hops (hop_takes board) in
        omega (arith, ap length has.taken, length-append draft.table.taken takes_of, long)

    ready_low : ready ≤ old_top + 15
    ready_low =
        let node = node_of ordered.flat chip_of route.net in
        let settles = is_gate (driving_cell ordered.flat route.net) && eqb node node in
        omega (arith, lead_low ordered.flat chip_of (fit_low way.fit) node route.net, settle_low board settles)

    sent_low : All (HasArrived board.links top) sent_hops
    sent_low place default early = omega (arith, has.soon place default early, ready_low, as_long, taken_long, early)

    -- what had arrived before has arrived now
    still_low : All (All (HasArrived board.links top)) draft.hops.items
    still_low =
        let later : (hop : Hop) → HasArrived board.links old_top hop → HasArrived board.links top hop = λ hop low. omega (arith, low, taken_long) in
        let all_later = λ (hops : List Hop). All-weaker (HasArrived board.links old_top) (HasArrived board.links top) later hops in
        All-weaker (All (HasArrived board.links old_top)) (All (HasArrived board.links top)) all_later draft.hops.items way.fit.early.sent

    off : (other : ℕ) (its_own : Route) → slice_get routes other ≡ Some its_own → is_passed tasks count true other ≡ true
        → IsSentOff ordered board chip_of routes draft its_own (hops_at draft other) → IsSentOff ordered board chip_of routes new its_own (hops_at new other)
    off other its_own is done sent =
        let steps = steps_of its_own.nodes in
        let same_hops = hops_other other (not_own other done) in
        let same_ready = ready_kept kept its_own.net (home_done agenda within other its_own is done) in
        let sent_now = subst (λ (microcycle : ℕ). AreSent board sent.before microcycle steps (hops_at draft other)) (sym same_ready) sent.sent in
        let ready_now = ready_by ordered board chip_of routes new.hops.items new.leads.items its_own.net in
        let more = map (hop_takes board) sent_hops in
        record {
          before = sent.before;
          sent = subst (λ (hops : List Hop). AreSent board sent.before ready_now steps hops) (sym same_hops) sent_now;
          stays = λ link pin at is.
              let its_slots = subst (λ (hops : List Hop). is_pin_taken (sent.before ++ map (hop_takes board) hops) link pin at ≡ true) same_hops is in
              ap (λ (list : List Taken). is_pin_taken list link pin at) has.taken
              ∙ list_any-append (λ slot. (eqb slot.link link && eqb slot.at at) && eqb slot.pin pin) draft.table.taken more
              ∙ or_left _ _ (sent.stays link pin at its_slots);
        }

    ready_now : ready_by ordered board chip_of routes new.hops.items new.leads.items route.net ≡ ready
    ready_now = ready_kept kept route.net (home_before agenda count number route within sends refl there)

    own_off : IsSentOff ordered board chip_of routes new route sent_hops
    own_off = record {
      before = draft.table.taken;
      sent = subst (λ (microcycle : ℕ). AreSent board draft.table.taken microcycle (steps_of route.nodes) sent_hops) (sym ready_now) has.sent;
      stays = λ link pin at is. ap (λ (list : List Taken). is_pin_taken list link pin at) has.taken ∙ is;
    }

    sent_at : (other : ℕ) (its_own : Route) → slice_get routes other ≡ Some its_own → is_passed tasks (count + 1) true other ≡ true
        → IsSentOff ordered board chip_of routes new its_own (hops_at new other)
    sent_at other its_own is done =
        let here = λ (own : is_task true other (task_at tasks count) ≡ true).
        let same : number ≡ other = (is_task-true true other (task_at tasks count) own).1 in
        let one : route ≡ its_own = same_Some route its_own (sym there ∙ ap (slice_get routes) same ∙ is) in
        let at_other = subst (λ (n : ℕ). IsSentOff ordered board chip_of routes new route (hops_at new n)) same own_off in
        subst (λ (r : Route). IsSentOff ordered board chip_of routes new r (hops_at new other)) one at_other in
        let before = λ (done_before : is_passed tasks count true other ≡ true). off other its_own is done_before (way.sent other its_own is done_before) in
        ⊎_elim before here (done_or_next tasks count (count + 1) true other refl within done)

    slots_at : (hop : Hop) → uses hop (all_hops new.hops.items) ≡ (if is_pin_taken new.table.taken (hop_link board hop) hop.pin hop.at then 1 else 0)
    slots_at hop =
        let from = node_of ordered.flat chip_of route.net in
        let sent_from : AreSent board draft.table.taken ready (steps_of (from ∷ its.further)) sent_hops =
        subst (λ (nodes : List ℕ). AreSent board draft.table.taken ready (steps_of nodes) sent_hops) its.nodes has.sent in
        let linked = route_linked its from its.further its.nodes in
        let uses_before = λ (one : Hop). uses one (all_hops draft.hops.items) in
        ap (λ (list : List (List Hop)). uses hop (all_hops list)) has.hops
        ∙ uses_set hop draft.hops.items number sent_hops inside none_yet
        ∙ tally_sent board uses_before draft.table.taken ready from its.further sent_hops linked sent_from way.slots hop
        ∙ ap (λ (list : List Taken). if takes list hop then 1 else 0) (sym has.taken)

    worked_at : (place : ℕ) → place < length ordered.order → is_passed tasks (count + 1) false place ≡ true
        → slice_index new.leads.items (ordered.flat.inputs + slice_index ordered.order place)
        ≡ lead_at_place ordered board chip_of routes new.hops.items new.leads.items place
    worked_at place early done =
        let net = ordered.flat.inputs + slice_index ordered.order place in
        let before = no_lead place done in
        let same_lead = place_kept kept place (reads_done agenda within place before) in
        ap (λ leads. slice_index leads.items net) has.leads ∙ way.worked place early before ∙ sym same_lead

    none_at : (other : ℕ) → is_passed tasks (count + 1) true other ≡ false → hops_at new other ≡ []
    none_at other not =
        let apart = λ (same : other ≡ number). true≢false (sym (ap (is_passed tasks (count + 1) true) same ∙ own_done) ∙ not) in
        hops_other other apart ∙ way.none other (not_done_before tasks count true other within not)

    last_now : new.after ≡ greatest (map (after_last board.links) new.hops.items)
    last_now =
        has.last
        ∙ ap (λ (after : ℕ). max after (after_last board.links sent_hops)) way.last
        ∙ sym (greatest_set board.links draft.hops.items number sent_hops inside none_yet)
        ∙ ap (λ (list : List (List Hop)). greatest (map (after_last board.links) list)) (sym has.hops)

    early : IsEarly board new
    early =
        let more_leads : (lead : ℕ) → lead ≤ old_top → lead ≤ top = λ lead low. omega (arith, low, taken_long) in
        let leads_low = All-weaker (λ lead. lead ≤ old_top) (λ lead. lead ≤ top) more_leads draft.leads.items way.fit.early.soon in
        let hops_low = All-set (All (HasArrived board.links top)) draft.hops.items number sent_hops sent_low still_low in
        record {
          few = omega (arith, taken_long, as_long, room agenda within way number route there none_yet);
          soon = subst (λ leads. All (λ lead. lead ≤ top) leads.items) (sym has.leads) leads_low;
          sent = subst (All (All (HasArrived board.links top))) (sym has.hops) hops_low;
          last = omega (arith, has.last, way.fit.early.last, taken_long, last_low board.links top sent_hops sent_low);
        }

    sent_one : IsUnderway ordered board chip_of routes tasks (count + 1) new
    sent_one = record {
      fit = record {
        nets = ap (λ leads. length leads.items) has.leads ∙ way.fit.nets;
        long = long_new;
        arrivals = has.arrivals;
        widths = has.widths ∙ way.fit.widths;
        early = early;
      };
      none = none_at;
      sent = sent_at;
      worked = worked_at;
      zero = λ net no. ap (λ leads. slice_index leads.items net) has.leads ∙ way.zero net no;
      last = last_now;
      size =
          let hops_now = ap (λ (list : List (List Hop)). length (all_hops list)) has.hops in
          omega (arith, taken_long, way.size, long_set draft.hops.items number sent_hops inside none_yet, hops_now);
      slots = slots_at;
    }

  pub sent_more : {new : Draft} → DoesTask ordered board chip_of routes true (task_at tasks count).place draft new
      → IsUnderway ordered board chip_of routes tasks (count + 1) new
  sent_more does =
      let no_route : Route = record { net = 0; to = 0; nodes = [] } in
      let route = get_or routes number no_route in
      let there : slice_get routes number ≡ Some route = slice_get-get_or routes number no_route kind.0 in
      sent_one route there (does route there)
