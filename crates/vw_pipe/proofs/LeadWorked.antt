-- One lead more is worked out.
use Rattle.std.proofs.Common.{◌≡◌, ◌<◌, ◌≤◌, ◌+◌, ◌-◌, ◌∙◌, ℕ, Bool, true, false, List, [], length, map, eqb, nat_lt, if◌then◌else◌, slice_get, slice_index, slice_index_or, Some, None, ap, refl, sym, subst, ⊎_elim, true≢false, arith, eq-eqb}
use Rattle.std.specs.List.{All}
use Rattle.std.proofs.lemmas.Bool.{cases_order, le-ltb}
use Rattle.std.proofs.lemmas.Grind.{get_or-set_at}
use Rattle.std.proofs.lemmas.List.{get_or-set_other, length-set}
use Rattle.std.proofs.lemmas.List.Elements.{All-set}
use Rattle.std.proofs.lemmas.List.Folds.{list_any_at}
use Rattle.vw_net.specs.declared.ordered.Ordered.{Ordered}
use Rattle.vw_net.specs.Order.{is_gate}
use Rattle.vw_plan.specs.declared.board.Board.{Board}
use Rattle.vw_plan.specs.declared.need.Route.{Route}
use Rattle.vw_plan.specs.Lead.{after_last}
use Rattle.vw_plan.specs.Nets.{driving_cell}
use Rattle.vw_plan.specs.Routes.{steps_of}
use Rattle.vw_pipe.specs.declared.draft.Draft.{Draft}
use Rattle.vw_pipe.specs.declared.task.Task.{Task}
use Rattle.vw_pipe.specs.declared.turns.Turns.{Turns}
use Rattle.vw_pipe.specs.Steps.SentHops.{AreSent}
use Rattle.vw_pipe.specs.Steps.Drafts.{HasLead, hops_at, microcycle_limit}
use Rattle.vw_pipe.specs.Steps.Underway.{IsSentOff, IsUnderway, is_passed, is_task, lead_at_place, task_at}
use Rattle.vw_pipe.proofs.DoneTasks.{IsAgenda, done_at, done_or_next, is_task-true, kind_at, not_done_before}
use Rattle.vw_pipe.proofs.UntouchedMicrocycles.{AreUntouched, IsHomeDone, ReadsRestOnDone, place_kept, ready_kept}
use Rattle.vw_pipe.proofs.LeadLimits.{fit_low, read_low}
use Rattle.vw_net.proofs.ReadyNets.{order_within}
use Rattle.vw_pipe.proofs.SettledReads.{home_before, home_later, settled_before, settled_later}

-- of a task of another kind, what is done stays the same
pub done_other : (tasks : List Task) (count : ℕ) (sends : Bool) (place : ℕ) → count < length tasks
    → ((task_at tasks count).sends ≡ sends → (task_at tasks count).place ≡ place → ⊥)
    → is_passed tasks (count + 1) sends place ≡ true → is_passed tasks count sends place ≡ true
done_other tasks count sends place within differs done =
    let if_next = λ (here : is_task sends place (task_at tasks count) ≡ true).
    let its = is_task-true sends place (task_at tasks count) here in
    let whole : is_passed tasks count sends place ≡ true = absurd (differs its.0 its.1) in whole in
    ⊎_elim (λ before. before) if_next (done_or_next tasks count (count + 1) sends place refl within done)

-- a gate of the order drives its net
pub gate_in_order : (ordered : Ordered) (place : ℕ) → place < length ordered.order
    → is_gate (driving_cell ordered.flat (ordered.flat.inputs + slice_index ordered.order place)) ≡ true
gate_in_order ordered place within =
    let flat = ordered.flat in
    let number = slice_index ordered.order place in
    let no_input : nat_lt (flat.inputs + number) flat.inputs ≡ false = le-ltb _ _ (omega arith) in
    let its_number : (flat.inputs + number) - flat.inputs ≡ number = omega arith in
    ap (λ (bit : Bool). is_gate (if bit then None else slice_get flat.cells ((flat.inputs + number) - flat.inputs))) no_input
    ∙ ap (λ (n : ℕ). is_gate (slice_get flat.cells n)) its_number
    ∙ ordered.is_order.each number
    ∙ list_any_at (λ other. eqb other number) ordered.order place 0 within (eq-eqb number number refl)

-- a number stands at one place of the order
pub one_place : (ordered : Ordered) (one other : ℕ) → one < length ordered.order → other < length ordered.order
    → slice_index ordered.order one ≡ slice_index ordered.order other → one ≡ other
one_place ordered one other within other_within same =
    let if_apart = ⊎_elim
    (λ less. absurd (ordered.is_order.once one other less other_within same))
    (λ more. absurd (ordered.is_order.once other one more within (sym same))) in
    ⊎_elim (λ is. is) if_apart (cases_order one other)

module _ {ordered : Ordered} {board : Board} {chip_of : List ℕ} {routes : List Route} {turns : Turns} {tasks : List Task}
    (agenda : IsAgenda ordered board chip_of routes turns tasks) {count : ℕ} (within : count < length tasks) where
  -- a route whose hops are sent has its lead
  pub home_done : (number : ℕ) (route : Route) → slice_get routes number ≡ Some route → is_passed tasks count true number ≡ true
      → IsHomeDone ordered board chip_of routes tasks count route.net
  home_done number route is done =
      let found = done_at tasks count true number (omega (arith, within)) done in
      let earlier = home_before agenda found.0 number route (omega (arith, found.1, within)) found.2 found.3 is in
      home_later agenda found.0 count route.net (omega (arith, found.1)) (omega (arith, within)) earlier

  -- what the gate of a done task reads is settled
  pub reads_done : (place : ℕ) → is_passed tasks count false place ≡ true → ReadsRestOnDone ordered board chip_of routes tasks count place
  reads_done place done =
      let found = done_at tasks count false place (omega (arith, within)) done in
      let earlier = settled_before agenda found.0 place (omega (arith, found.1, within)) found.2 found.3 in
      let node = slice_index chip_of (slice_index ordered.order place) in
      λ turn default inside. settled_later agenda found.0 count node _ (omega (arith, found.1)) (omega (arith, within)) (earlier turn default inside)

  -- ---- the lead of a gate

  module _ {draft new : Draft} (way : IsUnderway ordered board chip_of routes tasks count draft)
      (leads : (task_at tasks count).sends ≡ false) (has : HasLead ordered board chip_of routes (task_at tasks count).place draft new) where
    abbrev own : ℕ
    own = (task_at tasks count).place

    -- the net of the gate at a place of the order
    abbrev net_at : ℕ → ℕ
    net_at place = ordered.flat.inputs + slice_index ordered.order place

    -- the leads of a draft, by the leads and hops of another
    abbrev lead_is : Draft → Draft → ℕ → Type 0
    lead_is one other place = slice_index one.leads.items (net_at place) ≡ lead_at_place ordered board chip_of routes other.hops.items other.leads.items place

    own_within : own < length ordered.order
    own_within = (kind_at agenda.tasks_are count false within leads).0

    own_not_done : is_passed tasks count false own ≡ false
    own_not_done = subst (λ (kind : Bool). is_passed tasks count kind own ≡ false) leads (agenda.tasks_are.once count within)

    own_inside : net_at own < length draft.leads.items
    own_inside = omega (arith, order_within ordered.is_order own own_within, way.fit.nets)

    other_lead : (net : ℕ) → (net ≡ net_at own → ⊥) → slice_index new.leads.items net ≡ slice_index draft.leads.items net
    other_lead net apart = ap (λ (list : List ℕ). slice_index list net) has.leads ∙ get_or-set_other draft.leads.items (net_at own) net _ 0 apart

    own_lead : lead_is new draft own
    own_lead = ap (λ (list : List ℕ). slice_index list (net_at own)) has.leads ∙ get_or-set_at draft.leads.items (net_at own) (net_at own) _ 0 refl own_inside

    no_sending : (number : ℕ) → is_passed tasks (count + 1) true number ≡ true → is_passed tasks count true number ≡ true
    no_sending number done = done_other tasks count true number within (λ sends _. true≢false (sym sends ∙ leads)) done

    gate_drives : (net : ℕ) → net ≡ net_at own → is_gate (driving_cell ordered.flat net) ≡ true
    gate_drives net same = ap (λ (n : ℕ). is_gate (driving_cell ordered.flat n)) same ∙ gate_in_order ordered own own_within

    -- the net of this task is none that was done
    not_own : (net : ℕ) → IsHomeDone ordered board chip_of routes tasks count net → net ≡ net_at own → ⊥
    not_own net home same =
        let found = home (gate_drives net same) in
        let numbers : slice_index ordered.order found.0 ≡ slice_index ordered.order own = omega (arith, found.2, same) in
        let places : found.0 ≡ own = one_place ordered found.0 own found.1 own_within numbers in
        true≢false (sym (ap (is_passed tasks count false) (sym places) ∙ found.3) ∙ own_not_done)

    kept : AreUntouched ordered board chip_of routes tasks count draft.hops.items new.hops.items draft.leads.items new.leads.items
    kept = record {
      long = way.fit.long;
      long_more = ap (λ hops. length hops.items) has.hops ∙ way.fit.long;
      leads_same = λ net home. other_lead net (not_own net home);
      hops_same = λ number done. ap (λ hops. slice_index_or hops.items number []) has.hops;
    }

    low : lead_at_place ordered board chip_of routes draft.hops.items draft.leads.items own ≤ microcycle_limit (length draft.table.taken)
    low =
        let number = slice_index ordered.order own in
        read_low ordered.flat chip_of (fit_low way.fit) (slice_index chip_of number) (slice_get ordered.flat.cells number)

    off : (number : ℕ) (route : Route) → slice_get routes number ≡ Some route → is_passed tasks count true number ≡ true
        → IsSentOff ordered board chip_of routes draft route (hops_at draft number) → IsSentOff ordered board chip_of routes new route (hops_at new number)
    off number route is done sent =
        let same_ready = ready_kept kept route.net (home_done number route is done) in
        record {
          before = sent.before;
          sent = subst (λ (ready : ℕ). AreSent board sent.before ready (steps_of route.nodes) (hops_at new number)) (sym same_ready) (rw has.hops sent.sent);
          stays = rw (has.hops, has.table) sent.stays;
        }

    worked_at : (place : ℕ) → place < length ordered.order → is_passed tasks (count + 1) false place ≡ true → lead_is new new place
    worked_at place inside done =
        let before = λ (is : is_passed tasks count false place ≡ true).
        let same = kept.leads_same (net_at place) (λ _. (place, inside, refl, is)) in
        let whole : lead_is new new place = same ∙ way.worked place inside is ∙ sym (place_kept kept place (reads_done place is)) in whole in
        let here = λ (is : is_task false place (task_at tasks count) ≡ true).
        let its = is_task-true false place (task_at tasks count) is in
        let value : lead_is new draft place = subst (lead_is new draft) its.1 own_lead in
        let whole : lead_is new new place = value ∙ sym (place_kept kept place (settled_before agenda count place within its.0 its.1)) in whole in
        ⊎_elim before here (done_or_next tasks count (count + 1) false place refl within done)

    leads_low : All (λ lead. lead ≤ microcycle_limit (length draft.table.taken)) new.leads.items
    leads_low =
        let limit = microcycle_limit (length draft.table.taken) in
        rw has.leads (All-set (λ lead. lead ≤ limit) draft.leads.items (net_at own) _ low way.fit.early.soon)

    pub worked_more : IsUnderway ordered board chip_of routes tasks (count + 1) new
    worked_more = record {
      fit = record {
        nets = ap length has.leads ∙ length-set draft.leads.items (net_at own) _ ∙ way.fit.nets;
        long = kept.long_more;
        arrivals = ap (λ arrivals. arrivals.items) has.arrivals ∙ way.fit.arrivals ∙ ap (λ hops. map (after_last board.links) hops.items) (sym has.hops);
        widths = ap (λ table. table.widths) has.table ∙ way.fit.widths;
        early = record {
          few = rw has.table way.fit.early.few;
          soon = rw has.table leads_low;
          sent = rw (has.table, has.hops) way.fit.early.sent;
          last = rw (has.table, has.last) way.fit.early.last;
        };
      };
      none = λ number not. ap (λ hops. slice_index_or hops.items number []) has.hops ∙ way.none number (not_done_before tasks count true number within not);
      sent = λ number route is done. off number route is (no_sending number done) (way.sent number route is (no_sending number done));
      worked = worked_at;
      zero = λ net no. other_lead net (λ same. true≢false (sym (gate_drives net same) ∙ no)) ∙ way.zero net no;
      last = rw (has.last, has.hops) way.last;
      size = rw (has.table, has.hops) way.size;
      slots = rw (has.table, has.hops) way.slots;
    }
