-- What each status of `resume` says of its files.
use Rattle.std.proofs.Common.{◌≡◌, ◌≢◌, ◌<◌, ◌≤◌, ◌+◌, ◌++◌, ◌⊎◌, ℕ, Bool, List, [], ◌∷◌, length, Option, refl, sym, ◌∙◌, ap, subst, inl, inr, ⊎_elim, lit<, arith}
use Rattle.vw_net.specs.declared.flat.Flat.{Flat}
use Rattle.vw_net.specs.declared.ordered.Ordered.{Ordered}
use Rattle.vw_net.specs.Cells.{latch_count}
use Rattle.vw_design.specs.Paths.{Word as ProbeWord}
use Rattle.vw_outside.specs.Told.{Told, held, IsTextOf}
use Rattle.vw_course.specs.Outside.{SeenOutside, carried}
use Rattle.vw_course.specs.Course.{Course, stage}
use Rattle.vw_course.specs.Follows.{May}
use Rattle.vw_course.specs.Endings.{IsCallOf}
use Rattle.vw_course.specs.Places.{IsOneOf, Files, RefusesHere, StandsAt, IsToRefuse}
use Rattle.vw_course.specs.Statuses.{Holds, IsDone, IsRefusedFor}
use Rattle.vw_course.proofs.CallTable.{call_table}
use Rattle.vw_course.proofs.Inductions.{its_text, of_held}
use Rattle.vw_course.proofs.StandLaws.{call_refused}
use Rattle.vw_course.proofs.EveryPlace.{IsNoneOf, none_both, among_back, keeps_stage, no_break, comes}
use Rattle.vw_course.proofs.Openings.{IsOpening, file_opening, both_openings}
use Rattle.vw_course.proofs.StageLaws.{past, at_bad, stage_behind, refused_past, refusal_behind, refused_for}
use Rattle.vw_course.proofs.BarredLaws.{barred_here, call_barred}
use Rattle.vw_front.specs.Designs.{IsNetlistOf}
use Rattle.vw_plan.specs.declared.board.Board.{Board}
use Rattle.vw_plan.specs.declared.plan.Plan.{Plan}
use Rattle.vw_plan.specs.PlannedBoard.{planned_board}
use Rattle.vw_prog.specs.declared.word.Word.{Word}
use Rattle.vw_resume.specs.declared.state.State.{State}
use Rattle.vw_resume.specs.declared.fault.StateFault.TheVariants.{TooManyClocks}
use Rattle.vw_trace.specs.FlatTrace.{trace_until}
use Rattle.vw_resume.proofs.ReadBack.{spelled_once}
use Rattle.vw_rows.specs.declared.limits.TheConstants.{MOST_CLOCKS}
use Rattle.vw_courses.specs.declared.vocabulary.File.TheVariants as kinds
use Rattle.vw_courses.specs.declared.vocabulary.Reason.{Reason}
use Rattle.vw_courses.specs.declared.vocabulary.Reason.TheVariants as reasons
use Rattle.vw_courses.specs.Messages.{reason_status, vocabulary, Call, CallWork}
use Rattle.vw_courses.specs.Kinds.{rows_kind, state_kind, IsStateOf, IsBadState, AreTooManyClocks, clocks_fit}
use Rattle.vw_courses.specs.Commands.{TextOver, Scripts, RowCheck, check_by, trace_course, with_check, checked_rows_course, scripts_from, state_course, resume_rest, ready_course}
use Rattle.vw_courses.specs.MayPlan.{PlanBy}
use Rattle.vw_statuses.specs.PlannedStatuses.{PlanTexts, HavePlan, plan_statuses, HoldTexts}
use Rattle.vw_statuses.specs.TracedStatuses.{Subject, IsTrace, TracedStatuses}
use Rattle.vw_statuses.specs.TracedStatuses as traced
use Rattle.vw_statuses.specs.ResumeStatuses.{ResumeTexts, Resumption, AreResumed, IsNoState, resumptions, up_to_state, its_files, UsesFrom, IsReadyPlan, IsReady, AreTooMany, MayBeTooMany, CarriesFrom, ResumeStatuses}
use Rattle.vw_statuses.proofs.OnBoards.{netlist_same}
use Rattle.vw_statuses.proofs.TracedLaws.{ComesToRows, keeps_rows, barred_rows, same_rows, traced_table}
use Rattle.vw_statuses.proofs.PlannedLaws.{IsAmong, Planned, given_among, other_among, none_planned, apart_from, Has, Spelled, opening, ready_opening, IsRest, keeps_all, work_planned, planned_table}
use Rattle.vw_statuses.proofs.RunLaws.{may_spell}

-- the state of a text is one, for whatever netlist of the design
same_state : (probes : List ProbeWord) (texts : ResumeTexts) (its : Resumption) → AreResumed probes texts its → (ordered : Ordered) (state : State)
    → IsStateOf (latch_count ordered.flat.cells) texts.state state → state ≡ its.state
same_state probes texts its are ordered state is = spelled_once texts.state state its.state is.spells are.state_is.spells

-- and so is the netlist
same_flat : (probes : List ProbeWord) (texts : ResumeTexts) (its : Resumption) → AreResumed probes texts its → (ordered : Ordered) → IsNetlistOf probes texts.design ordered
    → ordered.flat ≡ its.ordered.flat
same_flat probes texts its are ordered is = netlist_same probes texts.design ordered its.ordered is are.netlist

-- the watched words are these, so many of them are probes, and with `until` the one behind them is a trigger
module _ (probes : List ProbeWord) (count : ℕ) (design board : List ℕ) (by : PlanBy) (state stimulus : List ℕ) (until : Bool) (workers : ℕ) (call : Call) where
  -- what is written
  abbrev text : TextOver Resumption
  text its rows = trace_until until count its.state.clock its.state.latches its.ordered.flat rows

  abbrev rest : Ordered → Board → Plan → Course vocabulary
  rest = resume_rest until count state stimulus workers

  abbrev course : Course vocabulary
  course = ready_course probes design board by rest

  abbrev told : List ℕ → Told
  told = call.before.shelf.told

  abbrev subject : Subject
  subject = resumptions probes text design board by state stimulus until workers

  abbrev all : Files vocabulary
  all = its_files probes text design board by state stimulus until workers

  abbrev first : Files vocabulary
  first = up_to_state probes text design board by state stimulus until workers

  abbrev anew : Files vocabulary
  anew = (kinds.Stimulus, stimulus) ∷ []

  abbrev own : List ℕ
  own = 11 ∷ 5 ∷ []

  abbrev Uses : Scripts → Type 0
  Uses = UsesFrom probes text design board by state stimulus until workers told

  abbrev Ready : Call → ResumeTexts → List ℕ → Type 0
  Ready = IsReady probes text design board by state stimulus until workers

  abbrev ReadyPlan : ResumeTexts → Type 0
  ReadyPlan texts = IsReadyPlan probes text design board by state stimulus until workers call texts

  -- what the rows are checked for, and the words of the links
  abbrev check : Resumption → RowCheck
  check its = check_by (clocks_fit its.state.clock)

  abbrev words : Planned → State → Scripts
  words its one = scripts_from until workers (planned_board its.0 its.1 its.2) one.clock one.latches

  -- behind the state, where rows come
  abbrev goes_on : Planned → State → Course vocabulary
  goes_on its one = state_course until count stimulus workers (planned_board its.0 its.1 its.2) one

  abbrev rows_then : Ordered → State → Scripts → Course vocabulary
  rows_then ordered one scripts = checked_rows_course stimulus ordered.flat.inputs (check_by (clocks_fit one.clock)) (trace_until until count one.clock one.latches ordered.flat) scripts

  -- ---- where its files are

  at_plan : IsAmong all by
  at_plan = given_among by (kinds.Design, design) (kinds.Board, board) ((kinds.State, state) ∷ anew)

  at_state : IsOneOf all (kinds.State, state)
  at_state = other_among by (kinds.Design, design) (kinds.Board, board) (kinds.State, state) ((kinds.State, state) ∷ anew) (inl refl)

  at_stimulus : IsOneOf all (kinds.Stimulus, stimulus)
  at_stimulus = other_among by (kinds.Design, design) (kinds.Board, board) (kinds.Stimulus, stimulus) ((kinds.State, state) ∷ anew) (inr (inl refl))

  plan_first : IsAmong first by
  plan_first = given_among by (kinds.Design, design) (kinds.Board, board) ((kinds.State, state) ∷ [])

  state_first : IsOneOf first (kinds.State, state)
  state_first = other_among by (kinds.Design, design) (kinds.Board, board) (kinds.State, state) ((kinds.State, state) ∷ []) (inl refl)

  -- ---- its opening

  abbrev ToPlan : Files vocabulary → Type 1
  ToPlan files = IsOpening told files (plan_statuses by) (opening probes design board by call) (Has probes design board by call) (HoldTexts probes design board by call) (HavePlan probes by) (Spelled probes design board by call)

  to_plan : (files : Files vocabulary) → IsOneOf files (kinds.Design, design) → IsOneOf files (kinds.Board, board) → IsAmong files by → ToPlan files
  to_plan files at_design at_board at_given = ready_opening probes design board by call files at_design at_board at_given

  -- what the names of the plan and of the state may have
  abbrev HasState : Planned × State → Type 0
  HasState its = Has probes design board by call its.0 × ((t : List ℕ) × IsTextOf (told state) t × IsStateOf (latch_count its.0.0.flat.cells) t its.1)

  -- the state comes behind the plan
  to_state : IsOpening told all (plan_statuses by ++ 11 ∷ []) {A = Planned × State} {T = PlanTexts × List ℕ} (λ next. opening probes design board by call (λ its. stage (state_kind (latch_count its.0.flat.cells)) state (λ one. next (its, one)))) HasState
      (λ t. HoldTexts probes design board by call t.0 × (told state ≡ held t.1)) (λ t. HavePlan probes by t.0 × ((its : Planned) → Spelled probes design board by call t.0 its → (one : State) × IsStateOf (latch_count its.0.flat.cells) t.1 one))
      (λ t its. Spelled probes design board by call t.0 its.0 × IsStateOf (latch_count its.0.0.flat.cells) t.1 its.1)
  to_state = both_openings told all (plan_statuses by) (11 ∷ []) (opening probes design board by call) _ _ _ _ (to_plan all (inl refl) (inr (inl refl)) at_plan)
      (λ its. stage (state_kind (latch_count its.0.flat.cells)) state) _ _ _ _ (λ its. file_opening told all (state_kind (latch_count its.0.flat.cells)) state at_state)

  none_opening : (number : ℕ) → number ≢ 1 → number ≢ 3 → number ≢ 4 → number ≢ 6 → number ≢ 11 → IsNoneOf (plan_statuses by ++ 11 ∷ []) number
  none_opening number one three four six eleven = none_both (plan_statuses by) (11 ∷ []) number (none_planned by number one three four six) (eleven, tt)

  apart : (number : ℕ) → IsOneOf (plan_statuses by) number → IsNoneOf own number
  apart number one = (
    apart_from by 11 (λ is. omega (arith, is)) (λ is. omega (arith, is)) (λ is. omega (arith, is)) (λ is. omega (arith, is)) number one,
    (apart_from by 5 (λ is. omega (arith, is)) (λ is. omega (arith, is)) (λ is. omega (arith, is)) (λ is. omega (arith, is)) number one, tt),
  )

  is_rest : IsRest by all anew own (5 ∷ []) rest
  is_rest = record {
    keeps = λ ordered on its. keeps_stage all anew own (5 ∷ []) (state_kind (latch_count ordered.flat.cells)) state (goes_on (ordered, on, its)) at_state (inl refl)
        (λ one. keeps_rows stimulus ordered.flat.inputs (check_by (clocks_fit one.clock)) (trace_until until count one.clock one.latches ordered.flat) (words (ordered, on, its) one) all own at_stimulus (inr (inl refl)) (inl refl));
    apart = apart;
    whole = λ number one. (apart number one).1;
  }

  -- ---- to the rows, and back from them

  -- the netlist that the name of the design may have is one of the text that is held
  spells : (texts : ResumeTexts) → subject.Hold call texts → (its : Planned) → Has probes design board by call its → IsNetlistOf probes texts.design its.0
  spells texts hold its may = subst (λ (t : List ℕ). IsNetlistOf probes t its.0) (its_text (told design) may.d texts.design hold.0 may.design_of) may.on.netlist

  resumed : (texts : ResumeTexts) → subject.Hold call texts → (its : Planned × State) → HasState its → AreResumed probes texts (record { ordered = its.0.0; state = its.1 })
  resumed texts hold its has = record {
    netlist = spells texts hold its.0 has.0;
    state_is = subst (λ (t : List ℕ). IsStateOf (latch_count its.0.0.flat.cells) t its.1) (its_text (told state) has.1.0 texts.state hold.1 has.1.1) has.1.2;
  }

  uses : (its : Planned × State) → HasState its → Uses (words its.0 its.1)
  uses its has = record {
    ordered = its.0.0;
    its_board = its.0.1;
    plan = its.0.2;
    its_state = its.1;
    is = record { on = has.0; t = has.1.0; state_of = has.1.1; state_is = has.1.2 };
    are = refl;
  }

  -- where all up to the state is held and good, the course comes to the rows, as from any netlist and state of the texts
  module _ (texts : ResumeTexts) (ready : ReadyPlan texts) (its : Resumption) (are : AreResumed probes texts its) where
    own_design : (ordered : Ordered) → IsNetlistOf probes ready.plan_texts.design ordered → IsNetlistOf probes texts.design ordered
    own_design ordered is = subst (λ (t : List ℕ). IsNetlistOf probes t ordered) ready.design_is is

    state_for : (ordered : Ordered) → IsNetlistOf probes texts.design ordered → IsStateOf (latch_count ordered.flat.cells) texts.state its.state
    state_for ordered is = subst (λ (flat : Flat). IsStateOf (latch_count flat.cells) texts.state its.state) (sym (same_flat probes texts its are ordered is)) are.state_is

    come_to : (P : Course vocabulary → Type 0)
        → ((scripts : Scripts) → Uses scripts → StandsAt told all P (rows_then its.ordered its.state scripts)) → StandsAt told all P course
    come_to P there = to_state.comes P (ready.plan_texts, texts.state) (ready.planned_held, ready.state_held)
        (ready.have, λ one spelled. (its.state, state_for one.0 (own_design one.0 spelled.on.netlist))) (λ one. goes_on one.0 one.1)
        (λ one spelled.
        let scripts = words one.0 one.1 in
        let has : HasState one = (may_spell probes design board by call ready.plan_texts ready.planned_held one.0.0 one.0.1 one.0.2 spelled.0, (texts.state, of_held (told state) texts.state ready.state_held, spelled.1)) in
        subst (λ (flat : Flat). StandsAt told all P (checked_rows_course stimulus flat.inputs (check_by (clocks_fit one.1.clock)) (trace_until until count one.1.clock one.1.latches flat) scripts)) (sym (same_flat probes texts its are one.0.0 (own_design one.0.0 spelled.0.on.netlist)))
        (subst (λ (from : State). StandsAt told all P (rows_then its.ordered from scripts)) (sym (same_state probes texts its are one.0.0 one.1 spelled.1)) (there scripts (uses one has))))

  to_rows : ComesToRows subject check text stimulus course call all (plan_statuses by ++ own) Ready Uses
  to_rows = record {
    keeps = keeps_all probes design board by call rest all anew own (5 ∷ []) (inl refl) (inr (inl refl)) at_plan is_rest;
    behind = λ P passes may.
        let later = to_state.behind 5 P passes (none_opening 5 (λ is. omega (arith, is)) (λ is. omega (arith, is)) (λ is. omega (arith, is)) (λ is. omega (arith, is)) (λ is. omega (arith, is))) (λ one. goes_on one.0 one.1) may in
        (record { ordered = later.0.0.0; state = later.0.1 }, λ texts hold. resumed texts hold later.0 later.1, words later.0.0 later.0.1, uses later.0 later.1, later.2);
    comes = λ P texts s ready its are stands. come_to texts ready.planned its are P stands;
    ready_held = λ texts s ready. ready.stimulus_held;
    passes = λ texts s ready its rows are. ready.fit its rows are;
    one = at_stimulus;
  }

  pub resume_traced : IsCallOf course call → TracedStatuses subject text stimulus all Ready Uses call
  resume_traced = traced_table subject check text stimulus course call all (plan_statuses by ++ own) Ready Uses to_rows

  -- ---- the state

  -- a refusal with its status is for the text of the state, or for the clocks
  module _ (texts : ResumeTexts) (hold : subject.Hold call texts) where
    abbrev WhyOver : Reason → Type 0
    WhyOver reason = IsNoState probes texts reason ⊎ MayBeTooMany probes text design board by state stimulus until workers told texts reason

    state_why : (reason : Reason) → reason_status reason ≡ 11 → May told (RefusesHere reason) course → WhyOver reason
    state_why reason same may =
        let plan = (to_plan all (inl refl) (inr (inl refl)) at_plan).behind 11 (RefusesHere reason) (refusal_behind told 11 reason same) (none_planned by 11 (λ is. omega (arith, is)) (λ is. omega (arith, is)) (λ is. omega (arith, is)) (λ is. omega (arith, is))) (λ its. rest its.0 its.1 its.2) may in
        let netlist = spells texts hold plan.0 plan.1 in
        ⊎_elim
        (λ (bad : IsBadState (latch_count plan.0.0.flat.cells) texts.state reason). inl (record { ordered = plan.0.0; netlist = netlist; bad = bad }))
        (λ (more : (one : State) × IsStateOf (latch_count plan.0.0.flat.cells) texts.state one × May told (RefusesHere reason) (goes_on plan.0 one)).
        let later = stage_behind told 11 (RefusesHere reason) (refusal_behind told 11 reason same) (rows_kind plan.0.0.flat.inputs) stimulus
        (with_check (check_by (clocks_fit more.0.clock)) (trace_course stimulus plan.0.0.flat.inputs (trace_until until count more.0.clock more.0.latches plan.0.0.flat) (words plan.0 more.0))) (λ is. omega (arith, is)) more.2 in
        inr (
          later.0,
          later.1,
          record {
            its = record { ordered = plan.0.0; state = more.0 };
            rows = later.2;
            are = record { spells = record { netlist = netlist; state_is = more.1 }; rows_are = later.3 };
            bad = ⊎_elim (λ (bad : AreTooManyClocks more.0.clock later.2 reason). bad) (λ (none : (done : Unit {0}) × (more.0.clock + length later.2 ≤ MOST_CLOCKS) × ⊥). absurd none.2) later.4;
          },
        ))
        (refused_past told (state_kind (latch_count plan.0.0.flat.cells)) state (goes_on plan.0) texts.state hold.1 reason plan.2)

    no_state_over : IsCallOf course call → call.status ≡ 11 → IsRefusedFor vocabulary WhyOver call
    no_state_over is = refused_for course call is 11 WhyOver state_why (no_break told all anew (plan_statuses by ++ own) (5 ∷ []) course to_rows.keeps 11 (λ is. omega (arith, is), tt)) (lit< tt) (inr (lit< tt, lit< tt))

    -- a stimulus that is held may be no other text
    module _ (s : List ℕ) (held_s : Holds call stimulus s) where
      abbrev Why : Reason → Type 0
      Why reason = IsNoState probes texts reason ⊎ AreTooMany probes text design board by state stimulus until workers texts s reason

      held_why : (reason : Reason) → WhyOver reason → Why reason
      held_why reason (inl none) = inl none
      held_why reason (inr (other, of, many)) =
          inr (subst (λ (t : List ℕ). AreTooMany probes text design board by state stimulus until workers texts t reason) (its_text (told stimulus) other s held_s of) many)

      no_state_held : IsCallOf course call → call.status ≡ 11 → IsRefusedFor vocabulary Why call
      no_state_held is status =
          let refused = no_state_over is status in
          record { reason = refused.reason; why = held_why refused.reason refused.why; status = refused.status; leaves = refused.leaves; message = refused.message }

  -- a text that spells no state of the design is refused
  state_bad : (texts : ResumeTexts) (reason : Reason) → ReadyPlan texts → IsNoState probes texts reason → StandsAt told first (IsToRefuse (IsNoState probes texts)) course
  state_bad texts reason ready none =
      (to_plan first (inl refl) (inr (inl refl)) plan_first).comes (IsToRefuse (IsNoState probes texts)) ready.plan_texts ready.planned_held ready.have (λ its. rest its.0 its.1 its.2)
      (λ its spelled.
      let netlist = subst (λ (t : List ℕ). IsNetlistOf probes t its.0) ready.design_is spelled.on.netlist in
      let same : none.ordered.flat ≡ its.0.flat = netlist_same probes texts.design none.ordered its.0 none.netlist netlist in
      at_bad told first (state_kind (latch_count its.0.flat.cells)) state (goes_on its) texts.state (IsNoState probes texts) state_first ready.state_held
      (λ why bad. record { ordered = its.0; netlist = netlist; bad = bad })
      (reason, subst (λ (flat : Flat). IsBadState (latch_count flat.cells) texts.state reason) same none.bad))

  -- and so are too many clocks
  clocks_bad : (texts : ResumeTexts) (s : List ℕ) (its : Resumption) (rows : List (List Bool)) → ReadyPlan texts → Holds call stimulus s
      → traced.AreSpelled subject texts s its rows → MOST_CLOCKS < its.state.clock + length rows
      → StandsAt told all (IsToRefuse (AreTooMany probes text design board by state stimulus until workers texts s)) course
  clocks_bad texts s its rows ready held_s are many =
      let P : Course vocabulary → Type 0 = IsToRefuse (AreTooMany probes text design board by state stimulus until workers texts s) in
      come_to texts ready its are.spells P
      (λ scripts used. past told all P (rows_kind its.ordered.flat.inputs) stimulus (with_check (check_by (clocks_fit its.state.clock)) (trace_course stimulus its.ordered.flat.inputs (trace_until until count its.state.clock its.state.latches its.ordered.flat) scripts)) s at_stimulus held_s (rows, are.rows_are)
      (λ these those. inl (
        (reasons.State (TooManyClocks (its.state.clock + length these)), (refl, subst (λ (so : List (List Bool)). MOST_CLOCKS < its.state.clock + length so) (sym (same_rows its.ordered.flat.inputs s these rows those are.rows_are)) many)),
        λ reason bad. record { its = its; rows = these; are = record { spells = are.spells; rows_are = those }; bad = bad },
      )))

  -- ---- the table

  carries : (texts : ResumeTexts) (s : List ℕ) → IsDone (IsTrace subject text texts s Uses) call
      → CarriesFrom probes text design board by state stimulus until workers texts s call
  carries texts s done =
      let trace = done.is in
      let uses = trace.uses in
      let said : done.did.scripts ≡ words (uses.ordered, uses.its_board, uses.plan) uses.its_state trace.rows =
      ap (λ (w : CallWork). w.scripts) trace.is ∙ ap (λ (scripts : Scripts). scripts trace.rows) uses.are in
      record {
        its = trace.its;
        rows = trace.rows;
        are = trace.are;
        ordered = uses.ordered;
        its_board = uses.its_board;
        plan = uses.plan;
        its_state = uses.its_state;
        is = uses.is;
        links = ap (λ (o : SeenOutside vocabulary.Word). o.links) done.leaves
            ∙ ap (λ (scripts : Option (ℕ → List Word)). carried scripts call.before.links) said;
      }

  pub resume_table_of : length probes ≤ 65 → IsCallOf course call → ResumeStatuses probes text design board by state stimulus until workers call
  resume_table_of few is = record {
    planned = planned_table probes few design board call rest all anew own (5 ∷ []) (inl refl) (inr (inl refl)) by at_plan is_rest is;
    no_state = λ texts s hold held_s. no_state_held texts hold s held_s is;
    no_state_over = λ texts hold. no_state_over texts hold is;
    no_state_comes = λ texts reason ready none. call_refused vocabulary first call (IsNoState probes texts) course is (state_bad texts reason ready none);
    too_many_come = λ texts s its rows ready held_s are many.
        call_refused vocabulary all call (AreTooMany probes text design board by state stimulus until workers texts s) course is (clocks_bad texts s its rows ready held_s are many);
    traced = resume_traced is;
    on_links = λ texts s hold held_s status. carries texts s ((resume_traced is).ends.done (texts, s) (record { its_held = hold; stimulus_held = held_s }) status);
    done_planned = λ texts hold status.
        let done = (call_table course call is).done status in
        let later = work_planned probes design board by call rest all anew own (5 ∷ []) (inl refl) (inr (inl refl)) at_plan is_rest texts hold done.did done.is in
        (later.0.2, record { ordered = later.0.0; board = later.0.1; are = later.1 });
    comes = comes all anew (plan_statuses by ++ own) (5 ∷ []) course to_rows.keeps call is (λ number one. among_back (plan_statuses by) own number (inr one));
    absent_state = λ gone. call_barred (plan_statuses by) course call is ((to_plan all (inl refl) (inr (inl refl)) at_plan).barred (plan_statuses by) (λ n one. one) (λ its. rest its.0 its.1 its.2)
        (λ its. barred_here told (plan_statuses by) (state_kind (latch_count its.0.flat.cells)) state (goes_on its) gone));
    absent_stimulus = λ gone. call_barred (plan_statuses by ++ 11 ∷ []) course call is (to_state.barred (plan_statuses by ++ 11 ∷ []) (λ n one. one) (λ one. goes_on one.0 one.1)
        (λ one. barred_rows stimulus one.0.0.flat.inputs (check_by (clocks_fit one.1.clock)) (trace_until until count one.1.clock one.1.latches one.0.0.flat) (words one.0 one.1) told (plan_statuses by ++ 11 ∷ []) gone));
  }

pub resume_table : (probes : List ProbeWord) (count : ℕ) → length probes ≤ 65 → (design board : List ℕ) (by : PlanBy) (state stimulus : List ℕ) (until : Bool) (workers : ℕ) (call : Call)
    → IsCallOf (ready_course probes design board by (resume_rest until count state stimulus workers)) call
    → ResumeStatuses probes (λ its rows. trace_until until count its.state.clock its.state.latches its.ordered.flat rows) design board by state stimulus until workers call
resume_table probes count few design board by state stimulus until workers call is = resume_table_of probes count design board by state stimulus until workers call few is
