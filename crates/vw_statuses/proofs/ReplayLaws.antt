-- What each status says of a command that runs a design from a state on.
use Rattle.std.proofs.Common.{◌≡◌, ◌<◌, ◌≤◌, ◌⊎◌, ℕ, Bool, List, [], ◌∷◌, length, refl, sym, subst, inl, inr, ⊎_elim, lit<, arith}
use Rattle.vw_design.specs.Clocks.{columns}
use Rattle.vw_design.specs.Paths.{Word as ProbeWord}
use Rattle.vw_design.specs.Preorder.{latches}
use Rattle.vw_outside.specs.Told.{Told, held, IsTextOf}
use Rattle.vw_course.specs.Course.{Course, stage}
use Rattle.vw_course.specs.Follows.{May}
use Rattle.vw_course.specs.Endings.{IsCallOf}
use Rattle.vw_course.specs.Places.{IsOneOf, Files, RefusesHere, StandsAt, IsToRefuse}
use Rattle.vw_course.specs.Statuses.{Holds, IsRefusedFor}
use Rattle.vw_course.proofs.Inductions.{its_text}
use Rattle.vw_course.proofs.StandLaws.{call_refused}
use Rattle.vw_course.proofs.EveryPlace.{KeepsTo, keeps_stage, no_break, comes}
use Rattle.vw_course.proofs.Openings.{IsOpening, MayHave, file_opening, both_openings}
use Rattle.vw_course.proofs.StageLaws.{past, at_bad, stage_behind, refused_past, refusal_behind, refused_for}
use Rattle.vw_course.proofs.BarredLaws.{barred_here, call_barred}
use Rattle.vw_front.specs.Designs.{WatchedDesign, IsWatchedDesignOf, design_apart}
use Rattle.vw_resume.specs.declared.state.State.{State}
use Rattle.vw_resume.specs.declared.fault.StateFault.TheVariants.{TooFewClocks}
use Rattle.vw_resume.proofs.ReadBack.{spelled_once}
use Rattle.vw_courses.specs.declared.vocabulary.File.TheVariants as kinds
use Rattle.vw_courses.specs.declared.vocabulary.Reason.{Reason}
use Rattle.vw_courses.specs.declared.vocabulary.Reason.TheVariants as reasons
use Rattle.vw_courses.specs.Messages.{reason_status, vocabulary, Call}
use Rattle.vw_courses.specs.Kinds.{design_kind, rows_kind, state_kind, IsStateOf, IsBadState, AreTooFewClocks, clocks_reach}
use Rattle.vw_courses.specs.Commands.{TextFrom, no_links, RowCheck, check_by, trace_course, with_check, reached_course, design_replay, replay_course}
use Rattle.vw_statuses.specs.ResumeStatuses.{ResumeTexts}
use Rattle.vw_statuses.specs.SimStatuses.{UsesNone}
use Rattle.vw_statuses.specs.TracedStatuses.{Subject, design_width, TracedStatuses}
use Rattle.vw_statuses.specs.TracedStatuses as traced
use Rattle.vw_statuses.specs.ReplayStatuses.{Replay, AreReplayed, IsNoReplay, replay_text, replays, up_to_state, its_files, AreTooFew, MayBeTooFew, IsReady, ReplayStatuses}
use Rattle.vw_statuses.proofs.DesignLaws.{keeps_design, design_table}
use Rattle.vw_statuses.proofs.OnBoards.{watched_once}
use Rattle.vw_statuses.proofs.TracedLaws.{ComesToRows, keeps_rows, barred_rows, same_rows, traced_table}

module _ (probes : List ProbeWord) (text : TextFrom WatchedDesign) (design state stimulus : List ℕ) (call : Call) where
  abbrev next : WatchedDesign → Course vocabulary
  next = design_replay state stimulus text

  abbrev course : Course vocabulary
  course = replay_course probes design state stimulus text

  abbrev told : List ℕ → Told
  told = call.before.shelf.told

  abbrev subject : Subject
  subject = replays probes text design state stimulus

  abbrev all : Files vocabulary
  all = its_files probes text design state stimulus

  abbrev first : Files vocabulary
  first = up_to_state probes text design state stimulus

  abbrev anew : Files vocabulary
  anew = (kinds.Stimulus, stimulus) ∷ []

  abbrev own : List ℕ
  own = 11 ∷ 5 ∷ []

  abbrev Ready : Call → ResumeTexts → List ℕ → Type 0
  Ready = IsReady probes text design state stimulus

  abbrev latches_of : WatchedDesign → ℕ
  latches_of watched = length (latches watched.design)

  -- what the rows are checked for
  abbrev check : Replay → RowCheck
  check its = check_by (clocks_reach its.state.clock)

  -- behind the state, where rows come
  abbrev goes_on : WatchedDesign → State → Course vocabulary
  goes_on watched one = reached_course stimulus (length (columns watched.design)) (λ from. text from watched) one

  abbrev written : WatchedDesign → State → List (List Bool) → Course vocabulary
  written watched one = trace_course stimulus (design_width watched) (text one watched) no_links

  -- ---- where its files are

  at_state : IsOneOf all (kinds.State, state)
  at_state = inr (inl refl)

  at_stimulus : IsOneOf all (kinds.Stimulus, stimulus)
  at_stimulus = inr (inr (inl refl))

  -- ---- its opening

  abbrev ToDesign : Files vocabulary → Type 1
  ToDesign files = IsOpening told files (1 ∷ []) {A = WatchedDesign} {T = List ℕ} (stage (design_kind probes) design) (MayHave told (design_kind probes) design) (λ d. told design ≡ held d) (λ d. (its : WatchedDesign) × IsWatchedDesignOf probes d its) (IsWatchedDesignOf probes)

  to_design : (files : Files vocabulary) → IsOneOf files (kinds.Design, design) → ToDesign files
  to_design files at = file_opening told files (design_kind probes) design at

  -- what the names of the design and of the state may have
  abbrev HasState : WatchedDesign × State → Type 0
  HasState its = MayHave told (design_kind probes) design its.0 × ((t : List ℕ) × IsTextOf (told state) t × IsStateOf (latches_of its.0) t its.1)

  -- the state comes behind the design
  to_state : IsOpening told all (1 ∷ 11 ∷ []) {A = WatchedDesign × State} {T = List ℕ × List ℕ} (λ next. stage (design_kind probes) design (λ its. stage (state_kind (latches_of its)) state (λ one. next (its, one)))) HasState
      (λ t. (told design ≡ held t.0) × (told state ≡ held t.1))
      (λ t. ((its : WatchedDesign) × IsWatchedDesignOf probes t.0 its) × ((its : WatchedDesign) → IsWatchedDesignOf probes t.0 its → (one : State) × IsStateOf (latches_of its) t.1 one))
      (λ t its. IsWatchedDesignOf probes t.0 its.0 × IsStateOf (latches_of its.0) t.1 its.1)
  to_state = both_openings told all (1 ∷ []) (11 ∷ []) (stage (design_kind probes) design) _ _ _ _ (to_design all (inl refl))
      (λ its. stage (state_kind (latches_of its)) state) _ _ _ _ (λ its. file_opening told all (state_kind (latches_of its)) state at_state)

  keeps_state : (watched : WatchedDesign) → KeepsTo all anew own (5 ∷ []) (next watched)
  keeps_state watched = keeps_stage all anew own (5 ∷ []) (state_kind (latches_of watched)) state (goes_on watched) at_state (inl refl)
      (λ one. keeps_rows stimulus (design_width watched) (check_by (clocks_reach one.clock)) (text one watched) no_links all own at_stimulus (inr (inl refl)) (inl refl))

  -- ---- to the rows, and back from them

  -- a text has one design, and one state of it
  module _ (texts : ResumeTexts) (its : Replay) (are : AreReplayed probes texts its) (watched : WatchedDesign) (so : IsWatchedDesignOf probes texts.design watched) where
    same_design : watched ≡ its.watched
    same_design = watched_once probes texts.design watched its.watched so are.design_is

    state_for : IsStateOf (latches_of watched) texts.state its.state
    state_for = subst (λ (one : WatchedDesign). IsStateOf (latches_of one) texts.state its.state) (sym same_design) are.state_is

    same_state : (one : State) → IsStateOf (latches_of watched) texts.state one → one ≡ its.state
    same_state one is = spelled_once texts.state one its.state is.spells are.state_is.spells

  replayed : (texts : ResumeTexts) → subject.Hold call texts → (its : WatchedDesign × State) → HasState its → AreReplayed probes texts (record { watched = its.0; state = its.1 })
  replayed texts hold its has =
      let spelled = to_state.spelled (texts.design, texts.state) hold its has in
      record { design_is = spelled.0; state_is = spelled.1 }

  -- where the design and the state are held and good, the course comes to the rows
  come_to : (P : Course vocabulary → Type 0) (texts : ResumeTexts) → subject.Hold call texts → (its : Replay) → AreReplayed probes texts its
      → StandsAt told all P (goes_on its.watched its.state) → StandsAt told all P course
  come_to P texts hold its are there =
      to_state.comes P (texts.design, texts.state) hold ((its.watched, are.design_is), λ other so. (its.state, state_for texts its are other so)) (λ one. goes_on one.0 one.1)
      (λ one so.
      subst (λ (from : State). StandsAt told all P (goes_on one.0 from)) (sym (same_state texts its are one.0 so.0 one.1 so.1))
      (subst (λ (watched : WatchedDesign). StandsAt told all P (goes_on watched its.state)) (sym (same_design texts its are one.0 so.0)) there))

  to_rows : ComesToRows subject check (replay_text text) stimulus course call all (1 ∷ own) Ready UsesNone
  to_rows = record {
    keeps = keeps_design probes (IsWatchedDesignOf probes) (design_apart probes) design next call all anew own (5 ∷ []) (inl refl) keeps_state;
    behind = λ P passes may.
        let later = to_state.behind 5 P passes (λ is. omega (arith, is), (λ is. omega (arith, is), tt)) (λ one. goes_on one.0 one.1) may in
        (record { watched = later.0.0; state = later.0.1 }, λ texts hold. replayed texts hold later.0 later.1, no_links, refl, later.2);
    comes = λ P texts s ready its are stands. come_to P texts ready.its_held its are (stands no_links refl);
    ready_held = λ texts s ready. ready.stimulus_held;
    passes = λ texts s ready its rows are. ready.reach its rows are;
    one = at_stimulus;
  }

  pub replay_traced : IsCallOf course call → TracedStatuses subject (replay_text text) stimulus all Ready UsesNone call
  replay_traced = traced_table subject check (replay_text text) stimulus course call all (1 ∷ own) Ready UsesNone to_rows

  -- ---- the state

  -- a refusal with its status is for the text of the state, or for the clocks
  module _ (texts : ResumeTexts) (hold : subject.Hold call texts) where
    abbrev WhyOver : Reason → Type 0
    WhyOver reason = IsNoReplay probes texts reason ⊎ MayBeTooFew probes text design state stimulus told texts reason

    state_why : (reason : Reason) → reason_status reason ≡ 11 → May told (RefusesHere reason) course → WhyOver reason
    state_why reason same may =
        let its = (to_design all (inl refl)).behind 11 (RefusesHere reason) (refusal_behind told 11 reason same) (λ is. omega (arith, is), tt) next may in
        let design_is = (to_design all (inl refl)).spelled texts.design hold.0 its.0 its.1 in
        ⊎_elim
        (λ (bad : IsBadState (latches_of its.0) texts.state reason). inl (record { watched = its.0; design_is = design_is; bad = bad }))
        (λ (more : (one : State) × IsStateOf (latches_of its.0) texts.state one × May told (RefusesHere reason) (goes_on its.0 one)).
        let later = stage_behind told 11 (RefusesHere reason) (refusal_behind told 11 reason same) (rows_kind (design_width its.0)) stimulus
        (with_check (check_by (clocks_reach more.0.clock)) (written its.0 more.0)) (λ is. omega (arith, is)) more.2 in
        inr (
          later.0,
          later.1,
          record {
            its = record { watched = its.0; state = more.0 };
            rows = later.2;
            are = record { spells = record { design_is = design_is; state_is = more.1 }; rows_are = later.3 };
            bad = ⊎_elim (λ (bad : AreTooFewClocks more.0.clock later.2 reason). bad) (λ (none : (done : Unit {0}) × (more.0.clock ≤ length later.2) × ⊥). absurd none.2) later.4;
          },
        ))
        (refused_past told (state_kind (latches_of its.0)) state (goes_on its.0) texts.state hold.1 reason its.2)

    no_state_over : IsCallOf course call → call.status ≡ 11 → IsRefusedFor vocabulary WhyOver call
    no_state_over is = refused_for course call is 11 WhyOver state_why (no_break told all anew (1 ∷ own) (5 ∷ []) course to_rows.keeps 11 (λ is. omega (arith, is), tt)) (lit< tt) (inr (lit< tt, lit< tt))

    -- a stimulus that is held may be no other text
    module _ (s : List ℕ) (held_s : Holds call stimulus s) where
      abbrev Why : Reason → Type 0
      Why reason = IsNoReplay probes texts reason ⊎ AreTooFew probes text design state stimulus texts s reason

      held_why : (reason : Reason) → WhyOver reason → Why reason
      held_why reason (inl none) = inl none
      held_why reason (inr (other, of, few)) =
          inr (subst (λ (t : List ℕ). AreTooFew probes text design state stimulus texts t reason) (its_text (told stimulus) other s held_s of) few)

      no_state_held : IsCallOf course call → call.status ≡ 11 → IsRefusedFor vocabulary Why call
      no_state_held is status =
          let refused = no_state_over is status in
          record { reason = refused.reason; why = held_why refused.reason refused.why; status = refused.status; leaves = refused.leaves; message = refused.message }

  -- a text that spells no state of the design is refused
  state_bad : (texts : ResumeTexts) (reason : Reason) → subject.Hold call texts → IsNoReplay probes texts reason → StandsAt told first (IsToRefuse (IsNoReplay probes texts)) course
  state_bad texts reason hold none =
      (to_design first (inl refl)).comes (IsToRefuse (IsNoReplay probes texts)) texts.design hold.0 (none.watched, none.design_is) next
      (λ its so.
      let same : none.watched ≡ its = watched_once probes texts.design none.watched its none.design_is so in
      at_bad told first (state_kind (latches_of its)) state (goes_on its) texts.state (IsNoReplay probes texts) (inr (inl refl)) hold.1
      (λ why bad. record { watched = its; design_is = so; bad = bad })
      (reason, subst (λ (one : WatchedDesign). IsBadState (latches_of one) texts.state reason) same none.bad))

  -- and so are too few clocks
  clocks_bad : (texts : ResumeTexts) (s : List ℕ) (its : Replay) (rows : List (List Bool)) → subject.Hold call texts → Holds call stimulus s
      → traced.AreSpelled subject texts s its rows → length rows < its.state.clock
      → StandsAt told all (IsToRefuse (AreTooFew probes text design state stimulus texts s)) course
  clocks_bad texts s its rows hold held_s are few =
      let P : Course vocabulary → Type 0 = IsToRefuse (AreTooFew probes text design state stimulus texts s) in
      come_to P texts hold its are.spells
      (past told all P (rows_kind (design_width its.watched)) stimulus (with_check (check_by (clocks_reach its.state.clock)) (written its.watched its.state)) s at_stimulus held_s (rows, are.rows_are)
      (λ these those. inl (
        (reasons.State (TooFewClocks (length these) its.state.clock), (refl, subst (λ (so : List (List Bool)). length so < its.state.clock) (sym (same_rows (design_width its.watched) s these rows those are.rows_are)) few)),
        λ reason bad. record { its = its; rows = these; are = record { spells = are.spells; rows_are = those }; bad = bad },
      )))

  -- ---- the table

  pub replay_table : IsCallOf course call → ReplayStatuses probes text design state stimulus call
  replay_table is = record {
    of_design = design_table probes (IsWatchedDesignOf probes) (design_apart probes) design next call all anew own (5 ∷ []) (inl refl) keeps_state
        (λ is. omega (arith, is), (λ is. omega (arith, is), tt)) (λ is. omega (arith, is), tt) is;
    no_state = λ texts s hold held_s. no_state_held texts hold s held_s is;
    no_state_over = λ texts hold. no_state_over texts hold is;
    no_state_comes = λ texts reason hold none. call_refused vocabulary first call (IsNoReplay probes texts) course is (state_bad texts reason hold none);
    too_few_come = λ texts s its rows hold held_s are few.
        call_refused vocabulary all call (AreTooFew probes text design state stimulus texts s) course is (clocks_bad texts s its rows hold held_s are few);
    traced = replay_traced is;
    comes = comes all anew (1 ∷ own) (5 ∷ []) course to_rows.keeps call is (λ number one. inr (inr one));
    absent_state = λ gone. call_barred (1 ∷ []) course call is ((to_design all (inl refl)).barred (1 ∷ []) (λ n one. one) next
        (λ its. barred_here told (1 ∷ []) (state_kind (latches_of its)) state (goes_on its) gone));
    absent_stimulus = λ gone. call_barred (1 ∷ 11 ∷ []) course call is (to_state.barred (1 ∷ 11 ∷ []) (λ n one. one) (λ one. goes_on one.0 one.1)
        (λ one. barred_rows stimulus (design_width one.0) (check_by (clocks_reach one.1.clock)) (text one.1 one.0) no_links told (1 ∷ 11 ∷ []) gone));
  }
