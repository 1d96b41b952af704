-- What each status says of the design, the board and the plan of a command that begins with these, whatever comes behind.
use Rattle.std.proofs.Common.{◌≡◌, ◌<◌, ◌≤◌, ◌≢◌, ◌*◌, ◌⊎◌, ◌++◌, ℕ, List, length, [], ◌∷◌, refl, sym, ◌∙◌, ap, ap₂, subst, inl, inr, ⊎_elim, lit<, arith}
use Rattle.vw_net.specs.declared.flat.Flat.{Flat}
use Rattle.vw_net.specs.declared.ordered.Ordered.{Ordered}
use Rattle.vw_design.specs.Paths.{Word}
use Rattle.vw_outside.specs.Told.{Told, held}
use Rattle.vw_course.specs.Vocabulary.{IsNoStop}
use Rattle.vw_course.specs.Course.{Course, stage}
use Rattle.vw_course.specs.Follows.{May}
use Rattle.vw_course.specs.Endings.{IsCallOf}
use Rattle.vw_course.specs.Places.{IsOneOf, Files, WorksHere, BreaksHere, RefusesHere, StandsAt, IsToRefuse}
use Rattle.vw_course.specs.Statuses.{IsRefusedFor, MayDo}
use Rattle.vw_course.proofs.Inductions.{its_text}
use Rattle.vw_course.proofs.StandLaws.{call_refused}
use Rattle.vw_course.proofs.EveryPlace.{AreAmong, among_front, IsNoneOf, none_one, KeepsTo, keeps_stage, keeps_judged, keeps_made, keeps_more, no_refusal, no_break}
use Rattle.vw_course.proofs.Openings.{IsOpening, MayHave, file_opening, both_openings, opening_as, file_table}
use Rattle.vw_course.proofs.StageLaws.{past, past_judged, past_made, at_bad, refused_past, stage_behind, judged_behind, made_behind, works_behind, refusal_behind, refused_for}
use Rattle.vw_course.proofs.BarredLaws.{barred_here, barred_later, call_barred}
use Rattle.vw_front.specs.Designs.{IsNetlistOf, netlist_apart}
use Rattle.vw_front.proofs.RunningDesigns.{netlist_of}
use Rattle.vw_plan.specs.declared.board.Board.{Board}
use Rattle.vw_plan.specs.declared.plan.Plan.{Plan}
use Rattle.vw_plan.specs.PlannedBoard.{planned_board}
use Rattle.vw_plan.specs.Sound.{IsSound}
use Rattle.vw_board.specs.BoardText.{Spells as SpellsBoard}
use Rattle.vw_board.proofs.OneBoard.{accepted_once}
use Rattle.vw_plantext.specs.PlanText.{Spells as SpellsPlan}
use Rattle.vw_plantext.specs.ChipsText.{SpellsChips}
use Rattle.vw_plantext.proofs.OnePlan.{spelled_once}
use Rattle.vw_plantext.proofs.OneChips.{chips_once}
use Rattle.vw_check.specs.Answers.{HasPlace}
use Rattle.vw_check.specs.Faults.{plan_fault, chips_fault}
use Rattle.vw_check.proofs.SoundPlans.{sound, faultless}
use Rattle.vw_check.proofs.SameNetlist.{fault_same}
use Rattle.vw_run.specs.declared.fault.CompileFault.TheVariants.{TooManyCells}
use Rattle.vw_run.specs.GivenChips.{IsPlanFor}
use Rattle.vw_courses.specs.declared.vocabulary.File.TheVariants as kinds
use Rattle.vw_courses.specs.declared.vocabulary.Reason.{Reason}
use Rattle.vw_courses.specs.declared.vocabulary.Reason.TheVariants as reasons
use Rattle.vw_courses.specs.Messages.{reason_status, vocabulary, Call, CallWork}
use Rattle.vw_courses.specs.Kinds.{netlist_kind, board_kind, plan_kind, chips_kind, soundness, planning, planning_for, ChipsHaveRoom, IsBadFit, IsBadPlanText, IsBadPlan, IsBadChipsText, IsBadChips}
use Rattle.vw_courses.specs.Commands.{Rest, sound_then, placed_then, plan_then, on_board_course, ready_course}
use Rattle.vw_courses.specs.OnBoards.{IsNoBoard, AreSpelledOn}
use Rattle.vw_courses.specs.MayPlan.{PlanBy, made_here, of_file, for_chips, IsPlanBy, MaySpell}
use Rattle.vw_statuses.specs.PlannedStatuses.{PlanTexts, IsPlanOf, AreSpelled, On, IsUnsound, HaveNoPlace, IsNoFit, IsNoPlan, AreNoChips, HavePlan, plan_status, plan_statuses, HoldsGiven, HoldTexts, with_given, its_board, its_files, ByPlan, DesignRuns, PlannedStatuses}
use Rattle.vw_statuses.proofs.DesignLaws.{design_table}
use Rattle.vw_statuses.proofs.OnBoards.{netlist_same, no_room_same, has_room_same}

-- ---- what the texts have, each netlist, board, plan and list of chips of them has

module _ (probes : List Word) (d b p : List ℕ) (ordered other : Ordered) (board its_board : Board) (on : AreSpelledOn probes d b ordered board) (its_on : AreSpelledOn probes d b other its_board) where
  flats : ordered.flat ≡ other.flat
  flats = netlist_same probes d ordered other on.netlist its_on.netlist

  boards : board ≡ its_board
  boards = accepted_once b board its_board on.board_is its_on.board_is

  fault_of_texts : (plan its_plan : Plan) → SpellsPlan p plan → SpellsPlan p its_plan
      → plan_fault (planned_board ordered board plan) ≡ plan_fault (planned_board other its_board its_plan)
  fault_of_texts plan its_plan is its_is =
      fault_same board plan ordered other flats ∙ ap₂ (λ (one : Board) (two : Plan). plan_fault (planned_board other one two)) boards (spelled_once p plan its_plan is its_is)

  sound_of_texts : (plan its_plan : Plan) → SpellsPlan p plan → SpellsPlan p its_plan → IsSound (planned_board ordered board plan)
      → IsSound (planned_board other its_board its_plan)
  sound_of_texts plan its_plan is its_is all =
      sound (planned_board other its_board its_plan) (sym (fault_of_texts plan its_plan is its_is) ∙ faultless (planned_board ordered board plan) all)

  module _ (chips its_chips : List ℕ) (are : SpellsChips p chips) (its_are : SpellsChips p its_chips) where
    lists : chips ≡ its_chips
    lists = chips_once p chips its_chips are its_are

    place_same : HasPlace ordered.flat board chips → HasPlace other.flat its_board its_chips
    place_same place = subst (λ (flat : Flat). HasPlace flat its_board its_chips) flats (subst (λ (one : Board). HasPlace ordered.flat one its_chips) boards (subst (HasPlace ordered.flat board) lists place))

    chips_fault_same : chips_fault ordered.flat board chips ≡ chips_fault other.flat its_board its_chips
    chips_fault_same = λ i. chips_fault (flats i) (boards i) (lists i)

-- ---- the plan

-- the file that is given, where one is, is one of these
abbrev pub IsAmong : Files vocabulary → PlanBy → Type 0
IsAmong files made_here = Unit {0}
IsAmong files (of_file name) = IsOneOf files (kinds.Plan, name)
IsAmong files (for_chips name) = IsOneOf files (kinds.Plan, name)

-- it is one of all that stand behind the design and the board, and so is each other one
pub given_among : (by : PlanBy) (one two : vocabulary.File × List ℕ) (others : Files vocabulary) → IsAmong (one ∷ (two ∷ with_given by others)) by
given_among made_here one two others = tt
given_among (of_file name) one two others = inr (inr (inl refl))
given_among (for_chips name) one two others = inr (inr (inl refl))

pub other_among : (by : PlanBy) (one two its : vocabulary.File × List ℕ) (others : Files vocabulary) → IsOneOf others its
    → IsOneOf (one ∷ (two ∷ with_given by others)) its
other_among made_here one two its others is = inr (inr is)
other_among (of_file name) one two its others is = inr (inr (inr is))
other_among (for_chips name) one two its others is = inr (inr (inr is))

-- another number than those of refusals up to the plan is none of them
pub none_planned : (by : PlanBy) (number : ℕ) → number ≢ 1 → number ≢ 3 → number ≢ 4 → number ≢ 6 → IsNoneOf (plan_statuses by) number
none_planned made_here number one three four six = (one, (three, (six, tt)))
none_planned (of_file name) number one three four six = (one, (three, (four, tt)))
none_planned (for_chips name) number one three four six = (one, (three, (four, tt)))

-- and the plan's is one of a refusal that neither the design nor the board has
plan_differs : (by : PlanBy) → IsNoneOf (1 ∷ 3 ∷ []) (plan_status by)
plan_differs made_here = (λ is. omega (arith, is), (λ is. omega (arith, is), tt))
plan_differs (of_file name) = (λ is. omega (arith, is), (λ is. omega (arith, is), tt))
plan_differs (for_chips name) = (λ is. omega (arith, is), (λ is. omega (arith, is), tt))

-- such a plan comes for this netlist on this board
abbrev PlanComes : PlanBy → Ordered → Board → List ℕ → Type 0
PlanComes made_here ordered board p = ChipsHaveRoom ordered board
PlanComes (of_file name) ordered board p = (plan : Plan) × SpellsPlan p plan × IsSound (planned_board ordered board plan)
PlanComes (for_chips name) ordered board p = (chips : List ℕ) × SpellsChips p chips × HasPlace ordered.flat board chips

-- it is refused for this netlist on this board, for this reason
abbrev pub IsPlanReason : PlanBy → List ℕ → Ordered → Board → Reason → Type 0
IsPlanReason made_here p ordered board reason = IsBadFit ordered board reason
IsPlanReason (of_file name) p ordered board reason =
    IsBadPlanText p reason ⊎ ((plan : Plan) × SpellsPlan p plan × IsBadPlan (planned_board ordered board plan) reason)
IsPlanReason (for_chips name) p ordered board reason =
    IsBadChipsText p reason ⊎ ((chips : List ℕ) × SpellsChips p chips × IsBadChips ordered board chips reason)

module _ (call : Call) where
  abbrev told : List ℕ → Told
  told = call.before.shelf.told

  -- the texts that a name may have are the one that is held
  pub held_plan : (by : PlanBy) (p : List ℕ) → HoldsGiven call by p → (ordered : Ordered) (board : Board) (plan : Plan)
      → IsPlanBy told by ordered board plan → IsPlanOf by p ordered board plan
  held_plan made_here p holds ordered board plan is = is
  held_plan (of_file name) p holds ordered board plan is =
      (subst (λ (t : List ℕ). SpellsPlan t plan) (its_text (told name) is.0 p holds is.1) is.2, is.3)
  held_plan (for_chips name) p holds ordered board plan is =
      (is.2, subst (λ (t : List ℕ). SpellsChips t is.2) (its_text (told name) is.0 p holds is.1) is.3, is.4)

  module _ (files : Files vocabulary) (ordered : Ordered) (board : Board) where
    plan_opening : (by : PlanBy) → IsAmong files by
        → IsOpening told files (plan_status by ∷ []) {A = Plan} {T = List ℕ} (plan_then by ordered board) (IsPlanBy told by ordered board) (HoldsGiven call by) (PlanComes by ordered board) (λ p. IsPlanOf by p ordered board)
    plan_opening made_here at = record {
      keeps = λ anew more broken all next later. keeps_made files anew more broken (planning ordered board) next (all 6 (inl refl)) later;
      behind = λ number P passes none next may. made_behind told number P passes (planning ordered board) next (λ is. none.0 (sym is)) may;
      spelled = λ p holds plan is. is;
      comes = λ P p holds room next there. past_made told files P (planning ordered board) next room there;
      barred = λ all among next later. (λ reason bad. subst (IsOneOf all) (sym (ap reason_status bad.0)) (among 6 (inl refl)), λ plan good. later plan);
    }
    plan_opening (of_file name) at = record {
      keeps = λ anew more broken all next later. keeps_stage files anew more broken plan_kind name (sound_then ordered board next) at (all 4 (inl refl))
          (λ its. keeps_judged files anew more broken (soundness (planned_board ordered board its)) (λ done. next its) (all 4 (inl refl)) (λ done. later its));
      behind = λ number P passes none next may.
          let one = stage_behind told number P passes plan_kind name (sound_then ordered board next) (λ is. none.0 (sym is)) may in
          let two = judged_behind told number P passes (soundness (planned_board ordered board one.2)) (λ done. next one.2) (λ is. none.0 (sym is)) one.4 in
          (one.2, (one.0, one.1, one.3, two.1), two.2);
      spelled = λ p holds plan is. held_plan (of_file name) p holds ordered board plan is;
      comes = λ P p holds have next there. past told files P plan_kind name (sound_then ordered board next) p at holds (have.0, have.1)
          (λ its spelled. past_judged told files P (soundness (planned_board ordered board its)) (λ done. next its)
          (tt, subst (λ (plan : Plan). IsSound (planned_board ordered board plan)) (spelled_once p have.0 its have.1 spelled) have.2) (λ done is_sound. there its (spelled, is_sound)));
      barred = λ all among next later. barred_later told all plan_kind name (sound_then ordered board next) (among 4 (inl refl))
          (λ its. (λ reason bad. subst (IsOneOf all) (sym (ap reason_status bad.1)) (among 4 (inl refl)), λ done is_sound. later its));
    }
    plan_opening (for_chips name) at = record {
      keeps = λ anew more broken all next later. keeps_stage files anew more broken chips_kind name (placed_then ordered board next) at (all 4 (inl refl))
          (λ list. keeps_made files anew more broken (planning_for ordered board list) next (all 4 (inl refl)) later);
      behind = λ number P passes none next may.
          let one = stage_behind told number P passes chips_kind name (placed_then ordered board next) (λ is. none.0 (sym is)) may in
          let two = made_behind told number P passes (planning_for ordered board one.2) next (λ is. none.0 (sym is)) one.4 in
          (two.0, (one.0, one.1, one.2, one.3, two.1), two.2);
      spelled = λ p holds plan is. held_plan (for_chips name) p holds ordered board plan is;
      comes = λ P p holds have next there. past told files P chips_kind name (placed_then ordered board next) p at holds (have.0, have.1)
          (λ list spelled. past_made told files P (planning_for ordered board list) next (subst (HasPlace ordered.flat board) (chips_once p have.0 list have.1 spelled) have.2)
          (λ plan is. there plan (list, spelled, is)));
      barred = λ all among next later. barred_later told all chips_kind name (placed_then ordered board next) (among 4 (inl refl))
          (λ list. (λ reason bad. subst (IsOneOf all) (sym (ap reason_status bad.1)) (among 4 (inl refl)), λ plan is. later plan));
    }

  -- a refusal with the plan's status is for the plan, where the rest has none with it
  module _ (p : List ℕ) (reason : Reason) (ordered : Ordered) (board : Board) (next : Plan → Course vocabulary) (none : (plan : Plan) → May told (RefusesHere reason) (next plan) → ⊥) where
    plan_refused : (by : PlanBy) → HoldsGiven call by p → May told (RefusesHere reason) (plan_then by ordered board next)
        → IsPlanReason by p ordered board reason
    plan_refused made_here holds (inl bad) = bad
    plan_refused made_here holds (inr (plan, good, later)) = absurd (none plan later)
    plan_refused (of_file name) holds may =
        ⊎_elim (λ (bad : IsBadPlanText p reason). inl bad)
        (λ (one : (plan : Plan) × SpellsPlan p plan × May told (RefusesHere reason) (sound_then ordered board next plan)).
        ⊎_elim (λ (bad : IsBadPlan (planned_board ordered board one.0) reason). inr (one.0, one.1, bad))
        (λ (more : Unit {0} × IsSound (planned_board ordered board one.0) × May told (RefusesHere reason) (next one.0)). absurd (none one.0 more.2)) one.2)
        (refused_past told plan_kind name (sound_then ordered board next) p holds reason may)
    plan_refused (for_chips name) holds may =
        ⊎_elim (λ (bad : IsBadChipsText p reason). inl bad)
        (λ (one : (list : List ℕ) × SpellsChips p list × May told (RefusesHere reason) (placed_then ordered board next list)).
        ⊎_elim (λ (bad : IsBadChips ordered board one.0 reason). inr (one.0, one.1, bad))
        (λ (more : (plan : Plan) × IsPlanFor ordered board one.0 plan × May told (RefusesHere reason) (next plan)). absurd (none more.0 more.2)) one.2)
        (refused_past told chips_kind name (placed_then ordered board next) p holds reason may)

-- ---- the design and the board before it

-- a netlist, a board and a plan
abbrev pub Planned : Type 0
Planned = Ordered × Board × Plan

module _ (probes : List Word) (design board : List ℕ) (by : PlanBy) (call : Call) where
  abbrev before : List ℕ → Told
  before = call.before.shelf.told

  abbrev pub Has : Planned → Type 0
  Has its = MaySpell probes design board by before its.0 its.1 its.2

  abbrev pub Spelled : PlanTexts → Planned → Type 0
  Spelled texts its = AreSpelled probes by texts its.0 its.1 its.2

  abbrev pub opening : (Planned → Course vocabulary) → Course vocabulary
  opening next = ready_course probes design board by (λ ordered on plan. next (ordered, on, plan))

  -- what the names may have, held texts spell
  held_spelled : (texts : PlanTexts) → HoldTexts probes design board by call texts → (its : Planned) → Has its → Spelled texts its
  held_spelled texts hold its may = record {
    on = subst (λ (t : List ℕ). AreSpelledOn probes t texts.board its.0 its.1) (its_text (before design) may.d texts.design hold.design_held may.design_of)
        (subst (λ (t : List ℕ). AreSpelledOn probes may.d t its.0 its.1) (its_text (before board) may.b texts.board hold.board_held may.board_of) may.on);
    plan_is = held_plan call by texts.plan hold.plan_held its.0 its.1 its.2 may.plan_is;
  }

  -- a plan that comes for one netlist and board of the texts comes for each
  pub plan_on : (one : PlanBy) (texts : PlanTexts) → HavePlan probes one texts
      → On probes texts (λ ordered on. (other : Ordered) (its : Board) → AreSpelledOn probes texts.design texts.board other its → PlanComes one other its texts.plan)
  plan_on made_here texts have = record {
    ordered = have.ordered;
    board = have.board;
    are = have.are;
    is = λ other its on. has_room_same probes texts.design texts.board have.ordered other have.board its have.are on have.is;
  }
  plan_on (of_file name) texts have = record {
    ordered = have.1.ordered;
    board = have.1.board;
    are = have.1.are.on;
    is = λ other its on. (
      have.0,
      have.1.are.plan_is.0,
      sound_of_texts probes texts.design texts.board texts.plan have.1.ordered other have.1.board its have.1.are.on on have.0 have.0 have.1.are.plan_is.0 have.1.are.plan_is.0 have.1.are.plan_is.1,
    );
  }
  plan_on (for_chips name) texts have = record {
    ordered = have.ordered;
    board = have.board;
    are = have.are;
    is = λ other its on. (
      have.is.0,
      have.is.1,
      place_same probes texts.design texts.board texts.plan have.ordered other have.board its have.are on have.is.0 have.is.0 have.is.1 have.is.1 have.is.2,
    );
  }

  module _ (files : Files vocabulary) (at_design : IsOneOf files (kinds.Design, design)) (at_board : IsOneOf files (kinds.Board, board)) (at_plan : IsAmong files by) where
    pub board_opening : (ordered : Ordered) → IsOpening before files (3 ∷ plan_status by ∷ []) {A = Board × Plan} {T = List ℕ × List ℕ} (λ next. on_board_course board by (λ own on plan. next (on, plan)) ordered)
        (λ x. MayHave before board_kind board x.0 × IsPlanBy before by ordered x.0 x.1) (λ t. (before board ≡ held t.0) × HoldsGiven call by t.1)
        (λ t. ((on : Board) × SpellsBoard t.0 on) × ((on : Board) → SpellsBoard t.0 on → PlanComes by ordered on t.1)) (λ t x. SpellsBoard t.0 x.0 × IsPlanOf by t.1 ordered x.0 x.1)
    board_opening ordered =
        both_openings before files (3 ∷ []) (plan_status by ∷ []) (stage board_kind board) _ _ _ _ (file_opening before files board_kind board at_board)
        (plan_then by ordered) _ _ _ _ (λ on. plan_opening call files ordered on by at_plan)

    -- all three
    pub ready_opening : IsOpening before files (plan_statuses by) opening Has (HoldTexts probes design board by call) (HavePlan probes by) Spelled
    ready_opening = opening_as before files (plan_statuses by) (λ next. stage (netlist_kind probes) design (λ ordered. on_board_course board by (λ own on plan. next (ordered, (on, plan))) ordered)) _ _ _ _
        (both_openings before files (1 ∷ []) (3 ∷ plan_status by ∷ []) (stage (netlist_kind probes) design) _ _ _ _ (file_opening before files (netlist_kind probes) design at_design)
        (λ ordered next. on_board_course board by (λ own on plan. next (on, plan)) ordered) _ _ _ _ board_opening)
        (λ (x : Ordered × (Board × Plan)). (x.0, x.1.0, x.1.1)) (λ (texts : PlanTexts). (texts.design, (texts.board, texts.plan))) Has (HoldTexts probes design board by call) (HavePlan probes by) Spelled
        (λ its has. record { d = has.0.0; design_of = has.0.1; b = has.1.0.0; board_of = has.1.0.1; on = record { netlist = has.0.2; board_is = has.1.0.2 }; plan_is = has.1.1 })
        (λ texts hold. (hold.design_held, (hold.board_held, hold.plan_held)))
        (λ texts hold have. let on = plan_on by texts have in
        ((on.ordered, on.are.netlist), λ ordered netlist. ((on.board, on.are.board_is), λ its spelled. on.is ordered its (record { netlist = netlist; board_is = spelled }))))
        (λ texts its are. record { on = record { netlist = are.0; board_is = are.1.0 }; plan_is = are.1.1 })
        held_spelled

    -- the design and the board alone
    two_openings : IsOpening before files (1 ∷ 3 ∷ []) {A = Ordered × Board} {T = List ℕ × List ℕ} (λ next. stage (netlist_kind probes) design (λ ordered. stage board_kind board (λ on. next (ordered, on))))
        (λ x. MayHave before (netlist_kind probes) design x.0 × MayHave before board_kind board x.1) (λ t. (before design ≡ held t.0) × (before board ≡ held t.1))
        (λ t. ((ordered : Ordered) × IsNetlistOf probes t.0 ordered) × ((ordered : Ordered) → IsNetlistOf probes t.0 ordered → (on : Board) × SpellsBoard t.1 on)) (λ t x. IsNetlistOf probes t.0 x.0 × SpellsBoard t.1 x.1)
    two_openings = both_openings before files (1 ∷ []) (3 ∷ []) (stage (netlist_kind probes) design) _ _ _ _ (file_opening before files (netlist_kind probes) design at_design)
        (λ ordered. stage board_kind board) _ _ _ _ (λ ordered. file_opening before files board_kind board at_board)

-- ---- what comes behind it

-- each number up to the plan's is another one
pub apart_from : (by : PlanBy) (number : ℕ) → number ≢ 1 → number ≢ 3 → number ≢ 4 → number ≢ 6 → (other : ℕ)
    → IsOneOf (plan_statuses by) other → other ≢ number
apart_from by number one three four six other is same =
    none_one (plan_statuses by) number (none_planned by number one three four six) (subst (IsOneOf (plan_statuses by)) same is)

-- what comes behind keeps to these files, and to other statuses than those up to the plan
pub record IsRest (by : PlanBy) (files anew : Files vocabulary) (own broken : List ℕ) (rest : Rest) : Type 0 where
  pub keeps : (ordered : Ordered) (on : Board) (plan : Plan) → KeepsTo files anew own broken (rest ordered on plan)
  pub apart : (number : ℕ) → IsOneOf (plan_statuses by) number → IsNoneOf own number
  pub whole : (number : ℕ) → IsOneOf (plan_statuses by) number → IsNoneOf broken number

module _ (probes : List Word) (design board : List ℕ) (by : PlanBy) (call : Call) (rest : Rest) (files anew : Files vocabulary) (own broken : List ℕ)
    (at_design : IsOneOf files (kinds.Design, design)) (at_board : IsOneOf files (kinds.Board, board)) (at_plan : IsAmong files by) (its : IsRest by files anew own broken rest) where
  abbrev seen : List ℕ → Told
  seen = call.before.shelf.told

  abbrev pub course : Course vocabulary
  course = ready_course probes design board by rest

  keeps_plan : (more : List ℕ) → AreAmong (plan_status by ∷ own) more → (ordered : Ordered) (on : Board)
      → KeepsTo files anew more broken (plan_then by ordered on (rest ordered on))
  keeps_plan more among ordered on = (plan_opening call files ordered on by at_plan).keeps anew more broken (λ n one. among n (among_front (plan_status by ∷ []) own n one)) (rest ordered on)
      (λ plan. keeps_more files anew own broken more (λ n one. among n (inr one)) (rest ordered on plan) (its.keeps ordered on plan))

  keeps_board : (more : List ℕ) → AreAmong (3 ∷ plan_status by ∷ own) more → (ordered : Ordered)
      → KeepsTo files anew more broken (on_board_course board by rest ordered)
  keeps_board more among ordered = keeps_stage files anew more broken board_kind board (λ on. plan_then by ordered on (rest ordered on)) at_board (among 3 (inl refl))
      (λ on. keeps_plan more (λ n one. among n (inr one)) ordered on)

  pub keeps_all : KeepsTo files anew (plan_statuses by ++ own) broken course
  keeps_all = keeps_stage files anew (plan_statuses by ++ own) broken (netlist_kind probes) design (on_board_course board by rest) at_design (inl refl)
      (λ ordered. keeps_board (plan_statuses by ++ own) (λ n one. inr one) ordered)

  -- the work is that of the rest, behind the plan of the texts
  pub work_planned : (texts : PlanTexts) → HoldTexts probes design board by call texts → (did : CallWork) → MayDo course call did
      → (x : Planned) × Spelled probes design board by call texts x × May seen (WorksHere seen did) (rest x.0 x.1 x.2)
  work_planned texts hold did may =
      let its_opening = ready_opening probes design board by call files at_design at_board at_plan in
      let later = its_opening.behind 0 (WorksHere seen did) (works_behind seen 0 did) (none_planned by 0 (λ is. omega (arith, is)) (λ is. omega (arith, is)) (λ is. omega (arith, is)) (λ is. omega (arith, is))) (λ x. rest x.0 x.1 x.2) may in
      (later.0, its_opening.spelled texts hold later.0 later.1, later.2)

  module _ (is : IsCallOf course call) where
    abbrev all : Files vocabulary
    all = its_files probes design board by

    unbroken : (number : ℕ) → IsOneOf (plan_statuses by) number → (reason : Reason) (did : CallWork) → reason_status reason ≡ number
        → May seen (BreaksHere seen reason did) course → ⊥
    unbroken number one = no_break seen files anew (plan_statuses by ++ own) broken course keeps_all number (its.whole number one)

    -- a refusal with the plan's status is for the plan
    plan_why : (texts : PlanTexts) → HoldTexts probes design board by call texts → (reason : Reason) → reason_status reason ≡ plan_status by
        → May seen (RefusesHere reason) course → On probes texts (λ ordered on. IsPlanReason by texts.plan ordered on reason)
    plan_why texts hold reason same may =
        let two = two_openings probes design board by call all (inl refl) (inr (inl refl)) (given_among by (kinds.Design, design) (kinds.Board, board) []) in
        let later = two.behind (plan_status by) (RefusesHere reason) (refusal_behind seen (plan_status by) reason same) (plan_differs by) (λ x. plan_then by x.0 x.1 (rest x.0 x.1)) may in
        let are = two.spelled (texts.design, texts.board) (hold.design_held, hold.board_held) later.0 later.1 in
        record {
          ordered = later.0.0;
          board = later.0.1;
          are = record { netlist = are.0; board_is = are.1 };
          is = plan_refused call texts.plan reason later.0.0 later.0.1 (rest later.0.0 later.0.1)
              (λ plan refused. no_refusal seen files anew own broken (rest later.0.0 later.0.1 plan) (its.keeps later.0.0 later.0.1 plan) (plan_status by) (its.apart (plan_status by) (inr (inr (inl refl)))) reason same refused)
              by hold.plan_held later.2;
        }

    -- texts of a design and a board lead to the plan
    to_plan : (P : Course vocabulary → Type 0) (texts : PlanTexts) → HoldTexts probes design board by call texts
        → (x : Ordered) × IsNetlistOf probes texts.design x → (on : Board) → SpellsBoard texts.board on
        → ((ordered : Ordered) (on : Board) → AreSpelledOn probes texts.design texts.board ordered on → StandsAt seen all P (plan_then by ordered on (rest ordered on)))
        → StandsAt seen all P course
    to_plan P texts hold some on spells there =
        (two_openings probes design board by call all (inl refl) (inr (inl refl)) (given_among by (kinds.Design, design) (kinds.Board, board) [])).comes P (texts.design, texts.board) (hold.design_held, hold.board_held)
        (some, λ ordered netlist. (on, spells)) (λ x. plan_then by x.0 x.1 (rest x.0 x.1)) (λ x are. there x.0 x.1 (record { netlist = are.0; board_is = are.1 }))

module _ (probes : List Word) (few : length probes ≤ 65) (design board : List ℕ) (call : Call) (rest : Rest) (files anew : Files vocabulary) (own broken : List ℕ) (at_design : IsOneOf files (kinds.Design, design)) (at_board : IsOneOf files (kinds.Board, board)) where
  abbrev Kept : PlanBy → Type 0
  Kept by = IsRest by files anew own broken rest

  -- a refusal with the plan's status says so
  refused_plan : (by : PlanBy) (at_plan : IsAmong files by) (its : Kept by) (is : IsCallOf (ready_course probes design board by rest) call) (Why : Reason → Type 0)
      → ((reason : Reason) → reason_status reason ≡ plan_status by → May call.before.shelf.told (RefusesHere reason) (ready_course probes design board by rest) → Why reason)
      → 0 < plan_status by → IsNoStop (plan_status by) → call.status ≡ plan_status by → IsRefusedFor vocabulary Why call
  refused_plan by at_plan its is Why says some stop =
      refused_for (ready_course probes design board by rest) call is (plan_status by) Why says (unbroken probes design board by call rest files anew own broken at_design at_board at_plan its is (plan_status by) (inr (inr (inl refl)))) some stop

  plan_table : (by : PlanBy) → IsAmong files by → Kept by → IsCallOf (ready_course probes design board by rest) call → ByPlan probes design board by call
  plan_table made_here at_plan its is = record {
    no_room = λ texts hold. refused_plan made_here at_plan its is (IsNoFit probes texts) (plan_why probes design board made_here call rest files anew own broken at_design at_board at_plan its is texts hold) (lit< tt) (inl (lit< tt));
    no_room_comes = λ texts hold none.
        call_refused vocabulary (its_board probes design board) call (IsNoFit probes texts) (ready_course probes design board made_here rest) is
        (to_plan probes design board made_here call rest files anew own broken at_design at_board at_plan its is (IsToRefuse (IsNoFit probes texts)) texts hold (none.ordered, none.are.netlist) none.board none.are.board_is
        (λ ordered on are. inl (
          (reasons.Fit (TooManyCells (length ordered.flat.cells) (on.chips * on.cells)), (refl, no_room_same probes texts.design texts.board none.ordered ordered none.board on none.are are none.is)),
          λ reason bad. record { ordered = ordered; board = on; are = are; is = bad },
        )));
  }
  plan_table (of_file plan) at_plan its is =
      let why = plan_why probes design board (of_file plan) call rest files anew own broken at_design at_board at_plan its is in
      let leads = to_plan probes design board (of_file plan) call rest files anew own broken at_design at_board at_plan its is in
      let all = its_files probes design board (of_file plan) in
      let told = call.before.shelf.told in
      record {
        no_plan = λ texts hold. refused_plan (of_file plan) at_plan its is (IsNoPlan probes texts)
            (λ reason same may. let one = why texts hold reason same may in
            ⊎_elim (λ bad. inl bad) (λ bad. inr (record { ordered = one.ordered; board = one.board; are = one.are; is = bad })) one.is) (lit< tt) (inl (lit< tt));
        no_plan_text_comes = λ texts on hold runs spells none.
            call_refused vocabulary all call (IsBadPlanText texts.plan) (ready_course probes design board (of_file plan) rest) is
            (leads (IsToRefuse (IsBadPlanText texts.plan)) texts hold (netlist_of probes texts.design runs few) on spells
            (λ ordered its are. at_bad told all plan_kind plan (sound_then ordered its (rest ordered its)) texts.plan (IsBadPlanText texts.plan) (inr (inr (inl refl))) hold.plan_held (λ reason bad. bad) none));
        unsound_comes = λ texts fault hold has.
            call_refused vocabulary all call (IsUnsound probes texts) (ready_course probes design board (of_file plan) rest) is
            (leads (IsToRefuse (IsUnsound probes texts)) texts hold (has.ordered, has.are.netlist) has.board has.are.board_is
            (λ ordered on are. past told all (IsToRefuse (IsUnsound probes texts)) plan_kind plan (sound_then ordered on (rest ordered on)) texts.plan (inr (inr (inl refl))) hold.plan_held (has.is.0, has.is.1)
            (λ one spelled. inl (
              (reasons.Plan fault, (fault, refl, sym (fault_of_texts probes texts.design texts.board texts.plan has.ordered ordered has.board on has.are are has.is.0 one has.is.1 spelled) ∙ has.is.2)),
              λ reason bad. record { ordered = ordered; board = on; are = are; is = (one, spelled, bad) },
            ))));
        absent_plan = λ gone. call_barred (1 ∷ 3 ∷ []) (ready_course probes design board (of_file plan) rest) call is
            ((two_openings probes design board (of_file plan) call files at_design at_board at_plan).barred (1 ∷ 3 ∷ []) (λ n one. one) (λ x. plan_then (of_file plan) x.0 x.1 (rest x.0 x.1))
            (λ x. barred_here told (1 ∷ 3 ∷ []) plan_kind plan (sound_then x.0 x.1 (rest x.0 x.1)) gone));
      }
  plan_table (for_chips chips) at_plan its is =
      let why = plan_why probes design board (for_chips chips) call rest files anew own broken at_design at_board at_plan its is in
      let leads = to_plan probes design board (for_chips chips) call rest files anew own broken at_design at_board at_plan its is in
      let all = its_files probes design board (for_chips chips) in
      let told = call.before.shelf.told in
      record {
        no_chips = λ texts hold. refused_plan (for_chips chips) at_plan its is (AreNoChips probes texts)
            (λ reason same may. let one = why texts hold reason same may in
            ⊎_elim (λ bad. inl bad) (λ bad. inr (record { ordered = one.ordered; board = one.board; are = one.are; is = bad })) one.is) (lit< tt) (inl (lit< tt));
        no_chips_text_comes = λ texts on reason hold runs spells bad.
            call_refused vocabulary all call (IsBadChipsText texts.plan) (ready_course probes design board (for_chips chips) rest) is
            (leads (IsToRefuse (IsBadChipsText texts.plan)) texts hold (netlist_of probes texts.design runs few) on spells
            (λ ordered its are. at_bad told all chips_kind chips (placed_then ordered its (rest ordered its)) texts.plan (IsBadChipsText texts.plan) (inr (inr (inl refl))) hold.plan_held (λ why bad. bad) (reason, bad)));
        no_place_comes = λ texts fault hold has.
            call_refused vocabulary all call (HaveNoPlace probes texts) (ready_course probes design board (for_chips chips) rest) is
            (leads (IsToRefuse (HaveNoPlace probes texts)) texts hold (has.ordered, has.are.netlist) has.board has.are.board_is
            (λ ordered on are. past told all (IsToRefuse (HaveNoPlace probes texts)) chips_kind chips (placed_then ordered on (rest ordered on)) texts.plan (inr (inr (inl refl))) hold.plan_held (has.is.0, has.is.1)
            (λ list spelled. inl (
              (reasons.Plan fault, (fault, refl, sym (chips_fault_same probes texts.design texts.board texts.plan has.ordered ordered has.board on has.are are has.is.0 list has.is.1 spelled) ∙ has.is.2)),
              λ reason bad. record { ordered = ordered; board = on; are = are; is = (list, spelled, bad) },
            ))));
        absent_chips = λ gone. call_barred (1 ∷ 3 ∷ []) (ready_course probes design board (for_chips chips) rest) call is
            ((two_openings probes design board (for_chips chips) call files at_design at_board at_plan).barred (1 ∷ 3 ∷ []) (λ n one. one) (λ x. plan_then (for_chips chips) x.0 x.1 (rest x.0 x.1))
            (λ x. barred_here told (1 ∷ 3 ∷ []) chips_kind chips (placed_then x.0 x.1 (rest x.0 x.1)) gone));
      }

  pub planned_table : (by : PlanBy) → IsAmong files by → Kept by → IsCallOf (ready_course probes design board by rest) call
      → PlannedStatuses probes design board by call
  planned_table by at_plan its is =
      let told = call.before.shelf.told in
      record {
        of_design = design_table probes (IsNetlistOf probes) (netlist_apart probes) design (on_board_course board by rest) call files anew (3 ∷ plan_status by ∷ own) broken at_design
            (keeps_board probes design board by call rest files anew own broken at_design at_board at_plan its (3 ∷ plan_status by ∷ own) (λ n one. one))
            (λ is. omega (arith, is), (λ is. (plan_differs by).0 (sym is), its.apart 1 (inl refl))) (its.whole 1 (inl refl)) is;
        of_board = file_table call (its_board probes design board) (1 ∷ []) (stage (netlist_kind probes) design) _ _ _ _ (file_opening told (its_board probes design board) (netlist_kind probes) design (inl refl)) board_kind board
            (λ ordered on. plan_then by ordered on (rest ordered on)) (inr (inl refl)) is (lit< tt) (inl (lit< tt)) (λ is. omega (arith, is), tt)
            (λ ordered on reason same. no_refusal told files anew (plan_status by ∷ own) broken (plan_then by ordered on (rest ordered on))
            (keeps_plan probes design board by call rest files anew own broken at_design at_board at_plan its (plan_status by ∷ own) (λ n one. one) ordered on) 3
            (λ is. (plan_differs by).1.0 (sym is), its.apart 3 (inr (inl refl))) reason same)
            (unbroken probes design board by call rest files anew own broken at_design at_board at_plan its is 3 (inr (inl refl))) IsNoBoard (λ b none. none) (DesignRuns probes design board) (λ next. (next.0, next.1, netlist_of probes next.0 next.2 few));
        by_plan = plan_table by at_plan its is;
      }
