-- What each status says of a command that runs a design on a board over a stimulus.
use Rattle.std.proofs.Common.{◌≤◌, ◌++◌, ℕ, Bool, List, [], ◌∷◌, length, refl, sym, subst, inl, inr, arith}
use Rattle.vw_design.specs.Paths.{Word}
use Rattle.vw_net.specs.declared.ordered.Ordered.{Ordered}
use Rattle.vw_outside.specs.Told.{Told}
use Rattle.vw_course.specs.Course.{Course}
use Rattle.vw_course.specs.Follows.{May}
use Rattle.vw_course.specs.Endings.{IsCallOf}
use Rattle.vw_course.specs.Places.{IsOneOf, Files, StandsAt}
use Rattle.vw_course.proofs.CallTable.{call_table}
use Rattle.vw_course.proofs.Inductions.{its_text, of_held}
use Rattle.vw_course.proofs.EveryPlace.{IsNoneOf, among_back, comes}
use Rattle.vw_course.proofs.Openings.{IsOpening}
use Rattle.vw_course.proofs.BarredLaws.{call_barred}
use Rattle.vw_front.specs.Designs.{WatchedDesign, IsWatchedDesignOf}
use Rattle.vw_plan.specs.declared.board.Board.{Board}
use Rattle.vw_plan.specs.declared.plan.Plan.{Plan}
use Rattle.vw_plan.specs.PlannedBoard.{planned_board}
use Rattle.vw_courses.specs.declared.vocabulary.File.TheVariants as kinds
use Rattle.vw_courses.specs.Messages.{vocabulary, Call}
use Rattle.vw_courses.specs.Commands.{TextOver, Scripts, no_check, ready_course, board_course, board_scripts}
use Rattle.vw_courses.specs.MayPlan.{PlanBy, made_here, of_file, for_chips, IsPlanBy, MaySpell}
use Rattle.vw_courses.proofs.FlatTraces.{probes_counted}
use Rattle.vw_courses.proofs.TextsOfDesigns.{IsTextOfDesigns, of_design, of_netlist}
use Rattle.vw_statuses.specs.PlannedStatuses.{PlanTexts, IsPlanOf, AreSpelled, HavePlan, plan_statuses, HoldsGiven, HoldTexts}
use Rattle.vw_statuses.specs.RunStatuses.{its_files, IsReady, RunStatuses}
use Rattle.vw_statuses.specs.TracedStatuses.{designs, TracedStatuses}
use Rattle.vw_statuses.specs.LinkTraffic.{UsesBoard}
use Rattle.vw_statuses.proofs.OnBoards.{design_of_netlist}
use Rattle.vw_statuses.proofs.CarriedWords.{carries_all}
use Rattle.vw_statuses.proofs.TracedLaws.{ComesToRows, keeps_rows, barred_rows, traced_table}
use Rattle.vw_statuses.proofs.PlannedLaws.{IsAmong, given_among, other_among, none_planned, apart_from, Has, Spelled, opening, ready_opening, IsRest, keeps_all, work_planned, planned_table}

-- the plan of a held text is one that its name may have
pub plan_by : (call : Call) (by : PlanBy) (p : List ℕ) → HoldsGiven call by p → (ordered : Ordered) (board : Board) (plan : Plan)
    → IsPlanOf by p ordered board plan → IsPlanBy call.before.shelf.told by ordered board plan
plan_by call made_here p holds ordered board plan is = is
plan_by call (of_file name) p holds ordered board plan is = (p, of_held (call.before.shelf.told name) p holds, is.0, is.1)
plan_by call (for_chips name) p holds ordered board plan is = (p, of_held (call.before.shelf.told name) p holds, is.0, is.1, is.2)

-- and so are the texts of a design and a board
pub may_spell : (probes : List Word) (design board : List ℕ) (by : PlanBy) (call : Call) (texts : PlanTexts)
    → HoldTexts probes design board by call texts → (ordered : Ordered) (on : Board) (plan : Plan)
    → AreSpelled probes by texts ordered on plan
    → MaySpell probes design board by call.before.shelf.told ordered on plan
may_spell probes design board by call texts hold ordered on plan are = record {
  d = texts.design;
  design_of = of_held (call.before.shelf.told design) texts.design hold.design_held;
  b = texts.board;
  board_of = of_held (call.before.shelf.told board) texts.board hold.board_held;
  on = are.on;
  plan_is = plan_by call by texts.plan hold.plan_held ordered on plan are.plan_is;
}

module _ (probes : List Word) (text : TextOver WatchedDesign) (flat_text : TextOver Ordered) (agree : IsTextOfDesigns probes text flat_text) (design board : List ℕ) (by : PlanBy) (stimulus : List ℕ) (until : Bool) (workers : ℕ) (unknown : Bool) (call : Call) where
  -- behind its plan the netlist is run
  abbrev rest : Ordered → Board → Plan → Course vocabulary
  rest = board_course stimulus flat_text until workers unknown

  abbrev course : Course vocabulary
  course = ready_course probes design board by rest

  -- the words of its links
  abbrev words : Ordered → Board → Plan → Scripts
  words ordered on its = board_scripts until workers unknown (planned_board ordered on its)

  abbrev told : List ℕ → Told
  told = call.before.shelf.told

  abbrev Uses : Scripts → Type 0
  Uses = UsesBoard until workers unknown (MaySpell probes design board by told)

  abbrev all : Files vocabulary
  all = its_files probes text design board by stimulus until workers unknown

  abbrev anew : Files vocabulary
  anew = (kinds.Stimulus, stimulus) ∷ []

  abbrev numbers : List ℕ
  numbers = plan_statuses by ++ 5 ∷ []

  abbrev Ready : Call → List ℕ → List ℕ → Type 0
  Ready = IsReady probes text design board by stimulus until workers unknown

  at_plan : IsAmong all by
  at_plan = given_among by (kinds.Design, design) (kinds.Board, board) anew

  at_stimulus : IsOneOf all (kinds.Stimulus, stimulus)
  at_stimulus = other_among by (kinds.Design, design) (kinds.Board, board) (kinds.Stimulus, stimulus) anew (inl refl)

  its_opening : IsOpening told all (plan_statuses by) (opening probes design board by call) (Has probes design board by call) (HoldTexts probes design board by call) (HavePlan probes by) (Spelled probes design board by call)
  its_opening = ready_opening probes design board by call all (inl refl) (inr (inl refl)) at_plan

  apart : (number : ℕ) → IsOneOf (plan_statuses by) number → IsNoneOf (5 ∷ []) number
  apart number one = (apart_from by 5 (λ is. omega (arith, is)) (λ is. omega (arith, is)) (λ is. omega (arith, is)) (λ is. omega (arith, is)) number one, tt)

  is_rest : IsRest by all anew (5 ∷ []) (5 ∷ []) rest
  is_rest = record {
    keeps = λ ordered on its. keeps_rows stimulus ordered.flat.inputs no_check (flat_text ordered) (words ordered on its) all (5 ∷ []) at_stimulus (inl refl) tt;
    apart = apart;
    whole = apart;
  }

  uses : (ordered : Ordered) (on : Board) (its : Plan) → MaySpell probes design board by told ordered on its → Uses (words ordered on its)
  uses ordered on its is = record { ordered = ordered; board = on; plan = its; is = is; are = refl }

  -- the rows of the stimulus come behind the plan
  to_rows : ComesToRows (designs probes design) (λ its. no_check) text stimulus course call all numbers Ready Uses
  to_rows = record {
    keeps = keeps_all probes design board by call rest all anew (5 ∷ []) (5 ∷ []) (inl refl) (inr (inl refl)) at_plan is_rest;
    behind = λ P passes may.
        let later = its_opening.behind 5 P passes (none_planned by 5 (λ is. omega (arith, is)) (λ is. omega (arith, is)) (λ is. omega (arith, is)) (λ is. omega (arith, is))) (λ x. rest x.0 x.1 x.2) may in
        let netlist = later.1.on.netlist in (
          netlist.watched,
          λ d held_d. subst (λ (t : List ℕ). IsWatchedDesignOf probes t netlist.watched) (its_text (told design) later.1.d d held_d later.1.design_of) netlist.is,
          words later.0.0 later.0.1 later.0.2,
          uses later.0.0 later.0.1 later.0.2 later.1,
          of_design (λ (place : Course vocabulary). May told P place) stimulus text flat_text (words later.0.0 later.0.1 later.0.2) netlist.watched later.0.0 netlist.flat (agree netlist.watched later.0.0 netlist.flat (probes_counted probes later.1.d netlist.watched netlist.is)) later.2,
        );
    comes = λ P d s ready its is stands.
        let own : IsWatchedDesignOf probes ready.texts.design its = subst (λ (t : List ℕ). IsWatchedDesignOf probes t its) (sym ready.design_is) is in
        its_opening.comes P ready.texts ready.planned_held ready.have (λ x. rest x.0 x.1 x.2)
        (λ x are.
        let flat = design_of_netlist probes ready.texts.design its x.0 own are.on.netlist in
        of_netlist (λ (place : Course vocabulary). StandsAt told all P place) stimulus text flat_text (words x.0 x.1 x.2) its x.0 flat (agree its x.0 flat (probes_counted probes d its is))
        (stands (words x.0 x.1 x.2) (uses x.0 x.1 x.2 (may_spell probes design board by call ready.texts ready.planned_held x.0 x.1 x.2 are))));
    ready_held = λ d s ready. ready.stimulus_held;
    passes = λ texts s ready its rows are. tt;
    one = at_stimulus;
  }

  pub run_traced : IsCallOf course call → TracedStatuses (designs probes design) text stimulus all Ready Uses call
  run_traced = traced_table (designs probes design) (λ its. no_check) text stimulus course call all numbers Ready Uses to_rows

  pub run_table : length probes ≤ 65 → IsCallOf course call → RunStatuses probes text design board by stimulus until workers unknown call
  run_table few is = record {
    planned = planned_table probes few design board call rest all anew (5 ∷ []) (5 ∷ []) (inl refl) (inr (inl refl)) by at_plan is_rest is;
    traced = run_traced is;
    on_links = λ texts s hold held_s status. carries_all probes text design call until workers unknown texts.design s (MaySpell probes design board by told) (AreSpelled probes by texts) (λ ordered on plan may. its_opening.spelled texts hold (ordered, on, plan) may)
        ((run_traced is).ends.done (texts.design, s) (record { its_held = hold.design_held; stimulus_held = held_s }) status);
    done_planned = λ texts hold status.
        let done = (call_table course call is).done status in
        let later = work_planned probes design board by call rest all anew (5 ∷ []) (5 ∷ []) (inl refl) (inr (inl refl)) at_plan is_rest texts hold done.did done.is in
        (later.0.2, record { ordered = later.0.0; board = later.0.1; are = later.1 });
    comes = comes all anew numbers (5 ∷ []) course to_rows.keeps call is (among_back (plan_statuses by) (5 ∷ []));
    absent_stimulus = λ gone. call_barred (plan_statuses by) course call is (its_opening.barred (plan_statuses by) (λ n one. one) (λ x. rest x.0 x.1 x.2)
        (λ x. barred_rows stimulus x.0.flat.inputs no_check (flat_text x.0) (words x.0 x.1 x.2) told (plan_statuses by) gone));
  }
