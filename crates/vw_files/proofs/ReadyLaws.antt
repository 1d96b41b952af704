-- From a planned board that is ready to run to the course of a command that runs it.
use Rattle.std.proofs.Common.{◌≡◌, ◌⊎◌, ℕ, List, [], Result, Ok, Err, refl, sym, ◌∙◌, subst, inr}
use Rattle.vw_design.specs.Paths.{Word}
use Rattle.vw_net.specs.declared.ordered.Ordered.{Ordered}
use Rattle.vw_outside.specs.Told.{Told, IsTextOf}
use Rattle.vw_outside.specs.Reads.{SeenShelf}
use Rattle.vw_outside.specs.Writes.{SeenSink}
use Rattle.vw_course.specs.declared.outside.Outside.{Outside}
use Rattle.vw_course.specs.declared.unfinished.Unfinished.{Unfinished}
use Rattle.vw_course.specs.Outside.{SeenOutside, Carried}
use Rattle.vw_course.specs.Course.{Course, cut}
use Rattle.vw_course.specs.Follows.{Answer, Follows}
use Rattle.vw_course.specs.Goes.{seen_outside, IsSame, GoesOver, EndsPart}
use Rattle.vw_course.proofs.GoesLaws.{IsStill}
use Rattle.vw_course.proofs.PartLaws.{EndsIn, IsNoMemory, at_cut, stage_part, made_part, judged_part, part_ends}
use Rattle.vw_front.specs.Designs.{IsNetlistOf}
use Rattle.vw_board.specs.BoardText.{Spells as SpellsBoard}
use Rattle.vw_plan.specs.declared.board.Board.{Board}
use Rattle.vw_plan.specs.declared.checked.Checked.{Checked}
use Rattle.vw_plan.specs.declared.plan.Plan.{Plan}
use Rattle.vw_plan.specs.PlannedBoard.{planned_board}
use Rattle.vw_plan.specs.Sound.{IsSound}
use Rattle.vw_plantext.specs.PlanText.{Spells as SpellsPlan}
use Rattle.vw_plantext.specs.ChipsText.{SpellsChips}
use Rattle.vw_run.specs.Compiled.{IsCompiled}
use Rattle.vw_run.specs.GivenChips.{IsCompiledFor}
use Rattle.vw_courses.specs.declared.vocabulary.File.{File}
use Rattle.vw_courses.specs.declared.vocabulary.Reason.{Reason}
use Rattle.vw_courses.specs.Messages.{vocabulary}
use Rattle.vw_courses.specs.Kinds.{netlist_kind, board_kind, plan_kind, chips_kind, soundness, planning, planning_for}
use Rattle.vw_courses.specs.Commands.{Rest, sound_then, placed_then, plan_then, on_board_course, ready_course}
use Rattle.vw_files.specs.Ready.{cut_there, IsCheckedPlan, IsPlanned, IsOnBoard, IsReadyBoard}
use Rattle.vw_courses.specs.MayPlan.{PlanBy, made_here, of_file, for_chips, IsPlanBy}

-- ---- what was made, in the words of the next function

pub planned_given : (told : List ℕ → Told) (plan : List ℕ) (ordered : Ordered) (board : Board) (its : Plan) (checked : Checked) (text : List ℕ) → IsTextOf (told plan) text → SpellsPlan text its
    → IsCheckedPlan (planned_board ordered board its) checked → IsPlanned told (of_file plan) ordered board checked
planned_given told plan ordered board its checked text of spelled is = record {
  its_ordered = is.ordered;
  its_board = is.board;
  plan = (text, of, subst (SpellsPlan text) (sym is.plan) spelled, subst (λ (one : Plan). IsSound (planned_board ordered board one)) (sym is.plan) is.sound);
}

pub planned_made : (told : List ℕ → Told) (ordered : Ordered) (board : Board) (checked : Checked) → IsCompiled ordered board checked → IsPlanned told made_here ordered board checked
planned_made told ordered board checked is = record { its_ordered = is.ordered_same; its_board = is.board_same; plan = is.good }

pub planned_for : (told : List ℕ → Told) (chips : List ℕ) (ordered : Ordered) (board : Board) (list : List ℕ) (checked : Checked) (text : List ℕ) → IsTextOf (told chips) text → SpellsChips text list
    → IsCompiledFor ordered board list checked → IsPlanned told (for_chips chips) ordered board checked
planned_for told chips ordered board list checked text of spelled is =
    record { its_ordered = is.ordered_same; its_board = is.board_same; plan = (text, of, list, spelled, is.plan_is) }

-- the shelf tells what it told before
module _ (shelf mid : SeenShelf) (same : mid ≡ shelf) where
  pub planned_on_board : (board : List ℕ) (by : PlanBy) (ordered : Ordered) (its : Board) (checked : Checked) (text : List ℕ) → IsTextOf (shelf.told board) text → SpellsBoard text its
      → IsPlanned mid.told by ordered its checked → IsOnBoard shelf.told board by ordered checked
  planned_on_board board by ordered its checked text of spelled is = record {
    its_ordered = is.its_ordered;
    b = text;
    board_of = of;
    board_is = subst (SpellsBoard text) (sym is.its_board) spelled;
    plan = subst (λ (on : Board). IsPlanBy shelf.told by ordered on checked.plan) (sym is.its_board)
        (subst (λ (s : SeenShelf). IsPlanBy s.told by ordered its checked.plan) same is.plan);
  }

  pub board_of_design : (probes : List Word) (design board : List ℕ) (by : PlanBy) (ordered : Ordered) (checked : Checked) (text : List ℕ) → IsTextOf (shelf.told design) text → IsNetlistOf probes text ordered
      → IsOnBoard mid.told board by ordered checked → IsReadyBoard probes shelf.told design board by checked
  board_of_design probes design board by ordered checked text of netlist is = record {
    d = text;
    design_of = of;
    b = is.b;
    board_of = subst (λ (s : SeenShelf). IsTextOf (s.told board) is.b) same is.board_of;
    on = record { netlist = subst (IsNetlistOf probes text) (sym is.its_ordered) netlist; board_is = is.board_is };
    plan_is = subst (λ (one : Ordered). IsPlanBy shelf.told by one checked.board checked.plan) (sym is.its_ordered)
        (subst (λ (s : SeenShelf). IsPlanBy s.told by ordered checked.board checked.plan) same is.plan);
  }

-- what was made may be said in other words
pub part_as : {A : Type 0} (part : Course vocabulary) (Made Other : A → Type 0) (before after : SeenShelf) → ((x : A) → Made x → Other x)
    → (answer : Result A (Unfinished File Reason)) → EndsPart vocabulary part Made before after answer → EndsPart vocabulary part Other before after answer
part_as part Made Other before after also (Ok x) (same, is) = (same, also x is)
part_as part Made Other before after also (Err unfinished) ends = ends

-- ---- the rest behind it

module _ (probes : List Word) (rest : Rest) (before after : SeenOutside vocabulary.Word) where
  abbrev Comes : Answer vocabulary → Course vocabulary → Type 0
  Comes answer course = Follows course before after answer

  module _ (answer : Answer vocabulary) where
    with_plan : (by : PlanBy) (ordered : Ordered) (board : Board) (plan : Plan) → IsPlanBy before.shelf.told by ordered board plan
        → Comes answer (rest ordered board plan) → Comes answer (plan_then by ordered board (rest ordered board))
    with_plan made_here ordered board plan good goes = inr (plan, good, goes)
    with_plan (of_file name) ordered board plan (text, of, spelled, sound) goes = inr (text, of, inr (plan, spelled, inr (tt, sound, goes)))
    with_plan (for_chips name) ordered board plan (text, of, list, spelled, is) goes = inr (text, of, inr (list, spelled, inr (plan, is, goes)))

    -- a planned board is ready, and the rest is followed
    pub ready_rest : (design board : List ℕ) (by : PlanBy) (checked : Checked) → IsReadyBoard probes before.shelf.told design board by checked
        → Comes answer (rest checked.ordered checked.board checked.plan) → Comes answer (ready_course probes design board by rest)
    ready_rest design board by checked is goes =
        inr (is.d, is.design_of, inr (checked.ordered, is.on.netlist, inr (is.b, is.board_of, inr (checked.board, is.on.board_is, with_plan by checked.ordered checked.board checked.plan is.plan_is goes))))

    -- the same behind a design
    pub board_rest : (board : List ℕ) (by : PlanBy) (ordered : Ordered) (checked : Checked) → IsOnBoard before.shelf.told board by ordered checked
        → Comes answer (rest ordered checked.board checked.plan) → Comes answer (on_board_course board by rest ordered)
    board_rest board by ordered checked is goes =
        inr (is.b, is.board_of, inr (checked.board, is.board_is, with_plan by ordered checked.board checked.plan is.plan goes))

  module _ (unfinished : Unfinished File Reason) where
    abbrev Ends : Course vocabulary → Type 0
    Ends = EndsIn vocabulary before after unfinished

    abbrev Out : Type 0
    Out = IsNoMemory vocabulary before after unfinished

    cut_out : (course : Course vocabulary) → Ends (cut {V = vocabulary}) → Ends course ⊎ Out
    cut_out course ends = inr (at_cut vocabulary before after unfinished ends)

    plan_part : (by : PlanBy) (ordered : Ordered) (board : Board) → Ends (plan_then by ordered board (cut_there ordered board)) → Ends (plan_then by ordered board (rest ordered board)) ⊎ Out
    plan_part made_here ordered board ends = made_part vocabulary before after unfinished (planning ordered board) (cut_there ordered board) (rest ordered board) (λ plan. cut_out (rest ordered board plan)) ends
    plan_part (of_file name) ordered board ends = stage_part vocabulary before after unfinished plan_kind name (sound_then ordered board (cut_there ordered board)) (sound_then ordered board (rest ordered board))
        (λ plan. judged_part vocabulary before after unfinished (soundness (planned_board ordered board plan)) (λ done. cut_there ordered board plan) (λ done. rest ordered board plan) (λ done. cut_out (rest ordered board plan))) ends
    plan_part (for_chips name) ordered board ends = stage_part vocabulary before after unfinished chips_kind name (placed_then ordered board (cut_there ordered board)) (placed_then ordered board (rest ordered board))
        (λ list. made_part vocabulary before after unfinished (planning_for ordered board list) (cut_there ordered board) (rest ordered board) (λ plan. cut_out (rest ordered board plan))) ends

    -- the call ended before it
    pub ready_ends : (design board : List ℕ) (by : PlanBy) → Ends (ready_course probes design board by cut_there) → Ends (ready_course probes design board by rest)
    ready_ends design board by ends = part_ends vocabulary before after unfinished (netlist_kind probes) design (on_board_course board by rest)
        (stage_part vocabulary before after unfinished (netlist_kind probes) design (on_board_course board by cut_there) (on_board_course board by rest)
        (λ ordered. stage_part vocabulary before after unfinished board_kind board (λ on. plan_then by ordered on (cut_there ordered on)) (λ on. plan_then by ordered on (rest ordered on)) (plan_part by ordered)) ends)

    pub board_ends : (board : List ℕ) (by : PlanBy) (ordered : Ordered) → Ends (on_board_course board by cut_there ordered) → Ends (on_board_course board by rest ordered)
    board_ends board by ordered ends = part_ends vocabulary before after unfinished board_kind board (λ on. plan_then by ordered on (rest ordered on))
        (stage_part vocabulary before after unfinished board_kind board (λ on. plan_then by ordered on (cut_there ordered on)) (λ on. plan_then by ordered on (rest ordered on)) (plan_part by ordered) ends)

-- ---- over the shelf and out

-- a part of a course was followed, and something made; then the whole is
module _ {S O : Type 0} (seen_shelf : S → SeenShelf) (seen_out : O → SeenSink) (Moved : Carried vocabulary.Word → Carried vocabulary.Word → Type 0)
    (part whole : Course vocabulary) (Made : Checked → Type 0) (before mid : Outside S O) (same : IsSame seen_shelf seen_out before mid) (out : mid.out.now ≡ before.out.now) where
  abbrev Part : Result Checked (Unfinished File Reason) → Type 0
  Part answer = EndsPart vocabulary part Made (seen_shelf before.shelf.now) (seen_shelf mid.shelf.now) answer

  abbrev seen : S → O → Carried vocabulary.Word → SeenOutside vocabulary.Word
  seen shelf own links = seen_outside (seen_shelf shelf) (seen_out own) links

  -- it ended within the part
  goes_ended : IsStill vocabulary Moved → ((one other : SeenOutside vocabulary.Word) (unfinished : Unfinished File Reason) → EndsIn vocabulary one other unfinished part → EndsIn vocabulary one other unfinished whole)
      → (unfinished : Unfinished File Reason) → Part (Err unfinished)
      → GoesOver seen_shelf seen_out vocabulary Moved whole before mid (Err unfinished)
  goes_ended still also unfinished ends = record {
    same = same;
    leads = record {
      follows = λ links after moved.
          subst (λ (l : Carried vocabulary.Word). Follows whole (seen before.shelf.now before.out.now links) (seen mid.shelf.now mid.out.now l) (Err unfinished)) (sym (still links after moved))
          (subst (λ (o : O). Follows whole (seen before.shelf.now before.out.now links) (seen mid.shelf.now o links) (Err unfinished)) (sym out)
          (also (seen before.shelf.now before.out.now links) (seen mid.shelf.now before.out.now links) unfinished (ends (seen_out before.out.now) links)));
    };
  }

  -- or it went on behind it
  goes_further : (checked : Checked) (after : Outside S O) (answer : Answer vocabulary) (next : Course vocabulary)
      → ((one other : SeenOutside vocabulary.Word) → one.shelf ≡ seen_shelf before.shelf.now → Follows next one other answer → Follows whole one other answer)
      → Part (Ok checked) → GoesOver seen_shelf seen_out vocabulary Moved next mid after answer
      → GoesOver seen_shelf seen_out vocabulary Moved whole before after answer
  goes_further checked after answer next also (still, is) goes = record {
    same = record { shelf = goes.same.shelf ∙ same.shelf; out = goes.same.out ∙ same.out };
    leads = record {
      follows = λ links links_after moved.
          also (seen before.shelf.now before.out.now links) (seen after.shelf.now after.out.now links_after) refl
          (subst (λ (s : SeenShelf). Follows next (seen_outside s (seen_out before.out.now) links) (seen after.shelf.now after.out.now links_after) answer) still
          (subst (λ (o : O). Follows next (seen mid.shelf.now o links) (seen after.shelf.now after.out.now links_after) answer) out
          (goes.leads.follows links links_after moved)));
    };
  }

module _ {S O : Type 0} (seen_shelf : S → SeenShelf) (seen_out : O → SeenSink) (Moved : Carried vocabulary.Word → Carried vocabulary.Word → Type 0)
    (probes : List Word) (rest : Rest) (design board : List ℕ) (by : PlanBy) (before mid : Outside S O) (same : IsSame seen_shelf seen_out before mid) (out : mid.out.now ≡ before.out.now) where
  abbrev its_part : Course vocabulary
  its_part = ready_course probes design board by cut_there

  abbrev its_course : Course vocabulary
  its_course = ready_course probes design board by rest

  abbrev Ready : Checked → Type 0
  Ready = IsReadyBoard probes (seen_shelf before.shelf.now).told design board by

  pub goes_unready : IsStill vocabulary Moved → (unfinished : Unfinished File Reason) → Part seen_shelf seen_out Moved its_part its_course Ready before mid same out (Err unfinished)
      → GoesOver seen_shelf seen_out vocabulary Moved its_course before mid (Err unfinished)
  goes_unready still unfinished ends =
      goes_ended seen_shelf seen_out Moved its_part its_course Ready before mid same out still (λ one other why. ready_ends probes rest one other why design board by) unfinished ends

  pub goes_ready : (checked : Checked) (after : Outside S O) (answer : Answer vocabulary) → Part seen_shelf seen_out Moved its_part its_course Ready before mid same out (Ok checked)
      → GoesOver seen_shelf seen_out vocabulary Moved (rest checked.ordered checked.board checked.plan) mid after answer
      → GoesOver seen_shelf seen_out vocabulary Moved its_course before after answer
  goes_ready checked after answer made goes =
      goes_further seen_shelf seen_out Moved its_part its_course Ready before mid same out checked after answer (rest checked.ordered checked.board checked.plan)
      (λ one other shelf follows. ready_rest probes rest one other answer design board by checked (subst (λ (s : SeenShelf). IsReadyBoard probes s.told design board by checked) (sym shelf) made.1) follows) made goes

-- the same behind a design
module _ {S O : Type 0} (seen_shelf : S → SeenShelf) (seen_out : O → SeenSink) (Moved : Carried vocabulary.Word → Carried vocabulary.Word → Type 0)
    (rest : Rest) (board : List ℕ) (by : PlanBy) (ordered : Ordered) (before mid : Outside S O) (same : IsSame seen_shelf seen_out before mid) (out : mid.out.now ≡ before.out.now) where
  abbrev board_part : Course vocabulary
  board_part = on_board_course board by cut_there ordered

  abbrev board_course : Course vocabulary
  board_course = on_board_course board by rest ordered

  abbrev OnBoard : Checked → Type 0
  OnBoard = IsOnBoard (seen_shelf before.shelf.now).told board by ordered

  pub goes_no_board : IsStill vocabulary Moved → (unfinished : Unfinished File Reason) → Part seen_shelf seen_out Moved board_part board_course OnBoard before mid same out (Err unfinished)
      → GoesOver seen_shelf seen_out vocabulary Moved board_course before mid (Err unfinished)
  goes_no_board still unfinished ends =
      goes_ended seen_shelf seen_out Moved board_part board_course OnBoard before mid same out still (λ one other why. board_ends [] rest one other why board by ordered) unfinished ends

  pub goes_on_board : (checked : Checked) (after : Outside S O) (answer : Answer vocabulary) → Part seen_shelf seen_out Moved board_part board_course OnBoard before mid same out (Ok checked)
      → GoesOver seen_shelf seen_out vocabulary Moved (rest ordered checked.board checked.plan) mid after answer
      → GoesOver seen_shelf seen_out vocabulary Moved board_course before after answer
  goes_on_board checked after answer made goes =
      goes_further seen_shelf seen_out Moved board_part board_course OnBoard before mid same out checked after answer (rest ordered checked.board checked.plan)
      (λ one other shelf follows. board_rest [] rest one other answer board by ordered checked (subst (λ (s : SeenShelf). IsOnBoard s.told board by ordered checked) (sym shelf) made.1) follows) made goes
