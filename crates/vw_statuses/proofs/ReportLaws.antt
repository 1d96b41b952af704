-- What each status of `report` says of its files.
use Rattle.std.proofs.Common.{◌≡◌, ◌≤◌, ℕ, List, length, [], ◌∷◌, refl, sym, subst, inl, inr, ⊎_elim, arith}
use Rattle.vw_net.specs.declared.ordered.Ordered.{Ordered}
use Rattle.vw_design.specs.Paths.{Word}
use Rattle.vw_outside.specs.Told.{Told}
use Rattle.vw_course.specs.Course.{Course, Making, made, stage, writing}
use Rattle.vw_course.specs.Follows.{Answer, Follows}
use Rattle.vw_course.specs.Endings.{IsCallOf}
use Rattle.vw_course.specs.Outside.{SeenOutside}
use Rattle.vw_course.specs.Places.{Files, WorksHere, StandsAt, IsToWork}
use Rattle.vw_course.specs.Statuses.{NoWork, MayDo, EndStatuses}
use Rattle.vw_course.proofs.Inductions.{its_text}
use Rattle.vw_course.proofs.EveryPlace.{KeepsTo, again_one, comes}
use Rattle.vw_course.proofs.Openings.{IsOpening, MayHave, both_openings, end_table, file_opening, opening_as}
use Rattle.vw_course.proofs.StageLaws.{works_behind}
use Rattle.vw_front.specs.declared.named.NamedNetlist.{NamedNetlist}
use Rattle.vw_front.specs.NamedNetlists.{IsNamedNetlistOf, without_names}
use Rattle.vw_front.specs.Names.{net_names, output_names}
use Rattle.vw_front.specs.Designs.{IsNetlistOf}
use Rattle.vw_front.proofs.NameLists.{all_named}
use Rattle.vw_plan.specs.declared.board.Board.{Board}
use Rattle.vw_plan.specs.declared.plan.Plan.{Plan}
use Rattle.vw_plan.specs.PlannedBoard.{planned_board}
use Rattle.vw_board.specs.BoardText.{Spells as SpellsBoard}
use Rattle.vw_report.specs.declared.findings.Findings.{Findings}
use Rattle.vw_report.specs.Findings.{AreFindings}
use Rattle.vw_report.specs.Report.{report_of}
use Rattle.vw_courses.specs.declared.vocabulary.File.TheVariants as kinds
use Rattle.vw_courses.specs.Messages.{vocabulary, Call, CallWork}
use Rattle.vw_courses.specs.Kinds.{board_kind, named_kind}
use Rattle.vw_courses.specs.Commands.{Rest, on_board_course, plan_then, ready_course, report_course, report_rest}
use Rattle.vw_courses.specs.MayPlan.{PlanBy, made_here, of_file, for_chips, IsPlanBy}
use Rattle.vw_statuses.specs.PlannedStatuses.{PlanTexts, AreSpelled, HavePlan, HoldTexts, its_files, plan_statuses}
use Rattle.vw_statuses.specs.ReportStatuses.{CanReport, IsReported, ReportStatuses}
use Rattle.vw_statuses.proofs.PlannedLaws.{IsAmong, IsRest, board_opening, given_among, held_plan, none_planned, plan_on, planned_table}

-- ---- the same course, which knows of the names only that they are those of some text with this netlist

abbrev IsNamed : List Word → Ordered → NamedNetlist → Type 0
IsNamed probes ordered named = (text : List ℕ) × IsNamedNetlistOf probes text named × (named.ordered ≡ ordered)

abbrev naming : (probes : List Word) (ordered : Ordered) → Making vocabulary NamedNetlist 0
naming probes ordered = record {
  judged = record { Good = IsNamed probes ordered; Bad = λ reason. ⊥; apart = λ named reason good bad. bad; its_status = λ reason bad. absurd bad };
  Comes = ⊥;
  sure = λ reason none bad. bad;
}

abbrev later_names : List Word → Rest
later_names probes ordered board plan = made (naming probes ordered) (λ named. report_rest named.nets ordered board plan)

module _ (probes : List Word) (before after : SeenOutside vocabulary.Word) (answer : Answer vocabulary) (named : NamedNetlist) (text : List ℕ) (is : IsNamedNetlistOf probes text named) where
  abbrev Comes : Course vocabulary → Type 0
  Comes course = Follows course before after answer

  name_then : (board : Board) (plan : Plan) → Comes (report_rest named.nets named.ordered board plan) → Comes (later_names probes named.ordered board plan)
  name_then board plan goes = inr (named, (text, is, refl), goes)

  plan_names : (by : PlanBy) (board : Board) → Comes (plan_then by named.ordered board (report_rest named.nets named.ordered board))
      → Comes (plan_then by named.ordered board (later_names probes named.ordered board))
  plan_names made_here board (inl here) = inl here
  plan_names made_here board (inr (plan, good, rest)) = inr (plan, good, name_then board plan rest)
  plan_names (of_file name) board (inl here) = inl here
  plan_names (of_file name) board (inr (its, of, inl here)) = inr (its, of, inl here)
  plan_names (of_file name) board (inr (its, of, inr (plan, good, inl here))) = inr (its, of, inr (plan, good, inl here))
  plan_names (of_file name) board (inr (its, of, inr (plan, good, inr (done, sound, rest)))) = inr (its, of, inr (plan, good, inr (done, sound, name_then board plan rest)))
  plan_names (for_chips name) board (inl here) = inl here
  plan_names (for_chips name) board (inr (its, of, inl here)) = inr (its, of, inl here)
  plan_names (for_chips name) board (inr (its, of, inr (chips, good, inl here))) = inr (its, of, inr (chips, good, inl here))
  plan_names (for_chips name) board (inr (its, of, inr (chips, good, inr (plan, is_for, rest)))) = inr (its, of, inr (chips, good, inr (plan, is_for, name_then board plan rest)))

  board_names : (board : List ℕ) (by : PlanBy) → Comes (on_board_course board by (report_rest named.nets) named.ordered)
      → Comes (on_board_course board by (later_names probes) named.ordered)
  board_names board by (inl here) = inl here
  board_names board by (inr (its, of, inl here)) = inr (its, of, inl here)
  board_names board by (inr (its, of, inr (on, good, rest))) = inr (its, of, inr (on, good, plan_names by on rest))

followed_later : (probes : List Word) (design board : List ℕ) (by : PlanBy) (before after : SeenOutside vocabulary.Word) (answer : Answer vocabulary)
    → Follows (report_course probes design board by) before after answer → Follows (ready_course probes design board by (later_names probes)) before after answer
followed_later probes design board by before after answer (inl here) = inl here
followed_later probes design board by before after answer (inr (text, of, inl here)) = inr (text, of, inl here)
followed_later probes design board by before after answer (inr (text, of, inr (named, is, rest))) =
    inr (text, of, inr (named.ordered, without_names probes text named is, board_names probes before after answer named text is board by rest))

-- ---- its table

-- a netlist of a text can be given its names
with_names : (probes : List Word) (text : List ℕ) (ordered : Ordered) → IsNetlistOf probes text ordered → (named : NamedNetlist) × IsNamedNetlistOf probes text named
with_names probes text ordered is =
    let design = is.watched.design in (
      record { ordered = ordered; nets = net_names design; outputs = output_names design; all_named = all_named design is.watched.nets ordered.flat is.flat },
      record { watched = is.watched; is = is.is; flat = is.flat; nets = refl; outputs = refl },
    )

-- a netlist with names, a board and a plan
abbrev Named : Type 0
Named = NamedNetlist × (Board × Plan)

module _ (probes : List Word) (design board : List ℕ) (by : PlanBy) (call : Call) where
  abbrev all : Files vocabulary
  all = its_files probes design board by

  abbrev told : List ℕ → Told
  told = call.before.shelf.told

  abbrev course : Course vocabulary
  course = report_course probes design board by

  at_plan : IsAmong all by
  at_plan = given_among by (kinds.Design, design) (kinds.Board, board) []

  abbrev Has : Named → Type 0
  Has x = MayHave told (named_kind probes) design x.0 × (MayHave told board_kind board x.1.0 × IsPlanBy told by x.0.ordered x.1.0 x.1.1)

  abbrev Spelled : PlanTexts → Named → Type 0
  Spelled texts x = IsNamedNetlistOf probes texts.design x.0 × AreSpelled probes by texts x.0.ordered x.1.0 x.1.1

  abbrev opening : (Named → Course vocabulary) → Course vocabulary
  opening next = stage (named_kind probes) design (λ named. on_board_course board by (λ own on plan. next (named, (on, plan))) named.ordered)

  abbrev rest : Named → Course vocabulary
  rest x = report_rest x.0.nets x.0.ordered x.1.0 x.1.1

  held_spelled : (texts : PlanTexts) → HoldTexts probes design board by call texts → (x : Named) → Has x → Spelled texts x
  held_spelled texts hold x has =
      let netlist = subst (λ (t : List ℕ). IsNamedNetlistOf probes t x.0) (its_text (told design) has.0.0 texts.design hold.design_held has.0.1) has.0.2 in (
        netlist,
        record {
          on = record {
            netlist = without_names probes texts.design x.0 netlist;
            board_is = subst (λ (t : List ℕ). SpellsBoard t x.1.0) (its_text (told board) has.1.0.0 texts.board hold.board_held has.1.0.1) has.1.0.2;
          };
          plan_is = held_plan call by texts.plan hold.plan_held x.0.ordered x.1.0 x.1.1 has.1.1;
        },
      )

  its_opening : IsOpening told all (plan_statuses by) opening Has (HoldTexts probes design board by call) (HavePlan probes by) Spelled
  its_opening = opening_as told all (plan_statuses by) opening _ _ _ _
      (both_openings told all (1 ∷ []) _ (stage (named_kind probes) design) _ _ _ _ (file_opening told all (named_kind probes) design (inl refl))
      (λ named next. on_board_course board by (λ own on plan. next (on, plan)) named.ordered) _ _ _ _ (λ named. board_opening probes design board by call all (inl refl) (inr (inl refl)) at_plan named.ordered))
      (λ (x : Named). x) (λ (texts : PlanTexts). (texts.design, (texts.board, texts.plan))) Has (HoldTexts probes design board by call) (HavePlan probes by) Spelled
      (λ x has. has)
      (λ texts hold. (hold.design_held, (hold.board_held, hold.plan_held)))
      (λ texts hold have. let on = plan_on probes design board by call by texts have in (
        with_names probes texts.design on.ordered on.are.netlist,
        λ named netlist. ((on.board, on.are.board_is), λ its spelled. on.is named.ordered its (record { netlist = without_names probes texts.design named netlist; board_is = spelled })),
      ))
      (λ texts x are. (are.0, record { on = record { netlist = without_names probes texts.design x.0 are.0; board_is = are.1.0 }; plan_is = are.1.1 }))
      held_spelled

  keeps : KeepsTo all [] (plan_statuses by) [] course
  keeps = its_opening.keeps [] (plan_statuses by) [] (λ n one. one) rest (λ x. (λ reason bad. absurd bad, λ found good. tt))

  reported : (texts : PlanTexts) (x : Named) → Spelled texts x → (found : Findings) → AreFindings (planned_board x.0.ordered x.1.0 x.1.1) found
      → IsReported probes by texts (writing (report_of (planned_board x.0.ordered x.1.0 x.1.1) x.0.nets found))
  reported texts x are found good = record {
    text = report_of (planned_board x.0.ordered x.1.0 x.1.1) x.0.nets found;
    reports = record { named = x.0; board = x.1.0; plan = x.1.1; names_are = are.0; are = are.1; reports = record { found = found; are = good; is = refl } };
    is = refl;
  }

  written_by : (texts : PlanTexts) → HoldTexts probes design board by call texts → (did : CallWork) → MayDo course call did → IsReported probes by texts did
  written_by texts hold did may =
      let later = its_opening.behind 0 (WorksHere told did) (works_behind told 0 did) (none_planned by 0 (λ is. omega (arith, is)) (λ is. omega (arith, is)) (λ is. omega (arith, is)) (λ is. omega (arith, is))) rest may in
      let are = its_opening.spelled texts hold later.0 later.1 in
      ⊎_elim (λ (none : ⊥). absurd none)
      (λ (more : (found : Findings) × AreFindings (planned_board later.0.0.ordered later.0.1.0 later.0.1.1) found × (did ≡ writing (report_of (planned_board later.0.0.ordered later.0.1.0 later.0.1.1) later.0.0.nets found))).
      subst (IsReported probes by texts) (sym more.2) (reported texts later.0 are more.0 more.1)) later.2

  to_text : (texts : PlanTexts) → CanReport probes by design board call texts → StandsAt told all (IsToWork told all (IsReported probes by texts)) course
  to_text texts can =
      its_opening.comes (IsToWork told all (IsReported probes by texts)) texts can.held can.have rest
      (λ x are. inr (tt, λ found good. (tt, reported texts x are found good)))

  is_rest : IsRest by all [] [] [] (later_names probes)
  is_rest = record {
    keeps = λ ordered on plan. (λ reason bad. absurd bad, λ named good. (λ reason bad. absurd bad, λ found is. tt));
    apart = λ number one. tt;
    whole = λ number one. tt;
  }

  pub report_ends : IsCallOf course call
      → EndStatuses vocabulary all (HoldTexts probes design board by) (IsReported probes by) NoWork (CanReport probes by design board) (IsReported probes by) call
  report_ends is = end_table all [] (plan_statuses by) [] course keeps (λ file one. absurd one) call is (HoldTexts probes design board by) (IsReported probes by) NoWork (CanReport probes by design board) (IsReported probes by)
      written_by (λ file name did may. again_one told all [] (plan_statuses by) [] course keeps file name did may) to_text

  pub report_table : length probes ≤ 65 → IsCallOf course call → ReportStatuses probes by design board call
  report_table few is = record {
    planned = planned_table probes few design board call (later_names probes) all [] [] [] (inl refl) (inr (inl refl)) by at_plan is_rest
        (record { answer = is.answer; follows = followed_later probes design board by call.before call.after is.answer is.follows; ends = is.ends });
    ends = report_ends is;
    comes = comes all [] (plan_statuses by) [] course keeps call is (λ number one. absurd one);
  }
