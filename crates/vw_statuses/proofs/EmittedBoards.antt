-- What the text of an emitted board is of the text of a design.
use Rattle.std.proofs.Common.{ℕ, List, [], ◌∙◌, ap}
use Rattle.vw_net.specs.declared.ordered.Ordered.{Ordered}
use Rattle.vw_design.specs.Flattened.{IsFlatOf}
use Rattle.vw_design.specs.declared.design.Design.{Design}
use Rattle.vw_outside.specs.Writes.{appended}
use Rattle.vw_course.specs.Outside.{SeenOutside}
use Rattle.vw_course.specs.Statuses.{IsDone}
use Rattle.vw_plan.specs.declared.board.Board.{Board}
use Rattle.vw_plan.specs.declared.plan.Plan.{Plan}
use Rattle.vw_plan.specs.PlannedBoard.{PlannedBoard, planned_board}
use Rattle.vw_plan.specs.Sound.{IsSound}
use Rattle.vw_emit_text.specs.Emitted.{FitsDesigns, emitted_text}
use Rattle.vw_emit.specs.EmittedBoard.{IsBoardOfDesign}
use Rattle.vw_courses.specs.Messages.{vocabulary, Call, CallWork}
use Rattle.vw_statuses.specs.EmittedBoards.{BoardsShow, DesignFits, WritesBoard, board_design}
use Rattle.vw_courses.specs.MayPlan.{PlanBy, made_here, of_file, for_chips}
use Rattle.vw_statuses.specs.PlannedStatuses.{PlanTexts, IsPlanOf}
use Rattle.vw_statuses.specs.WrittenStatuses.{IsWritten}
use Rattle.vw_statuses.proofs.OnBoards.{design_of_netlist}

-- emitted boards of netlists do
abbrev pub TextsShow : Type 0
TextsShow = (planned : PlannedBoard) (design : Design) → IsSound planned → FitsDesigns planned → IsFlatOf design [] planned.ordered.flat
    → IsBoardOfDesign planned.plan.period design (emitted_text planned)

-- a good plan is sound, and so are one that is given, and one for given chips
sound_of : (by : PlanBy) (p : List ℕ) (ordered : Ordered) (board : Board) (plan : Plan) → IsPlanOf by p ordered board plan
    → IsSound (planned_board ordered board plan)
sound_of made_here p ordered board plan good = good.sound
sound_of (of_file name) p ordered board plan is = is.1
sound_of (for_chips name) p ordered board plan is = is.2.sound

pub boards_show : TextsShow → BoardsShow
boards_show show by texts of ordered board plan is are fits =
    show (planned_board ordered board plan) of (sound_of by texts.plan ordered board plan are.plan_is) fits
    (design_of_netlist [] texts.design (record { design = of; nets = [] }) ordered (record { design_of = is; found = tt }) are.on.netlist)

pub writes_board : BoardsShow → (by : PlanBy) (texts : PlanTexts) (call : Call)
    → IsDone (IsWritten [] by board_design DesignFits texts) call → WritesBoard by texts call.before.out call.after.out
writes_board show by texts call done =
    let its = done.is in
    let of : Design = its.are.on.netlist.watched.design in
    record {
      of = of;
      design_is = its.are.on.netlist.is.design_of;
      ordered = its.ordered;
      board = its.its_board;
      plan = its.plan;
      are = its.are;
      fits = its.fits;
      shows = show by texts of its.ordered its.its_board its.plan its.are.on.netlist.is.design_of its.are its.fits;
      wrote = ap (λ (o : SeenOutside vocabulary.Word). o.out) done.leaves ∙ ap (λ (w : CallWork). appended call.before.out w.text) its.is;
    }
