-- What the text of an emitted board is of the text of a design: a design that runs and shows that design.
use Rattle.std.specs.Prelude.{◌≡◌, ℕ, List, []}
use Rattle.vw_net.specs.declared.ordered.Ordered.{Ordered}
use Rattle.vw_design.specs.declared.design.Design.{Design}
use Rattle.vw_front.specs.Designs.{IsDesignOf}
use Rattle.vw_outside.specs.Writes.{SeenSink, appended}
use Rattle.vw_plan.specs.declared.board.Board.{Board}
use Rattle.vw_plan.specs.declared.plan.Plan.{Plan}
use Rattle.vw_plan.specs.PlannedBoard.{planned_board}
use Rattle.vw_emit_text.specs.Emitted.{FitsDesigns, emitted_text}
use Rattle.vw_emit.specs.EmittedBoard.{IsBoardOfDesign}
use Rattle.vw_courses.specs.MayPlan.{PlanBy}
use Rattle.vw_statuses.specs.PlannedStatuses.{PlanTexts, AreSpelled}

-- what is written of a planned board: the design that it is, where this is within the limits of designs
abbrev pub board_design : Ordered → Board → Plan → List ℕ
board_design ordered board plan = emitted_text (planned_board ordered board plan)

abbrev pub DesignFits : Ordered → Board → Plan → Type 0
DesignFits ordered board plan = FitsDesigns (planned_board ordered board plan)

-- what is written of the design of a text, on a board, by a plan that is given and sound or made and good, spells a design that
-- runs. Over rows that are each held for as many microclocks as a clock has, this shows at the last of them the outputs and then
-- the latch values of the design of the text at that clock
abbrev pub BoardsShow : Type 0
BoardsShow = (by : PlanBy) (texts : PlanTexts) (of : Design) (ordered : Ordered) (board : Board) (plan : Plan)
    → IsDesignOf texts.design of → AreSpelled [] by texts ordered board plan → DesignFits ordered board plan
    → IsBoardOfDesign plan.period of (board_design ordered board plan)

-- out has, behind what it had before, exactly the text of one planned board of these texts, and it spells such a design
pub record WritesBoard (by : PlanBy) (texts : PlanTexts) (before after : SeenSink) : Type 0 where
  pub of : Design
  pub design_is : IsDesignOf texts.design of
  pub ordered : Ordered
  pub board : Board
  pub plan : Plan
  pub are : AreSpelled [] by texts ordered board plan
  pub fits : DesignFits ordered board plan
  pub shows : IsBoardOfDesign plan.period of (board_design ordered board plan)
  pub wrote : after ≡ appended before (board_design ordered board plan)
