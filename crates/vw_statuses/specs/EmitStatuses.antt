-- What each status of `emit` says of its files.
use Rattle.std.specs.Prelude.{◌≡◌, ◌⊎◌, ℕ, List, [], ◌∷◌}
use Rattle.vw_net.specs.declared.ordered.Ordered.{Ordered}
use Rattle.vw_course.specs.Statuses.{IsRefusedFor, IsStopped, IsCarriedOut}
use Rattle.vw_plan.specs.declared.board.Board.{Board}
use Rattle.vw_plan.specs.declared.plan.Plan.{Plan}
use Rattle.vw_plan.specs.PlannedBoard.{planned_board}
use Rattle.vw_courses.specs.declared.vocabulary.Reason.{Reason}
use Rattle.vw_courses.specs.Messages.{vocabulary, Call}
use Rattle.vw_courses.specs.Kinds.{IsBadEmission}
use Rattle.vw_courses.specs.MayPlan.{PlanBy}
use Rattle.vw_statuses.specs.PlannedStatuses.{PlanTexts, AreSpelled, HavePlan, HoldTexts, its_files}
use Rattle.vw_statuses.specs.EmittedBoards.{DesignFits, WritesBoard, board_design}
use Rattle.vw_statuses.specs.WrittenStatuses.{IsWritten, WrittenStatuses}

-- a planned board of these texts is above a limit of designs, for this reason
pub record IsTooLarge (by : PlanBy) (texts : PlanTexts) (reason : Reason) : Type 0 where
  pub ordered : Ordered
  pub board : Board
  pub plan : Plan
  pub are : AreSpelled [] by texts ordered board plan
  pub bad : IsBadEmission (planned_board ordered board plan) reason

-- each planned board of these texts is
abbrev pub AllTooLarge : PlanBy → PlanTexts → Type 0
AllTooLarge by texts = (ordered : Ordered) (board : Board) (plan : Plan) → AreSpelled [] by texts ordered board plan
    → (reason : Reason) × IsBadEmission (planned_board ordered board plan) reason

module _ (design board : List ℕ) (by : PlanBy) where
  pub record EmitStatuses (call : Call) : Type 0 where
    -- 0, 1, 3, 4 or 6, 7, 8 and 9, and that it completes: the design is written
    pub written : WrittenStatuses [] by board_design DesignFits design board (10 ∷ []) call
    -- 0: and it is a design that runs and, for all rows, shows what the design of the text does
    pub acts : (texts : PlanTexts) → HoldTexts [] design board by call texts → call.status ≡ 0 → WritesBoard by texts call.before.out call.after.out
    -- 10: exactly where it is above a limit of designs
    pub too_large : (texts : PlanTexts) → HoldTexts [] design board by call texts → call.status ≡ 10 → IsRefusedFor vocabulary (IsTooLarge by texts) call
    pub too_large_comes : (texts : PlanTexts) → HoldTexts [] design board by call texts → HavePlan [] by texts → AllTooLarge by texts
        → IsRefusedFor vocabulary (IsTooLarge by texts) call ⊎ IsStopped vocabulary (its_files [] design board by) call
    -- whether it fits or not, it is written or refused, unless the outside stops the call
    pub settled : (texts : PlanTexts) → HoldTexts [] design board by call texts → HavePlan [] by texts
        → IsCarriedOut vocabulary (IsWritten [] by board_design DesignFits texts) (its_files [] design board by) call ⊎ IsRefusedFor vocabulary (IsTooLarge by texts) call
