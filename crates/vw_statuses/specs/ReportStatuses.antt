-- What each status of `report` says of its files.
use Rattle.std.specs.Prelude.{◌≡◌, ℕ, List}
use Rattle.vw_design.specs.Paths.{Word}
use Rattle.vw_course.specs.Course.{writing}
use Rattle.vw_course.specs.Statuses.{NoWork, HasStatus, EndStatuses}
use Rattle.vw_front.specs.declared.named.NamedNetlist.{NamedNetlist}
use Rattle.vw_front.specs.NamedNetlists.{IsNamedNetlistOf}
use Rattle.vw_plan.specs.declared.board.Board.{Board}
use Rattle.vw_plan.specs.declared.plan.Plan.{Plan}
use Rattle.vw_plan.specs.PlannedBoard.{planned_board}
use Rattle.vw_report.specs.Report.{IsReport}
use Rattle.vw_courses.specs.Messages.{vocabulary, Call, CallWork}
use Rattle.vw_courses.specs.MayPlan.{PlanBy}
use Rattle.vw_statuses.specs.PlannedStatuses.{PlanTexts, AreSpelled, HavePlan, plan_statuses, HoldTexts, its_files, PlannedStatuses}

-- a text reports a plan of the design of these texts on their board, with the names of its nets
pub record ReportsPlan (probes : List Word) (by : PlanBy) (texts : PlanTexts) (text : List ℕ) : Type 0 where
  pub named : NamedNetlist
  pub board : Board
  pub plan : Plan
  pub names_are : IsNamedNetlistOf probes texts.design named
  pub are : AreSpelled probes by texts named.ordered board plan
  pub reports : IsReport (planned_board named.ordered board plan) named.nets text

module _ (probes : List Word) (by : PlanBy) where
  -- such a text was written
  pub record IsReported (texts : PlanTexts) (did : CallWork) : Type 0 where
    pub text : List ℕ
    pub reports : ReportsPlan probes by texts text
    pub is : did ≡ writing text

  -- the texts are held, and there is a plan
  pub record CanReport (design board : List ℕ) (call : Call) (texts : PlanTexts) : Type 0 where
    pub held : HoldTexts probes design board by call texts
    pub have : HavePlan probes by texts

  pub record ReportStatuses (design board : List ℕ) (call : Call) : Type 0 where
    -- 1, 3, and 4 or 6, and files that are absent
    pub planned : PlannedStatuses probes design board by call
    -- 0, 7, 8 and 9, and that it completes: the report is written, and before that a read may fail alone
    pub ends : EndStatuses vocabulary (its_files probes design board by) (HoldTexts probes design board by) IsReported NoWork (CanReport design board) IsReported call
    -- no other status comes
    pub comes : HasStatus (plan_statuses by) call
