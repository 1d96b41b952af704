-- What each status says of a command that writes a text of a planned board, or refuses where the text doesn't fit: `check`,
-- `plan`, and `emit`.
use Rattle.std.specs.Prelude.{◌≡◌, ◌++◌, ℕ, List, []}
use Rattle.vw_net.specs.declared.ordered.Ordered.{Ordered}
use Rattle.vw_design.specs.Paths.{Word}
use Rattle.vw_course.specs.Course.{writing}
use Rattle.vw_course.specs.Statuses.{NoWork, IsCarriedOut, HasStatus, LeavesPart, EndStatuses}
use Rattle.vw_plan.specs.declared.board.Board.{Board}
use Rattle.vw_plan.specs.declared.plan.Plan.{Plan}
use Rattle.vw_courses.specs.Messages.{vocabulary, Call, CallWork}
use Rattle.vw_courses.specs.Commands.{sound_text, text_of_plan}
use Rattle.vw_courses.specs.MayPlan.{PlanBy, of_file}
use Rattle.vw_statuses.specs.PlannedStatuses.{PlanTexts, AreSpelled, IsTheirPlan, HavePlan, plan_statuses, HoldTexts, its_files, PlannedStatuses}

-- a text that always fits
abbrev pub AlwaysFits : Ordered → Board → Plan → Type 0
AlwaysFits ordered board plan = Unit {0}

module _ (probes : List Word) (by : PlanBy) (text : Ordered → Board → Plan → List ℕ) (Fits : Ordered → Board → Plan → Type 0) where
  -- the text of a planned board of these texts was written, and it fits
  pub record IsWritten (texts : PlanTexts) (did : CallWork) : Type 0 where
    pub ordered : Ordered
    pub its_board : Board
    pub plan : Plan
    pub are : AreSpelled probes by texts ordered its_board plan
    pub fits : Fits ordered its_board plan
    pub is : did ≡ writing (text ordered its_board plan)

  -- the texts are held, there is a plan, and the text of each planned board of them fits
  pub record CanWrite (design board : List ℕ) (call : Call) (texts : PlanTexts) : Type 0 where
    pub held : HoldTexts probes design board by call texts
    pub have : HavePlan probes by texts
    pub fit : (ordered : Ordered) (its_board : Board) (plan : Plan) → AreSpelled probes by texts ordered its_board plan → Fits ordered its_board plan

  pub record WrittenStatuses (design board : List ℕ) (refusals : List ℕ) (call : Call) : Type 0 where
    -- 1, 3, and 4 or 6, and files that are absent
    pub planned : PlannedStatuses probes design board by call
    -- 0, 7, 8 and 9, and that it completes: the text is written, and before that a read may fail alone
    pub ends : EndStatuses vocabulary (its_files probes design board by) (HoldTexts probes design board by) IsWritten NoWork (CanWrite design board) IsWritten call
    -- no other status comes, but those of its own refusals
    pub comes : HasStatus (plan_statuses by ++ refusals) call

-- ---- check

-- what is written of a planned board: the size of its plan
abbrev pub size_text : Ordered → Board → Plan → List ℕ
size_text ordered board plan = sound_text plan

module _ (probes : List Word) (design board plan : List ℕ) where
  pub record CheckStatuses (call : Call) : Type 0 where
    -- 0, 1, 3, 4, 7, 8 and 9, and that it completes: the size of the sound plan of the texts is written
    pub written : WrittenStatuses probes (of_file plan) size_text AlwaysFits design board [] call
    -- a sound plan is accepted, unless the outside stops the call; out has a part of the line, whatever the status
    pub accepted : (texts : PlanTexts) (its : Plan) → HoldTexts probes design board (of_file plan) call texts → IsTheirPlan probes (of_file plan) texts its
        → IsCarriedOut vocabulary (λ did. did ≡ writing (sound_text its)) (its_files probes design board (of_file plan)) call
    pub part : (texts : PlanTexts) (its : Plan) → HoldTexts probes design board (of_file plan) call texts → IsTheirPlan probes (of_file plan) texts its
        → LeavesPart (sound_text its) call.before.out call.after.out

-- ---- plan

-- what is written of a planned board: its plan
abbrev pub plan_text : Ordered → Board → Plan → List ℕ
plan_text ordered board plan = text_of_plan plan

-- 0, 1, 3, 4 for given chips and 6 else, 7, 8 and 9, and that it completes: the text of a good plan is written, or for given chips
-- that of a sound one with exactly these, which is all that a good one is but that other chips may be better
abbrev pub PlanStatuses : List Word → List ℕ → List ℕ → PlanBy → Call → Type 0
PlanStatuses probes design board by = WrittenStatuses probes by plan_text AlwaysFits design board []
