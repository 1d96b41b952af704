-- What each status says of a command that runs a design on a board over a stimulus, and writes a text of this run.
use Rattle.std.specs.Prelude.{◌≡◌, ◌++◌, ℕ, Bool, List, [], ◌∷◌}
use Rattle.vw_design.specs.Paths.{Word}
use Rattle.vw_front.specs.Designs.{WatchedDesign}
use Rattle.vw_course.specs.Places.{Files}
use Rattle.vw_course.specs.Statuses.{Holds, IsAbsent, IsUnworked, HasStatus}
use Rattle.vw_plan.specs.declared.plan.Plan.{Plan}
use Rattle.vw_courses.specs.declared.vocabulary.File.TheVariants as files
use Rattle.vw_courses.specs.Messages.{vocabulary, Call}
use Rattle.vw_courses.specs.Commands.{TextOver}
use Rattle.vw_statuses.specs.PlannedStatuses.{PlanTexts, AreSpelled, IsTheirPlan, HavePlan, plan_statuses, with_given, HoldTexts, PlannedStatuses}
use Rattle.vw_courses.specs.MayPlan.{PlanBy, MaySpell}
use Rattle.vw_statuses.specs.TracedStatuses.{designs, TracedStatuses}
use Rattle.vw_statuses.specs.LinkTraffic.{UsesBoard, CarriesAll}

module _ (probes : List Word) (text : TextOver WatchedDesign) (design board : List ℕ) (by : PlanBy) (stimulus : List ℕ) (until : Bool) (workers : ℕ) (unknown : Bool) where
  -- its files: that of the plan, where one is given, before the stimulus
  abbrev pub its_files : Files vocabulary
  its_files = (files.Design, design) ∷ ((files.Board, board) ∷ with_given by ((files.Stimulus, stimulus) ∷ []))

  -- all its texts are held, and there is a plan
  pub record IsReady (call : Call) (d s : List ℕ) : Type 0 where
    pub texts : PlanTexts
    pub design_is : texts.design ≡ d
    pub planned_held : HoldTexts probes design board by call texts
    pub stimulus_held : Holds call stimulus s
    pub have : HavePlan probes by texts

  pub record RunStatuses (call : Call) : Type 0 where
    -- 1, 3, and 4 or 6, and a design, a board or a plan that is absent
    pub planned : PlannedStatuses probes design board by call
    -- 0, 5, 7, 8 and 9, and that it completes: the text is one of the design, whatever the plan is, and links carry the words
    -- of one plan of these files, or a part of them
    pub traced : TracedStatuses (designs probes design) text stimulus its_files IsReady (UsesBoard until workers unknown (MaySpell probes design board by call.before.shelf.told)) call
    -- 0: each link has carried its script of one such plan
    pub on_links : (texts : PlanTexts) (s : List ℕ) → HoldTexts probes design board by call texts → Holds call stimulus s
        → call.status ≡ 0 → CarriesAll probes until workers unknown texts.design s (AreSpelled probes by texts) call
    -- it is done on such a plan alone
    pub done_planned : (texts : PlanTexts) → HoldTexts probes design board by call texts → call.status ≡ 0
        → (its : Plan) × IsTheirPlan probes by texts its
    -- no other status comes
    pub comes : HasStatus (plan_statuses by ++ 5 ∷ []) call
    -- a stimulus that is told to be absent is a read fault, unless memory runs out, or another file is refused before
    pub absent_stimulus : IsAbsent call stimulus → IsUnworked (plan_statuses by) call
