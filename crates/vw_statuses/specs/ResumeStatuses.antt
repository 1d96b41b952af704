-- What each status of `resume` says of its files.
use Rattle.std.specs.Prelude.{◌≡◌, ◌<◌, ◌≤◌, ◌+◌, ◌++◌, ◌⊎◌, ℕ, Bool, false, List, [], ◌∷◌, length}
use Rattle.vw_net.specs.declared.ordered.Ordered.{Ordered}
use Rattle.vw_net.specs.Cells.{latch_count}
use Rattle.vw_design.specs.Paths.{Word as ProbeWord}
use Rattle.vw_outside.specs.Told.{Told, IsTextOf}
use Rattle.vw_course.specs.Outside.{carried}
use Rattle.vw_course.specs.Places.{Files}
use Rattle.vw_course.specs.Statuses.{IsRefusedFor, IsStopped, Holds, IsAbsent, IsUnworked, HasStatus}
use Rattle.vw_front.specs.Designs.{IsNetlistOf}
use Rattle.vw_plan.specs.declared.board.Board.{Board}
use Rattle.vw_plan.specs.declared.plan.Plan.{Plan}
use Rattle.vw_plan.specs.PlannedBoard.{planned_board}
use Rattle.vw_resume.specs.declared.state.State.{State}
use Rattle.vw_trace.specs.FlatTrace.{trace_until}
use Rattle.vw_rows.specs.declared.limits.TheConstants.{MOST_CLOCKS}
use Rattle.vw_courses.specs.declared.vocabulary.File.TheVariants as files
use Rattle.vw_courses.specs.declared.vocabulary.Reason.{Reason}
use Rattle.vw_courses.specs.Messages.{vocabulary, Call}
use Rattle.vw_courses.specs.Kinds.{IsStateOf, IsBadState, AreTooManyClocks}
use Rattle.vw_courses.specs.Commands.{TextOver, Scripts, scripts_from}
use Rattle.vw_statuses.specs.TracedStatuses.{Subject, AreSpelled, TracedStatuses}
use Rattle.vw_statuses.specs.PlannedStatuses.{PlanTexts, IsTheirPlan, HavePlan, plan_statuses, with_given, HoldTexts, PlannedStatuses}
use Rattle.vw_courses.specs.MayPlan.{PlanBy, MaySpell}

-- the text of a design, and that of a state
pub record ResumeTexts : Type 0 where
  pub design : List ℕ
  pub state : List ℕ

-- a netlist, and a state of it
pub record Resumption : Type 0 where
  pub ordered : Ordered
  pub state : State

-- the texts spell them, with the nets that the probes find among the outputs
pub record AreResumed (probes : List ProbeWord) (texts : ResumeTexts) (its : Resumption) : Type 0 where
  pub netlist : IsNetlistOf probes texts.design its.ordered
  pub state_is : IsStateOf (latch_count its.ordered.flat.cells) texts.state its.state

-- the trace of the netlist from the state on, which knows no board; with `until` the output behind the probes is a trigger
abbrev pub trace_from_state_until : Bool → List ProbeWord → TextOver Resumption
trace_from_state_until until probes its rows = trace_until until (length probes) its.state.clock its.state.latches its.ordered.flat rows

-- over all rows
abbrev pub trace_from_state : List ProbeWord → TextOver Resumption
trace_from_state = trace_from_state_until false

-- the text of a state spells none of the design, for this reason
pub record IsNoState (probes : List ProbeWord) (texts : ResumeTexts) (reason : Reason) : Type 0 where
  pub ordered : Ordered
  pub netlist : IsNetlistOf probes texts.design ordered
  pub bad : IsBadState (latch_count ordered.flat.cells) texts.state reason

module _ (probes : List ProbeWord) (text : TextOver Resumption) (design board : List ℕ) (by : PlanBy) (state stimulus : List ℕ) (until : Bool) (workers : ℕ) where
  abbrev pub resumptions : Subject
  resumptions = record {
    Texts = ResumeTexts;
    Thing = Resumption;
    Hold = λ call texts. Holds call design texts.design × Holds call state texts.state;
    Spells = AreResumed probes;
    width = λ its. its.ordered.flat.inputs;
  }

  -- its files: the plan, where one is given, before the state, and the stimulus behind it
  abbrev pub up_to_state : Files vocabulary
  up_to_state = (files.Design, design) ∷ ((files.Board, board) ∷ with_given by ((files.State, state) ∷ []))

  abbrev pub its_files : Files vocabulary
  its_files = (files.Design, design) ∷ ((files.Board, board) ∷ with_given by ((files.State, state) ∷ ((files.Stimulus, stimulus) ∷ [])))

  -- texts that the names may have spell these, with such a plan and such a state
  pub record MayResume (told : List ℕ → Told) (ordered : Ordered) (its_board : Board) (plan : Plan) (its_state : State) : Type 0 where
    pub on : MaySpell probes design board by told ordered its_board plan
    pub t : List ℕ
    pub state_of : IsTextOf (told state) t
    pub state_is : IsStateOf (latch_count ordered.flat.cells) t its_state

  -- links are used as some such planned board uses them from the state on
  pub record UsesFrom (told : List ℕ → Told) (scripts : Scripts) : Type 0 where
    pub ordered : Ordered
    pub its_board : Board
    pub plan : Plan
    pub its_state : State
    pub is : MayResume told ordered its_board plan its_state
    pub are : scripts ≡ scripts_from until workers (planned_board ordered its_board plan) its_state.clock its_state.latches

  -- all but the stimulus are held, and there is a plan
  pub record IsReadyPlan (call : Call) (texts : ResumeTexts) : Type 0 where
    pub plan_texts : PlanTexts
    pub design_is : plan_texts.design ≡ texts.design
    pub planned_held : HoldTexts probes design board by call plan_texts
    pub state_held : Holds call state texts.state
    pub have : HavePlan probes by plan_texts

  -- all its texts are held, there is a plan, and no rows of the stimulus are too many
  pub record IsReady (call : Call) (texts : ResumeTexts) (s : List ℕ) : Type 0 where
    pub planned : IsReadyPlan call texts
    pub stimulus_held : Holds call stimulus s
    pub fit : (its : Resumption) (rows : List (List Bool)) → AreSpelled resumptions texts s its rows → its.state.clock + length rows ≤ MOST_CLOCKS

  -- the clocks of the state and of the stimulus are too many together, for this reason
  pub record AreTooMany (texts : ResumeTexts) (s : List ℕ) (reason : Reason) : Type 0 where
    pub its : Resumption
    pub rows : List (List Bool)
    pub are : AreSpelled resumptions texts s its rows
    pub bad : AreTooManyClocks its.state.clock rows reason

  -- they are over some text that the name of the stimulus may have, for this reason
  abbrev pub MayBeTooMany : (List ℕ → Told) → ResumeTexts → Reason → Type 0
  MayBeTooMany told texts reason = (s : List ℕ) × IsTextOf (told stimulus) s × AreTooMany texts s reason

  -- each link has carried, behind what it had before, exactly its words of such a planned board, from the state on over all
  -- rows of the stimulus, or over those that are worked out until the trigger is 1
  pub record CarriesFrom (texts : ResumeTexts) (s : List ℕ) (call : Call) : Type 0 where
    pub its : Resumption
    pub rows : List (List Bool)
    pub are : AreSpelled resumptions texts s its rows
    pub ordered : Ordered
    pub its_board : Board
    pub plan : Plan
    pub its_state : State
    pub is : MayResume call.before.shelf.told ordered its_board plan its_state
    pub links : call.after.links ≡ carried (scripts_from until workers (planned_board ordered its_board plan) its_state.clock its_state.latches rows) call.before.links

  pub record ResumeStatuses (call : Call) : Type 0 where
    -- 1, 3, and 4 or 6, and a design, a board or a plan that is absent
    pub planned : PlannedStatuses probes design board by call
    -- 11: exactly where the text of the state spells none of the design, or the clocks are too many together: over the
    -- stimulus that is held, and else over one that it may be
    pub no_state : (texts : ResumeTexts) (s : List ℕ) → resumptions.Hold call texts → Holds call stimulus s → call.status ≡ 11
        → IsRefusedFor vocabulary (λ reason. IsNoState probes texts reason ⊎ AreTooMany texts s reason) call
    pub no_state_over : (texts : ResumeTexts) → resumptions.Hold call texts → call.status ≡ 11
        → IsRefusedFor vocabulary (λ reason. IsNoState probes texts reason ⊎ MayBeTooMany call.before.shelf.told texts reason) call
    pub no_state_comes : (texts : ResumeTexts) (reason : Reason) → IsReadyPlan call texts → IsNoState probes texts reason
        → IsRefusedFor vocabulary (IsNoState probes texts) call ⊎ IsStopped vocabulary up_to_state call
    pub too_many_come : (texts : ResumeTexts) (s : List ℕ) (its : Resumption) (rows : List (List Bool)) → IsReadyPlan call texts → Holds call stimulus s
        → AreSpelled resumptions texts s its rows → MOST_CLOCKS < its.state.clock + length rows
        → IsRefusedFor vocabulary (AreTooMany texts s) call ⊎ IsStopped vocabulary its_files call
    -- 0, 5, 7, 8 and 9, and that it completes: the text is the trace of the design from the state on, whatever the plan is, and
    -- links carry the words of one plan of these files, or a part of them
    pub traced : TracedStatuses resumptions text stimulus its_files IsReady (UsesFrom call.before.shelf.told) call
    -- 0: each link has carried its script of one such plan
    pub on_links : (texts : ResumeTexts) (s : List ℕ) → resumptions.Hold call texts → Holds call stimulus s → call.status ≡ 0 → CarriesFrom texts s call
    -- it is done on such a plan alone
    pub done_planned : (texts : PlanTexts) → HoldTexts probes design board by call texts → call.status ≡ 0 → (plan : Plan) × IsTheirPlan probes by texts plan
    -- no other status comes
    pub comes : HasStatus (plan_statuses by ++ 11 ∷ 5 ∷ []) call
    -- a state that is told to be absent is a read fault, unless memory runs out, or another file is refused before; and so is a
    -- stimulus
    pub absent_state : IsAbsent call state → IsUnworked (plan_statuses by) call
    pub absent_stimulus : IsAbsent call stimulus → IsUnworked (plan_statuses by ++ 11 ∷ []) call
