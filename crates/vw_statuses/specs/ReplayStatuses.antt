-- What each status says of a command that runs a design from a state on, over the rows of a stimulus from the state's clock on.
use Rattle.std.specs.Prelude.{◌≡◌, ◌<◌, ◌≤◌, ◌⊎◌, ℕ, Bool, List, [], ◌∷◌, length}
use Rattle.vw_design.specs.Paths.{Word as ProbeWord}
use Rattle.vw_design.specs.Preorder.{latches}
use Rattle.vw_outside.specs.Told.{Told, IsTextOf}
use Rattle.vw_course.specs.Places.{Files}
use Rattle.vw_course.specs.Statuses.{IsRefusedFor, IsStopped, Holds, IsAbsent, IsUnworked, HasStatus, FileStatuses}
use Rattle.vw_front.specs.Designs.{WatchedDesign, IsWatchedDesignOf, IsNoDesign}
use Rattle.vw_resume.specs.declared.state.State.{State}
use Rattle.vw_courses.specs.declared.vocabulary.File.TheVariants as files
use Rattle.vw_courses.specs.declared.vocabulary.Reason.{Reason}
use Rattle.vw_courses.specs.Messages.{vocabulary, Call}
use Rattle.vw_courses.specs.Kinds.{IsBadDesign, IsStateOf, IsBadState, AreTooFewClocks}
use Rattle.vw_courses.specs.Commands.{TextFrom, TextOver}
use Rattle.vw_statuses.specs.ResumeStatuses.{ResumeTexts}
use Rattle.vw_statuses.specs.SimStatuses.{UsesNone}
use Rattle.vw_statuses.specs.TracedStatuses.{Subject, design_width, AreSpelled, TracedStatuses}

-- a design with watched nets, and a state of it
pub record Replay : Type 0 where
  pub watched : WatchedDesign
  pub state : State

-- the texts of a design and of a state spell them
pub record AreReplayed (probes : List ProbeWord) (texts : ResumeTexts) (its : Replay) : Type 0 where
  pub design_is : IsWatchedDesignOf probes texts.design its.watched
  pub state_is : IsStateOf (length (latches its.watched.design)) texts.state its.state

-- the text of a state spells none of the design, for this reason
pub record IsNoReplay (probes : List ProbeWord) (texts : ResumeTexts) (reason : Reason) : Type 0 where
  pub watched : WatchedDesign
  pub design_is : IsWatchedDesignOf probes texts.design watched
  pub bad : IsBadState (length (latches watched.design)) texts.state reason

-- a text of the design from the state on
abbrev pub replay_text : TextFrom WatchedDesign → TextOver Replay
replay_text text its rows = text its.state its.watched rows

module _ (probes : List ProbeWord) (text : TextFrom WatchedDesign) (design state stimulus : List ℕ) where
  abbrev pub replays : Subject
  replays = record {
    Texts = ResumeTexts;
    Thing = Replay;
    Hold = λ call texts. Holds call design texts.design × Holds call state texts.state;
    Spells = AreReplayed probes;
    width = λ its. design_width its.watched;
  }

  -- its files: the state before the stimulus
  abbrev pub its_design : Files vocabulary
  its_design = (files.Design, design) ∷ []

  abbrev pub up_to_state : Files vocabulary
  up_to_state = (files.Design, design) ∷ ((files.State, state) ∷ [])

  abbrev pub its_files : Files vocabulary
  its_files = (files.Design, design) ∷ ((files.State, state) ∷ ((files.Stimulus, stimulus) ∷ []))

  -- the rows of the stimulus are fewer than the clocks before the state, for this reason
  pub record AreTooFew (texts : ResumeTexts) (s : List ℕ) (reason : Reason) : Type 0 where
    pub its : Replay
    pub rows : List (List Bool)
    pub are : AreSpelled replays texts s its rows
    pub bad : AreTooFewClocks its.state.clock rows reason

  -- they are over some text that the name of the stimulus may have, for this reason
  abbrev pub MayBeTooFew : (List ℕ → Told) → ResumeTexts → Reason → Type 0
  MayBeTooFew told texts reason = (s : List ℕ) × IsTextOf (told stimulus) s × AreTooFew texts s reason

  -- all its texts are held, and the rows of the stimulus reach the state's clock
  pub record IsReady (call : Call) (texts : ResumeTexts) (s : List ℕ) : Type 0 where
    pub its_held : replays.Hold call texts
    pub stimulus_held : Holds call stimulus s
    pub reach : (its : Replay) (rows : List (List Bool)) → AreSpelled replays texts s its rows → its.state.clock ≤ length rows

  pub record ReplayStatuses (call : Call) : Type 0 where
    -- 1: exactly where the design text has a fault, or its design has one, or a probe finds no net, or there is a loop
    pub of_design : FileStatuses vocabulary its_design design [] 1 (IsBadDesign probes) (IsNoDesign probes) (λ its. Unit {0}) call
    -- 11: exactly where the text of the state spells none of the design, or the stimulus doesn't reach its clock: over the
    -- stimulus that is held, and else over one that it may be
    pub no_state : (texts : ResumeTexts) (s : List ℕ) → replays.Hold call texts → Holds call stimulus s → call.status ≡ 11
        → IsRefusedFor vocabulary (λ reason. IsNoReplay probes texts reason ⊎ AreTooFew texts s reason) call
    pub no_state_over : (texts : ResumeTexts) → replays.Hold call texts → call.status ≡ 11
        → IsRefusedFor vocabulary (λ reason. IsNoReplay probes texts reason ⊎ MayBeTooFew call.before.shelf.told texts reason) call
    pub no_state_comes : (texts : ResumeTexts) (reason : Reason) → replays.Hold call texts → IsNoReplay probes texts reason
        → IsRefusedFor vocabulary (IsNoReplay probes texts) call ⊎ IsStopped vocabulary up_to_state call
    pub too_few_come : (texts : ResumeTexts) (s : List ℕ) (its : Replay) (rows : List (List Bool)) → replays.Hold call texts → Holds call stimulus s
        → AreSpelled replays texts s its rows → length rows < its.state.clock
        → IsRefusedFor vocabulary (AreTooFew texts s) call ⊎ IsStopped vocabulary its_files call
    -- 0, 5, 7, 8 and 9, and that it completes: the text is that of the design from the state on; no link is used
    pub traced : TracedStatuses replays (replay_text text) stimulus its_files IsReady UsesNone call
    -- no other status comes
    pub comes : HasStatus (1 ∷ 11 ∷ 5 ∷ []) call
    -- a state that is told to be absent is a read fault, unless memory runs out, or the design is refused before; and so is a
    -- stimulus
    pub absent_state : IsAbsent call state → IsUnworked (1 ∷ []) call
    pub absent_stimulus : IsAbsent call stimulus → IsUnworked (1 ∷ 11 ∷ []) call
