-- What each status says of a command that runs something over the rows of a stimulus, and writes a text of this run: of the
-- texts that spell what is run, of the stimulus, and of what is written, whatever it reads and makes between them.
use Rattle.std.specs.Prelude.{◌≡◌, ◌⊎◌, ℕ, Bool, List, length, Err}
use Rattle.vw_design.specs.Paths.{Word}
use Rattle.vw_design.specs.Clocks.{columns}
use Rattle.vw_course.specs.Places.{Files}
use Rattle.vw_course.specs.Statuses.{IsRefusedFor, IsStopped, Holds, LeavesPart, EndStatuses}
use Rattle.vw_front.specs.Designs.{WatchedDesign, IsWatchedDesignOf}
use Rattle.vw_rows.specs.declared.fault.StimFault.{StimFault}
use Rattle.vw_rows.specs.Stimulus.{stimulus_rows}
use Rattle.vw_courses.specs.declared.vocabulary.Reason.{Reason}
use Rattle.vw_courses.specs.Messages.{vocabulary, Call, CallWork}
use Rattle.vw_courses.specs.Kinds.{IsRowsOf, IsBadStimulus}
use Rattle.vw_courses.specs.Commands.{TextOver, Scripts, tracing}

-- what is run: the texts that spell such things, when a call has them, and how many bits a row for such a thing has
pub record Subject : Type 1 where
  pub Texts : Type 0
  pub Thing : Type 0
  pub Hold : Call → Texts → Type 0
  pub Spells : Texts → Thing → Type 0
  pub width : Thing → ℕ

-- what the text of a design gives
abbrev pub design_subject : {Thing : Type 0} → (List ℕ → Thing → Type 0) → (Thing → ℕ) → List ℕ → Subject
design_subject {Thing = Thing} Spells width design = record {
  Texts = List ℕ;
  Thing = Thing;
  Hold = λ call d. Holds call design d;
  Spells = Spells;
  width = width;
}

-- a design, with the nets that probes find in it
abbrev pub design_width : WatchedDesign → ℕ
design_width watched = length (columns watched.design)

abbrev pub designs : List Word → List ℕ → Subject
designs probes design = design_subject (IsWatchedDesignOf probes) design_width design

module _ (subject : Subject) where
  -- a stimulus text has this fault for the rows of such a thing
  abbrev pub HasRowFault : List ℕ → subject.Thing → StimFault → Type 0
  HasRowFault s its fault = stimulus_rows (subject.width its) s ≡ Err fault

  -- texts stand for this thing, and a stimulus text for these rows
  pub record AreSpelled (texts : subject.Texts) (s : List ℕ) (its : subject.Thing) (rows : List (List Bool)) : Type 0 where
    pub spells : subject.Spells texts its
    pub rows_are : IsRowsOf (subject.width its) s rows

  -- a stimulus text has no rows for the thing of the other texts
  abbrev pub IsBadRows : subject.Texts → List ℕ → Reason → Type 0
  IsBadRows texts s reason = (its : subject.Thing) × subject.Spells texts its × IsBadStimulus (subject.width its) s reason

  module _ (text : TextOver subject.Thing) where
    -- the text of the thing over the rows of the stimulus was written, and such links were used
    pub record IsTrace (texts : subject.Texts) (s : List ℕ) (Uses : Scripts → Type 0) (did : CallWork) : Type 0 where
      pub its : subject.Thing
      pub rows : List (List Bool)
      pub are : AreSpelled texts s its rows
      pub scripts : Scripts
      pub uses : Uses scripts
      pub is : did ≡ tracing (text its) scripts rows

    -- that of some thing over some rows was written
    pub record IsAnyTrace (Uses : Scripts → Type 0) (did : CallWork) : Type 0 where
      pub its : subject.Thing
      pub rows : List (List Bool)
      pub scripts : Scripts
      pub uses : Uses scripts
      pub is : did ≡ tracing (text its) scripts rows

    -- that of this thing over these rows was written
    abbrev pub IsTraceOf : subject.Thing → List (List Bool) → (Scripts → Type 0) → CallWork → Type 0
    IsTraceOf its rows Uses did = (scripts : Scripts) × Uses scripts × (did ≡ tracing (text its) scripts rows)

    module _ (stimulus : List ℕ) where
      -- the texts are held, those of the thing and that of the stimulus
      pub record HoldTexts (call : Call) (texts : subject.Texts) (s : List ℕ) : Type 0 where
        pub its_held : subject.Hold call texts
        pub stimulus_held : Holds call stimulus s

      abbrev pub HoldBoth : Call → subject.Texts × List ℕ → Type 0
      HoldBoth call both = HoldTexts call both.0 both.1

      -- a thing and rows, of texts with which a command is ready
      pub record Run : Type 0 where
        pub texts : subject.Texts
        pub s : List ℕ
        pub its : subject.Thing
        pub rows : List (List Bool)

      pub record IsRun (IsReady : Call → subject.Texts → List ℕ → Type 0) (call : Call) (run : Run) : Type 0 where
        pub ready : IsReady call run.texts run.s
        pub are : AreSpelled run.texts run.s run.its run.rows

      -- of a command with these files. It is ready where these texts and all others are held, and all that comes between
      -- is accepted; and it uses links so
      pub record TracedStatuses (its_files : Files vocabulary) (IsReady : Call → subject.Texts → List ℕ → Type 0) (Uses : Scripts → Type 0) (call : Call) : Type 0 where
        -- 5: exactly where the stimulus text has a fault
        pub no_rows : (texts : subject.Texts) (s : List ℕ) → HoldTexts call texts s → call.status ≡ 5
            → IsRefusedFor vocabulary (IsBadRows texts s) call
        pub no_rows_comes : (texts : subject.Texts) (s : List ℕ) (its : subject.Thing) (fault : StimFault) → IsReady call texts s
            → subject.Spells texts its → HasRowFault s its fault
            → IsRefusedFor vocabulary (IsBadRows texts s) call ⊎ IsStopped vocabulary its_files call
        -- 0, 7, 8 and 9, and that it completes: the text of the thing over the rows of the stimulus; over every shelf a part of some
        -- such text at most
        pub ends : EndStatuses vocabulary its_files HoldBoth (λ both. IsTrace both.0 both.1 Uses) (IsAnyTrace Uses) (IsRun IsReady) (λ run. IsTraceOf run.its run.rows Uses) call
        -- of accepted texts, out has a part of the text, whatever the status
        pub part : (run : Run) → IsRun IsReady call run → LeavesPart (text run.its run.rows) call.before.out call.after.out
