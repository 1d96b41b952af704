-- What each status of `demo` says of its texts.
use Rattle.std.specs.Prelude.{◌≡◌, ◌≢◌, ◌<◌, ◌⊎◌, ℕ, Bool, false, List, [], ◌∷◌, length}
use Rattle.vw_course.specs.Statuses.{IsOneMore, HasStatus}
use Rattle.vw_course.specs.Vocabulary.{IsNoStop}
use Rattle.vw_design.specs.Clocks.{columns}
use Rattle.vw_front.specs.Designs.{WatchedDesign, IsWatchedDesignOf}
use Rattle.vw_gen.specs.Design.{design_text}
use Rattle.vw_gen.specs.Stimulus.{stimulus_text}
use Rattle.vw_outside.specs.Told.{held}
use Rattle.vw_outside.specs.Writes.{appended, WrotePart, FailedAfterPart}
use Rattle.vw_gen.specs.Summary.{summary}
use Rattle.vw_courses.specs.Messages.{Call}
use Rattle.vw_courses.specs.Demo.{board_name, design_name, generated, stimulus_name}
use Rattle.vw_courses.specs.Commands.{trace_of}
use Rattle.vw_courses.specs.Kinds.{IsRowsOf}
use Rattle.vw_courses.specs.MayPlan.{made_here}
use Rattle.vw_statuses.specs.PlannedStatuses.{PlanTexts, AreSpelled, HavePlan}
use Rattle.vw_statuses.specs.TracedStatuses.{designs, AreSpelled as AreTraced}
use Rattle.vw_statuses.specs.LinkTraffic.{CarriesAll}
use Rattle.vw_statuses.specs.RunStatuses.{RunStatuses}

-- such is the summary of the trace of the generated design, which knows no board, over the generated rows
pub record HasSummary (cells : ℕ) (Is : List ℕ → Type 0) : Type 0 where
  pub spelled : WatchedDesign
  pub rows : List (List Bool)
  pub design_is : IsWatchedDesignOf [] (design_text cells) spelled
  pub rows_are : IsRowsOf (length (columns spelled.design)) (stimulus_text cells) rows
  pub wrote : Is (summary cells (trace_of false spelled rows))

-- out has it behind what it had before
abbrev pub WritesSummary : ℕ → Call → Type 0
WritesSummary cells call = HasSummary cells (λ text. call.after.out ≡ appended call.before.out text)

-- the generated texts of the design and the board
abbrev pub demo_texts : ℕ → PlanTexts
demo_texts cells = record { design = design_text cells; board = generated cells board_name; plan = [] }

-- the generated design runs over the generated rows, and all chips of the generated board have room for it
pub record AreAccepted (cells : ℕ) : Type 0 where
  pub its : WatchedDesign
  pub rows : List (List Bool)
  pub are : AreTraced (designs [] design_name) (design_text cells) (stimulus_text cells) its rows
  pub fit : HavePlan [] made_here (demo_texts cells)

-- a call of `run` over the generated texts, while which links carried what they carried in this call
pub record IsRunOfTexts (cells workers : ℕ) (call run : Call) : Type 0 where
  pub texts : (name : List ℕ) → run.before.shelf.told name ≡ held (generated cells name)
  pub links : run.before.links ≡ call.before.links
  pub links_after : run.after.links ≡ call.after.links
  -- all that is said of runs: when the texts are refused, for which reason, and that they run otherwise
  pub statuses : RunStatuses [] (trace_of false) design_name board_name made_here stimulus_name false workers false run

-- nothing changed, and the message is that of the run
pub record IsRefusedAs (call run : Call) : Type 0 where
  pub leaves : call.after ≡ call.before
  pub message : run.err_after ≡ call.err_after
  pub message_before : run.err_before ≡ call.err_before

pub record DemoStatuses (cells workers : ℕ) (call : Call) : Type 0 where
  -- it is a run of the generated texts, and ends with its status; 9 of the run, and only that, may be 8 of the demo
  pub run : Call
  pub is : IsRunOfTexts cells workers call run
  pub status : (run.status ≡ call.status) ⊎ ((call.status ≡ 8) × (run.status ≡ 9))
  -- 0: the summary of the trace of the unpartitioned design
  pub done : call.status ≡ 0 → WritesSummary cells call
  -- 0: each link has carried its script of one good plan over all clocks, where several workers run it
  pub on_links : call.status ≡ 0 → CarriesAll [] false workers false (design_text cells) (stimulus_text cells)
      (AreSpelled [] made_here (demo_texts cells)) run
  -- 8: out has a part of the summary, and a fault was counted there
  pub write_fault : call.status ≡ 8 → HasSummary cells (λ text. FailedAfterPart text call.before.out call.after.out)
  -- 9: out is as it was, or has a part of the summary
  pub want_of_memory : call.status ≡ 9 → (call.after.out ≡ call.before.out) ⊎ HasSummary cells (λ text. WrotePart text call.before.out call.after.out)
  -- accepted texts are run, unless a write fails or memory runs out; 8 comes only where a fault was counted at out
  pub accepted : AreAccepted cells → (call.status ≡ 0) ⊎ ((call.status ≡ 8) ⊎ (call.status ≡ 9))
  pub complete : AreAccepted cells → (IsOneMore call.before.out.faults call.after.out.faults → ⊥) → (call.status ≡ 0) ⊎ (call.status ≡ 9)
  -- 1, 3, 5 and 6: as the run is
  pub refused : 0 < call.status → IsNoStop call.status → IsRefusedAs call run
  -- no other status comes, nor does 7
  pub comes : HasStatus (1 ∷ 3 ∷ 6 ∷ 5 ∷ []) call
  pub no_read_fault : call.status ≢ 7
