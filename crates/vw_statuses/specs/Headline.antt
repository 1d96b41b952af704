-- The headline: what `run` has written where it ends with status 0.
use Rattle.std.specs.Prelude.{◌≡◌, ℕ, Bool, List, length, Option}
use Rattle.vw_design.specs.Paths.{Word}
use Rattle.vw_design.specs.Clocks.{columns}
use Rattle.vw_front.specs.Designs.{WatchedDesign, IsWatchedDesignOf}
use Rattle.vw_outside.specs.Told.{Told, held}
use Rattle.vw_outside.specs.Writes.{SeenSink, appended}
use Rattle.vw_courses.specs.Commands.{TextOver, ends_by, trace_of_until, watched_words}
use Rattle.vw_courses.specs.Kinds.{IsRowsOf}
use Rattle.vw_courses.specs.Words.{run, spelled_by}

-- out has, behind what it had before, exactly this text of the design of one text, with the nets that the probes find, over the
-- rows of the other
pub record WritesOver (probes : List Word) (text : TextOver WatchedDesign) (d s : List ℕ) (before after : SeenSink) : Type 0 where
  pub spelled : WatchedDesign
  pub rows : List (List Bool)
  pub design_is : IsWatchedDesignOf probes d spelled
  pub rows_are : IsRowsOf (length (columns spelled.design)) s rows
  pub wrote : after ≡ appended before (text spelled rows)

-- the trace, which knows no board, up to the first clock in which the trigger is 1, where there is one
abbrev pub WritesTrace : List Word → Option Word → Bool → List ℕ → List ℕ → SeenSink → SeenSink → Type 0
WritesTrace probes until unknown = WritesOver (watched_words until probes) (trace_of_until (ends_by until) unknown)

-- where the words spell a run, on whatever board, by whatever plan and with whatever number of workers, the texts of design and
-- stimulus are held and the status is 0, the trace of the unpartitioned design was written
abbrev pub Headline : List (List ℕ) → (List ℕ → Told) → SeenSink → SeenSink → ℕ → Type 0
Headline words told before after status =
    (design board stimulus : List ℕ) (given : Option (List ℕ)) (workers : ℕ) (unknown : Bool) (until : Option Word) (probes : List Word)
    → spelled_by words ≡ run design board stimulus given workers unknown until probes
    → (d s : List ℕ) → told design ≡ held d → told stimulus ≡ held s → status ≡ 0 → WritesTrace probes until unknown d s before after
