-- What a caller knows of a simulation by its status. No net is watched.
use Rattle.std.specs.Prelude.{◌≡◌, ℕ, Bool, false, List, [], ◌∷◌, length, Ok, Err}
use Rattle.vw_design.specs.Clocks.{columns}
use Rattle.vw_course.specs.Places.{IsOneOf}
use Rattle.vw_outside.specs.Fronts.{IsFront}
use Rattle.vw_rows.specs.declared.fault.StimFault.{StimFault}
use Rattle.vw_rows.specs.Stimulus.{stimulus_rows}
use Rattle.vw_front.specs.Designs.{WatchedDesign, IsWatchedDesignOf}
use Rattle.vw_courses.specs.declared.vocabulary.Reason.{Reason}
use Rattle.vw_courses.specs.declared.vocabulary.Reason.TheVariants.{Stimulus}
use Rattle.vw_courses.specs.Messages.{reason_line}
use Rattle.vw_courses.specs.Kinds.{IsBadDesign}
use Rattle.vw_courses.specs.Commands.{trace_of}

-- out is the trace of the design that the text spells, over the rows of the stimulus, and err is empty
pub record IsSimulated (design stimulus out err : List ℕ) : Type 0 where
  pub spelled : WatchedDesign
  pub rows : List (List Bool)
  pub is : IsWatchedDesignOf [] design spelled
  pub read : stimulus_rows (length (columns spelled.design)) stimulus ≡ Ok rows
  pub trace : out ≡ trace_of false spelled rows
  pub no_message : err ≡ []

-- the design text is refused for a reason; out is empty, and err is the message of this reason
pub record HasBadDesign (design out err : List ℕ) : Type 0 where
  pub reason : Reason
  pub refused : IsBadDesign [] design reason
  pub no_trace : out ≡ []
  pub message : err ≡ reason_line reason

-- the text spells a design that runs, and the stimulus has a fault for its columns; out is empty, and err is the
-- message of this fault
pub record HasBadRows (design stimulus out err : List ℕ) : Type 0 where
  pub spelled : WatchedDesign
  pub fault : StimFault
  pub is : IsWatchedDesignOf [] design spelled
  pub read : stimulus_rows (length (columns spelled.design)) stimulus ≡ Err fault
  pub no_trace : out ≡ []
  pub message : err ≡ reason_line (Stimulus fault)

-- what statuses 0, 1 and 5 say of the two texts, of out and of err; that only 7, 8 and 9 may come besides; and that out
-- is a front of the trace wherever the texts have one, whatever the status
pub record SimulateStatuses (design stimulus out err : List ℕ) (status : ℕ) : Type 0 where
  pub done : status ≡ 0 → IsSimulated design stimulus out err
  pub no_design : status ≡ 1 → HasBadDesign design out err
  pub no_rows : status ≡ 5 → HasBadRows design stimulus out err
  pub comes : IsOneOf (0 ∷ 7 ∷ 8 ∷ 9 ∷ 1 ∷ 5 ∷ []) status
  pub part : (spelled : WatchedDesign) (rows : List (List Bool)) → IsWatchedDesignOf [] design spelled
      → stimulus_rows (length (columns spelled.design)) stimulus ≡ Ok rows
      → IsFront out (trace_of false spelled rows)
