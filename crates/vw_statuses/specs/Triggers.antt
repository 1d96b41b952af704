-- A run that a trigger ends is a run over fewer rows. Source: this project, after the trigger of a logic analyzer.
use Rattle.std.specs.Prelude.{◌≡◌, ◌+◌, ◌++◌, ◌⊎◌, ℕ, suc, Bool, true, false, List, [], ◌∷◌, Option, drop, length, take}
use Rattle.std.specs.List.{All}
use Rattle.vw_design.specs.declared.design.Design.{Design}
use Rattle.vw_design.specs.PathHistory.{path_next, path_outputs_from, path_start}
use Rattle.vw_design.specs.PathValue.{path_value}
use Rattle.vw_design.specs.Paths.{Net, Word}
use Rattle.vw_design.specs.Probes.{Finds}
use Rattle.vw_front.specs.Designs.{WatchedDesign, IsWatchedDesignOf}
use Rattle.vw_resume.specs.declared.state.State.{State}
use Rattle.vw_trace.specs.Triggers.{clocks_until}
use Rattle.vw_courses.specs.Commands.{trace_of, trace_of_until, wave_of, wave_of_until, over_counted, texts_kept, saved_of, replayed_trace_of, replayed_trace_of_until, replayed_wave_of, replayed_wave_of_until}

-- how many clocks there are up to the first in which the last watched net is 1, and with it, from these latch values on; all where
-- it never is 1
abbrev pub clocks_to : WatchedDesign → List Bool → List (List Bool) → ℕ
clocks_to watched state rows = clocks_until (path_outputs_from watched.design watched.nets state rows)

-- the same from the start values on, where free latches start at `unknown`
abbrev pub clocks_from_start : WatchedDesign → Bool → List (List Bool) → ℕ
clocks_from_start watched unknown rows = clocks_to watched (path_start unknown watched.design) rows

-- the bit of a net in each clock, from these latch values on
abbrev pub net_bits : Design → Net → List Bool → List (List Bool) → List Bool
net_bits design net state [] = []
net_bits design net state (row ∷ rows) = path_value design row state net.path net.name ∷ net_bits design net (path_next design row state) rows

-- the first 1 of some bits, and the bits before it, are so many
pub record HasFirstOne (bits : List Bool) (count : ℕ) : Type 0 where
  pub before : List Bool
  pub behind : List Bool
  pub split : bits ≡ before ++ true ∷ behind
  pub none : All (λ bit. bit ≡ false) before
  pub counted : count ≡ suc (length before)

-- or none is 1, and all are so many
abbrev pub EndsAtFirstOne : List Bool → ℕ → Type 0
EndsAtFirstOne bits count = HasFirstOne bits count ⊎ (All (λ bit. bit ≡ false) bits × (count ≡ length bits))

-- each text of a design whose last watched net is a trigger is the text of the design without it, over the rows up to the first clock
-- in which the trigger is 1, and with that one
pub record EndsRuns (probes : List Word) (trigger : Word) (watched plain : WatchedDesign) : Type 0 where
  -- these clocks, by the bits of the net that the trigger finds
  pub clocks : (net : Net) → Finds plain.design trigger net → (state : List Bool) (rows : List (List Bool))
      → EndsAtFirstOne (net_bits plain.design net state rows) (clocks_to watched state rows)
  pub traces : (unknown : Bool) (rows : List (List Bool))
      → trace_of_until true unknown watched rows ≡ trace_of unknown plain (take (clocks_from_start watched unknown rows) rows)
  pub waves : (unknown : Bool) (rows : List (List Bool))
      → wave_of_until true probes unknown watched rows ≡ wave_of probes unknown plain (take (clocks_from_start watched unknown rows) rows)
  -- so are the states that are saved on the way and at the end
  pub states : (unknown : Bool) (every : Option ℕ) (rows : List (List Bool))
      → over_counted true unknown (texts_kept every (saved_of unknown)) watched rows
      ≡ texts_kept every (saved_of unknown) plain (take (clocks_from_start watched unknown rows) rows)
  -- from a state on the clocks before it are passed over, whatever the trigger is in them
  pub replayed_traces : (from : State) (rows : List (List Bool))
      → replayed_trace_of_until true from watched rows
      ≡ replayed_trace_of from plain (take (from.clock + clocks_to watched from.latches (drop from.clock rows)) rows)
  pub replayed_waves : (from : State) (rows : List (List Bool))
      → replayed_wave_of_until true probes from watched rows
      ≡ replayed_wave_of probes from plain (take (from.clock + clocks_to watched from.latches (drop from.clock rows)) rows)

-- so it is for each design, all probes and each trigger
abbrev pub TriggersEndRuns : Type 0
TriggersEndRuns = (probes : List Word) (trigger : Word) (d : List ℕ) (watched plain : WatchedDesign)
    → IsWatchedDesignOf (probes ++ trigger ∷ []) d watched → IsWatchedDesignOf probes d plain → EndsRuns probes trigger watched plain
