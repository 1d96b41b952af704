-- A text that is written while a checked stimulus is read again.
use Rattle.std.specs.Prelude.{◌≡◌, ◌<◌, ◌+◌, ◌-◌, ◌^◌, ℕ, Bool, true, List, length, take, drop, Result, Ok, Err, OnOk}
use Rattle.std.specs.Bool.{OnTrue}
use Rattle.std.specs.List.{All}
use Rattle.vw_outside.specs.declared.shelf.Shelf as shelves
use Rattle.vw_outside.specs.Told.{Told, held}
use Rattle.vw_outside.specs.Reads.{SeenShelf, CountsFault}
use Rattle.vw_outside.specs.Writes.{SeenSink, appended, WrotePart, FailedAfterPart}
use Rattle.vw_rows.specs.declared.rereading.Rereading.{Rereading}
use Rattle.vw_rows.specs.declared.stimulus.Stimulus.{Stimulus}
use Rattle.vw_rows.specs.Rereadings.{SameShelf, seen_shelf}
use Rattle.vw_rows.specs.Stimulus.{stimulus_rows, is_text_fault}
use Rattle.vw_net.specs.History.{History}
use Rattle.vw_trace.specs.Engines.{SeenEngine, engine_after}
use Rattle.vw_trace.specs.Recorders.{SeenRecorder}
use Rattle.vw_trace.specs.Triggers.{shown_history, worked}
use Rattle.vw_trace.specs.declared.fault.RunFault.{RunFault}
use Rattle.vw_trace.specs.declared.fault.RunFault.TheVariants.{ReadFault, WriteFault, Stimulus as BadRows, NoMemory}

-- no text is held
abbrev pub IsNotHeld : Told → Type 0
IsNotHeld told = (text : List ℕ) → told ≡ held text → ⊥

-- rows that may be those that a stimulus still gives, where this is told of its text: where the text is held, they are all rows that
-- weren't given, and else each has the width
pub record MayBeRows (told : Told) (stimulus : Stimulus) (rows : List (List Bool)) : Type 0 where
  pub same : (text : List ℕ) (all : List (List Bool)) → told ≡ held text → stimulus_rows stimulus.width text ≡ Ok all → rows ≡ drop stimulus.done all
  pub wide : IsNotHeld told → All (λ row. length row ≡ stimulus.width) rows

-- how many rows a stimulus still gives
abbrev pub clocks_left : Stimulus → ℕ
clocks_left stimulus = stimulus.clocks - stimulus.done

-- what such a run leaves of the shelf, and of a sink to which this text is written
abbrev pub EndsStreaming : List ℕ → List ℕ → SeenShelf → SeenSink → SeenShelf → SeenSink → Result (Unit {0}) RunFault → Type 0
EndsStreaming name text shelf out shelf_after out_after (Ok done) = (shelf_after ≡ shelf) × (out_after ≡ appended out text)
EndsStreaming name text shelf out shelf_after out_after (Err WriteFault) = (shelf_after ≡ shelf) × FailedAfterPart text out out_after
EndsStreaming name text shelf out shelf_after out_after (Err NoMemory) = (shelf_after ≡ shelf) × WrotePart text out out_after
EndsStreaming name text shelf out shelf_after out_after (Err ReadFault) = CountsFault name shelf shelf_after × WrotePart text out out_after
EndsStreaming name text shelf out shelf_after out_after (Err (BadRows fault)) =
    IsNotHeld (shelf.told name) × (is_text_fault fault ≡ true) × (shelf_after ≡ shelf) × WrotePart text out out_after

-- what is done row by row was done for all rows, or after a fault for the first of them alone
abbrev pub DoneFor : {Fault : Type 0} → (List (List Bool) → Type 0) → List (List Bool) → Result (Unit {0}) Fault → Type 0
DoneFor Done rows (Ok done) = Done rows
DoneFor Done rows (Err fault) = (count : ℕ) × Done (take count rows)

-- the text that belongs to such rows was written, or a part of it; and what else is done for them was done meanwhile
pub record Streams {S : Type 0} {shelf : shelves.Ghosts S} (Text : List (List Bool) → List ℕ) (Done : List (List Bool) → Type 0)
    (before after : Rereading S shelf) (out out_after : SeenSink) (answer : Result (Unit {0}) RunFault) : Type 0 where
  pub same : SameShelf before after
  pub rows : List (List Bool)
  pub are : MayBeRows ((seen_shelf before).told before.stimulus.now.name) before.stimulus.now rows
  pub ends : EndsStreaming before.stimulus.now.name (Text rows) (seen_shelf before) out (seen_shelf after) out_after answer
  pub count : OnOk answer (length rows ≡ clocks_left before.stimulus.now)
  pub meanwhile : DoneFor Done rows answer

-- the rows of a stimulus can be the next ones of an engine
pub record Feeds (engine : SeenEngine) (stimulus : Stimulus) : Type 0 where
  pub columns : stimulus.width ≡ engine.netlist.inputs
  pub few : engine.clock + clocks_left stimulus < 2 ^ 32

-- where the rows couldn't be read again, out is as it was
abbrev pub StopsSilently : SeenSink → SeenSink → Result (Unit {0}) RunFault → Type 0
StopsSilently out out_after (Ok done) = Unit {0}
StopsSilently out out_after (Err ReadFault) = out_after ≡ out
StopsSilently out out_after (Err (BadRows fault)) = out_after ≡ out
StopsSilently out out_after (Err WriteFault) = Unit {0}
StopsSilently out out_after (Err NoMemory) = Unit {0}

-- what an engine shows over some rows, and those that it works out; with `until` its last output is a trigger
abbrev pub shown_by : Bool → SeenEngine → List (List Bool) → History
shown_by until engine rows = shown_history until engine.netlist engine.state rows

abbrev pub worked_by : Bool → SeenEngine → List (List Bool) → List (List Bool)
worked_by until engine rows = worked until engine.netlist engine.state rows

-- so much is done for the rows that are worked out, after which the engine stands behind them
abbrev pub DoneBy : Bool → (List (List Bool) → Type 0) → SeenEngine → SeenEngine → Result (Unit {0}) RunFault → List (List Bool) → Type 0
DoneBy until Done engine engine_now answer rows =
    Done (worked_by until engine rows) × OnOk answer (engine_now ≡ engine_after engine (worked_by until engine rows))

-- an engine has worked out the rows that a stimulus still gives, as far as they count, and what a recorder makes of them was written, or
-- a part of it; a recorder that waits wrote nothing before its end
pub record Records {S : Type 0} {shelf : shelves.Ghosts S} (until : Bool) (Done : List (List Bool) → Type 0) (rows rows_after : Rereading S shelf) (engine engine_now : SeenEngine)
    (recorder : SeenRecorder) (out out_after : SeenSink) (answer : Result (Unit {0}) RunFault) : Type 0 where
  pub streams : Streams (λ these. recorder.left (shown_by until engine these)) (DoneBy until Done engine engine_now answer)
      rows rows_after out out_after answer
  pub silent : OnTrue recorder.waits (StopsSilently out out_after answer)
