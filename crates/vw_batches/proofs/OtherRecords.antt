-- Clocks that were worked out and written down, with what else is done for them in other words.
use Rattle.std.proofs.Common.{Bool, List, Result, refl}
use Rattle.vw_outside.specs.declared.shelf.Shelf as shelves
use Rattle.vw_outside.specs.Writes.{SeenSink}
use Rattle.vw_rows.specs.declared.rereading.Rereading.{Rereading}
use Rattle.vw_trace.specs.declared.fault.RunFault.{RunFault}
use Rattle.vw_trace.specs.Engines.{SeenEngine}
use Rattle.vw_trace.specs.Recorders.{SeenRecorder}
use Rattle.vw_trace.specs.Streamed.{Records, worked_by}
use Rattle.vw_trace.proofs.StreamedTexts.{streams_as}

pub records_as : {S : Type 0} {shelf : shelves.Ghosts S} {until : Bool} {Done Other : List (List Bool) → Type 0} {rows rows_after : Rereading S shelf} {engine engine_now : SeenEngine} {recorder : SeenRecorder} {out out_after : SeenSink} {answer : Result (Unit {0}) RunFault}
    → ((these : List (List Bool)) → Done these → Other these) → Records until Done rows rows_after engine engine_now recorder out out_after answer → Records until Other rows rows_after engine engine_now recorder out out_after answer
records_as {until = until} {engine = engine} so records = record { streams = streams_as (λ these. refl) (λ these done. (so (worked_by until engine these) done.0, done.1)) records.streams; silent = records.silent }
