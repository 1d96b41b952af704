-- A text that is written while a checked stimulus is read again: what stops it before its first clock, and a text in front of the clocks.
use Rattle.std.proofs.Common.{◌≡◌, ◌++◌, ◌∙◌, ℕ, Bool, List, [], length, take, Result, Ok, Err, refl, sym, ap, subst, append-nil, arith}
use Rattle.std.proofs.lemmas.List.Elements.{All-nil}
use Rattle.vw_outside.specs.declared.shelf.Shelf as shelves
use Rattle.vw_outside.specs.declared.unwritten.Unwritten.{Unwritten}
use Rattle.vw_outside.specs.Writes.{SeenSink, appended, WritesOut}
use Rattle.vw_outside.proofs.PiecesWritten.{IsLeft, part_of_piece, failed_in_piece, unwritten_in_piece, nothing_written, written_further, appended-appended, appended-nil}
use Rattle.vw_rows.specs.declared.rereading.Rereading.{Rereading}
use Rattle.vw_rows.specs.Rereadings.{seen_shelf}
use Rattle.vw_trace.specs.declared.fault.RunFault.{RunFault}
use Rattle.vw_trace.specs.declared.fault.RunFault.TheVariants.{ReadFault, WriteFault, Stimulus as BadRows, NoMemory}
use Rattle.vw_trace.specs.Engines.{SeenEngine}
use Rattle.vw_trace.specs.Recorders.{SeenRecorder}
use Rattle.vw_trace.specs.RunFaults.{run_fault_of}
use Rattle.vw_trace.specs.Streamed.{DoneBy, EndsStreaming, DoneFor, Records, Streams, shown_by}
use Rattle.vw_trace.proofs.Streaming.{BeginWith, begin_with, ends_unwritten}

-- rows that the stimulus may have
pub some_rows : {S : Type 0} {shelf : shelves.Ghosts S} (rows : Rereading S shelf) → BeginWith ((seen_shelf rows).told rows.stimulus.now.name) rows.stimulus.now []
some_rows rows = begin_with ((seen_shelf rows).told rows.stimulus.now.name) rows.stimulus.now [] rows.stands
    (record { wide = All-nil (λ row. length row ≡ rows.stimulus.now.width); same = λ text all is said. refl })

module _ {S : Type 0} {shelf : shelves.Ghosts S} (rows : Rereading S shelf) (Text : List (List Bool) → List ℕ) (Done : List (List Bool) → Type 0) (none : Done []) where
  abbrev some : BeginWith ((seen_shelf rows).told rows.stimulus.now.name) rows.stimulus.now []
  some = some_rows rows

  -- memory ran out before anything was written or done
  pub nothing_streamed : (out : SeenSink) → Streams Text Done rows rows out out (Err NoMemory)
  nothing_streamed out = record {
    same = refl;
    rows = some.whole;
    are = some.are;
    ends = (refl, (0, omega arith, sym (appended-nil out)));
    count = tt;
    meanwhile = (0, none);
  }

  -- the text in front wasn't written whole
  pub no_head : (head : List ℕ) (behind : List (List Bool) → List ℕ) → ((these : List (List Bool)) → head ++ behind these ≡ Text these) → (out after : SeenSink) (why : Unwritten) → WritesOut head out after (Err why)
      → Streams Text Done rows rows out after (Err (run_fault_of why))
  no_head head behind is out after why failed = record {
    same = refl;
    rows = some.whole;
    are = some.are;
    ends = ends_unwritten rows.stimulus.now.name (Text some.whole) (seen_shelf rows) out (seen_shelf rows) after why refl
        (unwritten_in_piece out (Text some.whole) out after head (behind some.whole) why
        (subst (λ (text : List ℕ). IsLeft out (Text some.whole) out text) (sym (is some.whole)) (nothing_written out (Text some.whole))) failed);
    count = tt;
    meanwhile = (0, none);
  }

-- what is done for rows, in other words
done_so : {Fault : Type 0} {Done Other : List (List Bool) → Type 0} → ((these : List (List Bool)) → Done these → Other these) → (rows : List (List Bool)) (answer : Result (Unit {0}) Fault) → DoneFor Done rows answer → DoneFor Other rows answer
done_so so rows (Ok done) all = so rows all
done_so so rows (Err fault) some = (some.0, so (take some.0 rows) some.1)

-- the same text, and the same that is done, in other words
pub streams_as : {S : Type 0} {shelf : shelves.Ghosts S} {Text Other : List (List Bool) → List ℕ} {Done DoneSo : List (List Bool) → Type 0} {before after : Rereading S shelf} {out out_after : SeenSink} {answer : Result (Unit {0}) RunFault}
    → ((these : List (List Bool)) → Text these ≡ Other these) → ((these : List (List Bool)) → Done these → DoneSo these) → Streams Text Done before after out out_after answer → Streams Other DoneSo before after out out_after answer
streams_as {before = before} {after = after} {out = out} {out_after = out_after} {answer = answer} text so streams = record {
  same = streams.same;
  rows = streams.rows;
  are = streams.are;
  ends = subst (λ (written : List ℕ). EndsStreaming before.stimulus.now.name written (seen_shelf before) out (seen_shelf after) out_after answer) (text streams.rows) streams.ends;
  count = streams.count;
  meanwhile = done_so so streams.rows answer streams.meanwhile;
}

module _ {S : Type 0} {shelf : shelves.Ghosts S} {until : Bool} {Done Other : List (List Bool) → Type 0} {rows rows_after : Rereading S shelf} {engine engine_now : SeenEngine}
    {recorder : SeenRecorder} {mid out_after : SeenSink} {answer : Result (Unit {0}) RunFault} where
  -- a text in front of the clocks was written
  pub headed : (head : List ℕ) (Text : List (List Bool) → List ℕ) (out : SeenSink) → mid ≡ appended out head → ((these : List (List Bool)) → head ++ recorder.left (shown_by until engine these) ≡ Text these)
      → ((these : List (List Bool)) → DoneBy until Done engine engine_now answer these → Other these) → Records until Done rows rows_after engine engine_now recorder mid out_after answer
      → Streams Text Other rows rows_after out out_after answer
  headed head Text out wrote is so records =
      let streams = records.streams in
      let left : List ℕ = recorder.left (shown_by until engine streams.rows) in
      let begun : IsLeft out (Text streams.rows) mid left =
      written_further out (Text streams.rows) out mid head left (subst (λ (text : List ℕ). IsLeft out (Text streams.rows) out text) (sym (is streams.rows)) (nothing_written out (Text streams.rows))) wrote in
      record {
        same = streams.same;
        rows = streams.rows;
        are = streams.are;
        ends = ends_by (Text streams.rows) left (is streams.rows) begun answer streams.ends;
        count = streams.count;
        meanwhile = done_so so streams.rows answer streams.meanwhile;
      } where
        to_end : (text left : List ℕ) → IsLeft out text mid left → IsLeft out text mid (left ++ [])
        to_end text left begun = subst (λ (rest : List ℕ). IsLeft out text mid rest) (sym (append-nil left)) begun

        ends_by : (text left : List ℕ) → head ++ left ≡ text → IsLeft out text mid left → (its : Result (Unit {0}) RunFault)
            → EndsStreaming rows.stimulus.now.name left (seen_shelf rows) mid (seen_shelf rows_after) out_after its → EndsStreaming rows.stimulus.now.name text (seen_shelf rows) out (seen_shelf rows_after) out_after its
        ends_by text left all begun (Ok done) (same, written) = (same, written ∙ ap (λ (sink : SeenSink). appended sink left) wrote ∙ appended-appended out head left ∙ ap (appended out) all)
        ends_by text left all begun (Err WriteFault) (same, failed) = (same, failed_in_piece out text mid out_after left [] (to_end text left begun) failed)
        ends_by text left all begun (Err NoMemory) (same, part) = (same, part_of_piece out text mid out_after left [] (to_end text left begun) part)
        ends_by text left all begun (Err ReadFault) (counted, part) = (counted, part_of_piece out text mid out_after left [] (to_end text left begun) part)
        ends_by text left all begun (Err (BadRows fault)) (none, bad, same, part) = (none, bad, same, part_of_piece out text mid out_after left [] (to_end text left begun) part)
