-- A text that is made of all rows that a stimulus still gives, which are read at once, and then written.
use Rattle.std.proofs.Common.{◌≡◌, ◌≢◌, ◌≤◌, ℕ, Bool, false, List, length, take, drop, min, Ok, Err, sym, ◌∙◌, ap, arith}
use Rattle.std.specs.List.{All}
use Rattle.std.proofs.lemmas.List.{length-drop, take_all}
use Rattle.vw_outside.specs.declared.shelf.Shelf as shelves
use Rattle.vw_outside.specs.declared.unwritten.Unwritten.{Unwritten}
use Rattle.vw_outside.specs.Told.{held}
use Rattle.vw_outside.specs.Reads.{CountsFault}
use Rattle.vw_outside.specs.Writes.{SeenSink, WritesOut}
use Rattle.vw_outside.proofs.PiecesWritten.{appended-nil}
use Rattle.vw_rows.specs.declared.fault.StimFault.{StimFault}
use Rattle.vw_rows.specs.declared.fault.StimFault.TheVariants as rows_faults
use Rattle.vw_rows.specs.declared.rereading.Rereading.{Rereading}
use Rattle.vw_rows.specs.Rereadings.{SameShelf, seen_shelf}
use Rattle.vw_rows.specs.Stimulus.{stimulus_rows, is_text_fault}
use Rattle.vw_trace.specs.RunFaults.{run_fault_of, run_fault_of_rows}
use Rattle.vw_trace.specs.Streamed.{MayBeRows, Streams, clocks_left}
use Rattle.vw_trace.proofs.Streaming.{ends_unwritten, ends_unread}
use Rattle.vw_trace.proofs.StreamedTexts.{some_rows}

module _ {S : Type 0} {read : shelves.Ghosts S} (rows after : Rereading S read) (same : SameShelf rows after) (Text : List (List Bool) → List ℕ) (out : SeenSink) where
  -- the rows weren't read
  pub no_rows : (fault : StimFault) → (fault ≡ rows_faults.ReadFault → CountsFault rows.stimulus.now.name (seen_shelf rows) (seen_shelf after)) → (fault ≢ rows_faults.ReadFault → seen_shelf after ≡ seen_shelf rows)
      → ((text : List ℕ) → (seen_shelf rows).told rows.stimulus.now.name ≡ held text → is_text_fault fault ≡ false) → Streams Text (λ these. Unit {0}) rows after out out (Err (run_fault_of_rows fault))
  no_rows fault counts kept sure =
      let some = some_rows rows in
      record {
        same = same;
        rows = some.whole;
        are = some.are;
        ends = ends_unread rows.stimulus.now.name (Text some.whole) (seen_shelf rows) out (seen_shelf after) out fault (0, omega arith, sym (appended-nil out)) counts kept sure;
        count = tt;
        meanwhile = (0, tt);
      }

  module _ (these : List (List Bool)) (most : ℕ) (enough : rows.stimulus.now.clocks ≤ most) (kept : seen_shelf after ≡ seen_shelf rows)
      (are_next : (text : List ℕ) (all : List (List Bool)) → (seen_shelf rows).told rows.stimulus.now.name ≡ held text → stimulus_rows rows.stimulus.now.width text ≡ Ok all → these ≡ take most (drop rows.stimulus.now.done all))
      (wide : All (λ row. length row ≡ rows.stimulus.now.width) these) (count : length these ≡ min most (clocks_left rows.stimulus.now)) (out_after : SeenSink) where
    -- they are all of them
    are : MayBeRows ((seen_shelf rows).told rows.stimulus.now.name) rows.stimulus.now these
    are = record {
      same = λ text all is said.
          let stood = rows.stands text is in
          let ok : Ok stood.rows ≡ Ok all = sym stood.accepted ∙ said in
          let rows_are : stood.rows ≡ all = cc in
          let long : length all ≡ rows.stimulus.now.clocks = ap (λ (r : List (List Bool)). length r) (sym rows_are) ∙ stood.clocks in
          are_next text all is said ∙ take_all most (drop rows.stimulus.now.done all) (omega (arith, length-drop rows.stimulus.now.done all, long, enough));
      wide = λ none. wide;
    }

    -- the text wasn't written whole
    pub not_written : (why : Unwritten) → WritesOut (Text these) out out_after (Err why) → Streams Text (λ some. Unit {0}) rows after out out_after (Err (run_fault_of why))
    not_written why failed = record {
      same = same;
      rows = these;
      are = are;
      ends = ends_unwritten rows.stimulus.now.name (Text these) (seen_shelf rows) out (seen_shelf after) out_after why kept failed;
      count = tt;
      meanwhile = (0, tt);
    }

    -- it was
    pub whole_written : WritesOut (Text these) out out_after (Ok tt) → Streams Text (λ some. Unit {0}) rows after out out_after (Ok tt)
    whole_written all = record {
      same = same;
      rows = these;
      are = are;
      ends = (kept, all);
      count = omega (arith, count, enough);
      meanwhile = tt;
    }
