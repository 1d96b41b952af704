-- What an engine has worked out fits what writes it down.
use Rattle.std.proofs.Common.{◌≡◌, ◌≤◌, ◌<◌, ◌+◌, ◌-◌, ◌^◌, ◌++◌, ℕ, Bool, true, false, List, [], ◌∷◌, length, map, take, Result, Ok, Err, refl, sym, ◌∙◌, ap, subst, arith}
use Rattle.std.specs.Prelude.{OnOk}
use Rattle.std.specs.Bool.{OnTrue}
use Rattle.std.specs.List.{All}
use Rattle.std.proofs.lemmas.List.{length-map, length-take}
use Rattle.std.proofs.lemmas.List.Elements.{All-cons, All-map, All-nil, All-take, All-weaker}
use Rattle.vw_net.specs.declared.flat.Flat.{Flat}
use Rattle.vw_net.specs.Cells.{latch_count}
use Rattle.vw_net.specs.History.{History, next_state, outputs_at, outputs_of, states_of}
use Rattle.vw_net.proofs.Counts.{length-next_state, length-outputs_at, length-outputs_of, length-state_after, length-states_of}
use Rattle.vw_outside.specs.declared.unwritten.Unwritten.{Unwritten}
use Rattle.vw_outside.specs.declared.unwritten.Unwritten.TheVariants.{NoMemory}
use Rattle.vw_outside.specs.Writes.{SeenSink, WritesOut}
use Rattle.vw_outside.proofs.PiecesWritten.{appended-nil}
use Rattle.vw_trace.specs.declared.engine.Batch.{Batch}
use Rattle.vw_trace.specs.Batches.{FitsRun}
use Rattle.vw_trace.specs.Engines.{SeenEngine, HasWorked}
use Rattle.vw_trace.specs.Recorded.{clocks_before}
use Rattle.vw_trace.specs.Recorders.{FitsBatch, IsBehind, IsOf, SeenRecorder, Wrote}
use Rattle.vw_trace.specs.Triggers.{but_last, shown_count}
use Rattle.vw_trace.proofs.Silence.{always, silent_batch}

-- the widths of what a netlist did
wide_outputs : (flat : Flat) (state : List Bool) (rows : List (List Bool)) → All (λ bits. length bits ≡ length flat.outputs) (outputs_of flat state rows)
wide_outputs flat state [] = All-nil (λ bits. length bits ≡ length flat.outputs)
wide_outputs flat state (row ∷ rows) =
    All-cons (λ bits. length bits ≡ length flat.outputs) (outputs_at flat row state) (outputs_of flat (next_state flat row state) rows) (length-outputs_at flat row state) (wide_outputs flat (next_state flat row state) rows)

wide_states : (flat : Flat) (state : List Bool) (rows : List (List Bool)) → length state ≡ latch_count flat.cells → All (λ bits. length bits ≡ latch_count flat.cells) (states_of flat state rows)
wide_states flat state [] fits = All-nil (λ bits. length bits ≡ latch_count flat.cells)
wide_states flat state (row ∷ rows) fits =
    All-cons (λ bits. length bits ≡ latch_count flat.cells) state (states_of flat (next_state flat row state) rows) fits (wide_states flat (next_state flat row state) rows (length-next_state flat row state))

-- the clocks of some rows fit a recorder of the engine
pub fits_run : (until : Bool) {before after : SeenEngine} {rows : List (List Bool)} {batch : Batch} {recorder : SeenRecorder} (last : List Bool)
    → HasWorked before after rows batch → IsOf until before recorder → before.clock + length rows < 2 ^ 32 → last ≡ after.state → FitsRun until recorder batch last
fits_run until {before = before} {after = after} {rows = rows} {batch = batch} {recorder = recorder} last worked its few is =
    let flat = before.netlist in
    let count : length batch.outputs ≡ length rows = ap (λ (list : List (List Bool)). length list) worked.outputs ∙ length-outputs_of flat before.state rows in
    record {
      count = count ∙ sym (ap (λ (list : List (List Bool)). length list) worked.states ∙ length-states_of flat before.state rows);
      outputs = subst (λ (list : List (List Bool)). All (λ bits. shown_count until (length bits) ≡ recorder.outputs) list) (sym worked.outputs)
          (All-weaker (λ bits. length bits ≡ length flat.outputs) (λ bits. shown_count until (length bits) ≡ recorder.outputs)
          (λ bits wide. ap (shown_count until) wide ∙ sym its.outputs) (outputs_of flat before.state rows) (wide_outputs flat before.state rows));
      states = subst (λ (n : ℕ). All (λ bits. length bits ≡ n) batch.states) (sym its.latches)
          (subst (λ (list : List (List Bool)). All (λ bits. length bits ≡ latch_count flat.cells) list) (sym worked.states) (wide_states flat before.state rows worked.latches));
      few = omega (arith, count, its.clock, few);
      behind = ap (λ (bits : List Bool). length bits) (is ∙ ap (λ (e : SeenEngine). e.state) worked.stands) ∙ length-state_after flat before.state rows worked.latches ∙ sym its.latches;
    }

-- and so do those that are shown, without a trigger
pub fits_front : {recorder : SeenRecorder} {batch front : Batch} {last : List Bool} (count : ℕ) → FitsRun true recorder batch last → count ≤ length batch.outputs
    → front.outputs ≡ map but_last (take count batch.outputs) → front.states ≡ take count batch.states → FitsBatch recorder front
fits_front {recorder = recorder} {batch = batch} {front = front} count fits few outputs states =
    let its : length front.outputs ≡ length (take count batch.outputs) = ap (λ (list : List (List Bool)). length list) outputs ∙ length-map (take count batch.outputs) but_last in
    record {
      count = omega (arith, its, length-take count batch.outputs, length-take count batch.states, ap (λ (list : List (List Bool)). length list) states, fits.count);
      outputs = subst (λ (list : List (List Bool)). All (λ bits. length bits ≡ recorder.outputs) list) (sym outputs)
          (All-map (λ (bits : List Bool). length bits ≡ recorder.outputs) but_last (take count batch.outputs)
          (All-weaker (λ (bits : List Bool). length bits - 1 ≡ recorder.outputs) (λ bits. length (but_last bits) ≡ recorder.outputs)
          (λ bits wide. omega (arith, wide, length-take (length bits - 1) bits)) (take count batch.outputs) (All-take (λ (bits : List Bool). length bits - 1 ≡ recorder.outputs) count batch.outputs fits.outputs)));
      states = subst (λ (list : List (List Bool)). All (λ bits. length bits ≡ recorder.latches) list) (sym states) (All-take (λ (bits : List Bool). length bits ≡ recorder.latches) count batch.states fits.states);
      few = omega (arith, its, length-take count batch.outputs, fits.few);
    }

-- those of a run without a trigger
pub fits_plain : {recorder : SeenRecorder} {batch : Batch} {last : List Bool} → FitsRun false recorder batch last → FitsBatch recorder batch
fits_plain fits = record { count = fits.count; outputs = fits.outputs; states = fits.states; few = fits.few }

module _ {before after : SeenRecorder} {batch : Batch} {out : SeenSink} where
  -- there was no memory for the text of some clocks
  pub no_lines : Wrote before after batch out out (Err NoMemory)
  no_lines = record {
    text = [];
    writes = (0, omega arith, sym (appended-nil out));
    front = λ more. (before.left (clocks_before batch.outputs batch.states more), refl);
    rest = tt;
    stands = tt;
    silent = always before.waits (Unit {0}) tt;
  }

  -- their text was written, or a part of it
  pub lines_written : {out_after : SeenSink} (answer : Result (Unit {0}) Unwritten) (text : List ℕ) → ((more : History) → before.left (clocks_before batch.outputs batch.states more) ≡ text ++ after.left more)
      → OnTrue before.waits (text ≡ []) → IsBehind (length batch.outputs) before after → WritesOut text out out_after answer → Wrote before after batch out out_after answer
  lines_written {out_after = out_after} answer text lines quiet stands writes = record {
    text = text;
    writes = writes;
    front = λ more. (after.left more, lines more);
    rest = whatever answer lines;
    stands = whatever answer stands;
    silent = silent_batch before.waits text out out_after answer quiet writes;
  } where
    whatever : {X : Type 0} (its : Result (Unit {0}) Unwritten) → X → OnOk its X
    whatever (Ok done) so = so
    whatever (Err why) so = tt
