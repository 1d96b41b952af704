use Rattle.std.proofs.Common.{◌≡◌, ◌∙◌, ◌++◌, ℕ, List, [], map, take, Result, Ok, Err, sym, ap, subst, append-nil}
use Rattle.std.specs.Prelude.{slice_index_or}
use Rattle.std.proofs.lemmas.Result.{err_from_is_err_and}
use Rattle.vw_outside.specs.declared.unwritten.Unwritten.{Unwritten}
use Rattle.vw_outside.specs.Writes.{SeenSink, WritesOut}
use Rattle.vw_outside.proofs.PiecesWritten.{IsLeft, last_piece, nothing_written, unwritten_in_piece, written_further}
use Rattle.vw_trace.specs.Batches.{shown_front}
use Rattle.vw_trace.specs.Recorded.{clocks_before, no_more_clocks}
use Rattle.vw_trace.specs.Triggers.{but_last, clocks_until}
use Rattle.vw_trace.proofs.RecordedBatches.{fits_front}
use Rattle.vw_trace.proofs.trigger.write_last.Given.{Over}
use Rattle.vw_trace.proofs.trigger.write_last.Goals as goal
use Rattle.vw_trace.proofs.trigger.write_last.Goals.{In_ok-state}

pub write_batch-requires : goal.write_batch-requires
write_batch-requires g c = fits_front c.args.clocks c.requires.fits c.requires.within c.in_ok-front.ensures.outputs c.in_ok-front.ensures.states

-- the clocks that are written down, and what follows them
its_history : (g : Over) (c : In_ok-state g) → clocks_before c.in_ok-front.front.outputs c.in_ok-front.front.states (no_more_clocks c.in_ok-state.state) ≡ shown_front c.args.batch.now c.args.last.now
its_history g c =
    let batch = c.args.batch.now in
    let clocks = c.args.clocks in
    let outputs : c.in_ok-front.front.outputs ++ [] ≡ map but_last (take (clocks_until batch.outputs) batch.outputs) =
    append-nil c.in_ok-front.front.outputs ∙ c.in_ok-front.ensures.outputs ∙ ap (λ (n : ℕ). map but_last (take n batch.outputs)) c.requires.clocks in
    let states : c.in_ok-front.front.states ++ [] ≡ take (clocks_until batch.outputs) batch.states =
    append-nil c.in_ok-front.front.states ∙ c.in_ok-front.ensures.states ∙ ap (λ (n : ℕ). take n batch.states) c.requires.clocks in
    let last : c.in_ok-state.state ≡ slice_index_or batch.states (clocks_until batch.outputs) c.args.last.now =
    c.in_ok-state.ensures ∙ ap (λ (n : ℕ). slice_index_or batch.states n c.args.last.now) c.requires.clocks in
    (λ i. record { outputs = outputs i; states = states i; last = last i })

pub returns-in_err-write_batch : goal.returns-in_err-write_batch
returns-in_err-write_batch g c =
    let p = err_from_is_err_and c.from_residual-in_err-write_batch.result c.from_residual-in_err-write_batch.ensures.1 in
    let wrote = c.in_err-write_batch.ensures in
    let its = its_history g (goal.at.returns-in_err-write_batch g c).In_ok-state in
    let before = g.O.Sink.seen c.args.out.now in
    let rest = wrote.front (no_more_clocks c.in_ok-state.state) in
    let left = (g.R.Recorder.seen c.args.recorder.now).left in
    let text = left (shown_front c.args.batch.now c.args.last.now) in
    rw (p.1, p.2)
    (unwritten_in_piece before text before (g.O.Sink.seen c.write_batch.new.out) wrote.text rest.0 c.in_err-write_batch.field-0.0
    (subst (λ (r : List ℕ). IsLeft before text before r) (sym (ap left its) ∙ rest.1) (nothing_written before text)) wrote.writes)

-- the last piece of a text was written, or a part of it
finished : (before mid after : SeenSink) (text piece : List ℕ) (answer : Result (Unit {0}) Unwritten) → IsLeft before text mid piece → WritesOut piece mid after answer → WritesOut text before after answer
finished before mid after text piece (Ok done) left wrote = last_piece before text mid after piece left wrote
finished before mid after text piece (Err why) left wrote =
    unwritten_in_piece before text mid after piece [] why (subst (λ (rest : List ℕ). IsLeft before text mid rest) (sym (append-nil piece)) left) wrote

pub returns : goal.returns
returns g c =
    let wrote = c.in_ok-write_batch.ensures in
    let its = its_history g (goal.at.returns g c).In_ok-state in
    let before = g.O.Sink.seen c.args.out.now in
    let mid = g.O.Sink.seen c.write_batch.new.out in
    let left = (g.R.Recorder.seen c.args.recorder.now).left in
    let text = left (shown_front c.args.batch.now c.args.last.now) in
    let last = (g.R.Recorder.seen c.write_batch.new.recorder).left (no_more_clocks c.in_ok-state.state) in
    let rest : IsLeft before text mid last =
    written_further before text before mid wrote.text last (subst (λ (r : List ℕ). IsLeft before text before r) (sym (ap left its) ∙ wrote.rest (no_more_clocks c.in_ok-state.state)) (nothing_written before text)) wrote.writes in
    finished before mid (g.O.Sink.seen c.put_text.new.out) text last c.put_text.result rest (c.put_text.ensures last c.end-rest.ensures)
