use Rattle.std.proofs.Common.{false, sym, subst, Err, Ok, Bool}
use Rattle.std.proofs.lemmas.Result.{err_from_is_err_and}
use Rattle.vw_trace.specs.Batches.{FitsRun, WroteClocks}
use Rattle.vw_trace.proofs.RecordedBatches.{fits_plain}
use Rattle.vw_trace.proofs.TriggeredBatches.{wrote_plain, wrote_plain_part}
use Rattle.vw_trace.proofs.trigger.write_clocks.Goals as goal

pub write_batch-requires : goal.write_batch-requires
write_batch-requires g c = fits_plain (subst (λ (b : Bool). FitsRun b (g.R.Recorder.seen c.args.recorder.now) c.args.batch.now c.args.last.now) c.if-until.false c.requires)

pub returns-in_err-write_batch : goal.returns-in_err-write_batch
returns-in_err-write_batch g c =
    let p = err_from_is_err_and c.from_residual.result c.from_residual.ensures.1 in
    rw (p.1, p.2) (subst (λ (b : Bool). WroteClocks b (g.R.Recorder.seen c.args.recorder.now) (g.R.Recorder.seen c.write_batch.new.recorder) c.args.batch.now c.args.last.now (g.O.Sink.seen c.args.out.now) (g.O.Sink.seen c.write_batch.new.out) (Err c.in_err-write_batch.field-0.0))
    (sym c.if-until.false) (wrote_plain_part c.in_err-write_batch.ensures))

pub returns : goal.returns
returns g c = subst (λ (b : Bool). WroteClocks b (g.R.Recorder.seen c.args.recorder.now) (g.R.Recorder.seen c.write_batch.new.recorder) c.args.batch.now c.args.last.now (g.O.Sink.seen c.args.out.now) (g.O.Sink.seen c.write_batch.new.out) (Ok false))
    (sym c.if-until.false) (wrote_plain c.in_ok-write_batch.ensures)
