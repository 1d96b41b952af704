-- so many batches were read and written down
use Rattle.std.proofs.Common.{◌-◌}
use Rattle.vw_trace.proofs.Streaming.{IsUnderway}
use Rattle.vw_trace.proofs.record.record_run.Given as goal

abbrev pub invariant-loop-rows : goal.invariant-loop-rows
invariant-loop-rows g l =
    IsUnderway l.until (λ these. Unit {0}) l.fn.rows l.rows (g.E.Engine.seen l.fn.engine) (g.E.Engine.seen l.engine) (g.R.Recorder.seen l.fn.recorder) (g.R.Recorder.seen l.recorder)
    (g.O.Sink.seen l.fn.out) (g.O.Sink.seen l.out)

abbrev pub decreases-loop-rows : goal.decreases-loop-rows
decreases-loop-rows g l = l.rows.stimulus.now.clocks - l.rows.stimulus.now.done
