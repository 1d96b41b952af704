-- so many batches were read and written down; the floor and the board are the ones that were handed in, and the links have carried the
-- words of the rows so far
use Rattle.std.proofs.Common.{◌≡◌, ◌-◌}
use Rattle.vw_prog.specs.Scripts.{planned_of}
use Rattle.vw_trace.proofs.Streaming.{IsUnderway}
use Rattle.vw_batches.specs.Runs.{engine_of}
use Rattle.vw_batches.specs.Traffic.{HaveCarried}
use Rattle.vw_batches.proofs.going.go_together.Given as goal

abbrev pub invariant-loop-rows : goal.invariant-loop-rows
invariant-loop-rows g l = record {
  fabric : l.floor.fabric.ghost_name ≡ l.fn.floor.fabric.ghost_name;
  workers : l.floor.workers ≡ l.fn.floor.workers;
  checked : l.board.job.checked ≡ l.fn.board.job.checked;
  underway : IsUnderway l.until
      (HaveCarried l.fn.floor.workers (planned_of l.fn.board.job) l.fn.board.job.first l.fn.board.job.start (g.F.Fabric.carried l.fn.floor.fabric.now) (g.F.Fabric.carried l.floor.fabric.now))
      l.fn.rows l.rows (engine_of l.fn.board.job) (engine_of l.board.job) (g.R.Recorder.seen l.fn.recorder) (g.R.Recorder.seen l.recorder) (g.O.Sink.seen l.fn.out) (g.O.Sink.seen l.out);
}

abbrev pub decreases-loop-rows : goal.decreases-loop-rows
decreases-loop-rows g l = l.rows.stimulus.now.clocks - l.rows.stimulus.now.done
