use Rattle.std.proofs.Common.{[], sym, subst, arith}
use Rattle.std.proofs.lemmas.Result.{err_from_is_err_and}
use Rattle.vw_plan.specs.PlannedBoard.{planned_board}
use Rattle.vw_trace.specs.FlatTrace.{trace_until}
use Rattle.vw_trace.specs.Triggers.{worked}
use Rattle.vw_trace.proofs.StreamedTexts.{nothing_streamed, streams_as}
use Rattle.vw_trace.proofs.Triggered.{one_batch}
use Rattle.vw_batches.specs.Runs.{engine_of}
use Rattle.vw_batches.specs.Traffic.{HaveCarried}
use Rattle.vw_batches.proofs.JoinedTraffic.{after_no_rows}
use Rattle.vw_batches.proofs.StartedBoards.{done_on, its_text}
use Rattle.vw_resume.proofs.resuming.run_watched_from.Goals as goal

-- there was no memory before anything was written
pub returns-in_err-board-clause-streams : goal.returns-in_err-board-clause-streams
returns-in_err-board-clause-streams g c =
    let checked = c.args.checked in
    let flat = checked.ordered.flat in
    let planned = planned_board checked.ordered checked.board checked.plan in
    let clock = c.args.state.clock in
    let latches = c.args.state.latches in
    let carried = g.F.Fabric.carried c.args.floor.now.fabric.now in
    let p = err_from_is_err_and c.from_residual.result c.from_residual.ensures.1 in
    rw (p.1, p.2)
    (nothing_streamed c.args.rows.now (trace_until c.args.until c.args.probes clock latches flat) (λ these. HaveCarried c.args.floor.now.workers planned clock latches carried carried (worked c.args.until flat latches these))
    (subst (HaveCarried c.args.floor.now.workers planned clock latches carried carried) (sym (one_batch flat latches c.args.until [] (omega arith))) (after_no_rows planned clock latches c.args.floor.now.workers carried)) (g.O.Sink.seen c.args.out.now))

-- the board goes on from the state
pub returns-clause-streams : goal.returns-clause-streams
returns-clause-streams g c =
    let its = c.in_ok-board.ensures in
    let job = c.in_ok-board.board.job in
    streams_as (λ these. its_text job its.checked its.clock its.state these c.args.until c.args.probes)
    (λ these done. (done_on job its.checked its.clock its.state c.args.until c.args.floor.now.workers (g.F.Fabric.carried c.args.floor.now.fabric.now) (g.F.Fabric.carried c.write_trace_on.new.floor.fabric.now)
    (engine_of c.write_trace_on.new.board.job) c.write_trace_on.result these done).0)
    c.write_trace_on.ensures.streams
