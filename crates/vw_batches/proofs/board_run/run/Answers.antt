use Rattle.std.proofs.Common.{[], sym, subst, arith}
use Rattle.std.proofs.lemmas.Result.{err_from_is_err_and}
use Rattle.vw_net.specs.Cells.{start_values}
use Rattle.vw_plan.specs.PlannedBoard.{planned_board}
use Rattle.vw_trace.specs.FlatTrace.{flat_trace_until}
use Rattle.vw_trace.specs.Triggers.{worked}
use Rattle.vw_trace.proofs.StreamedTexts.{nothing_streamed, streams_as}
use Rattle.vw_trace.proofs.Triggered.{one_batch}
use Rattle.vw_batches.specs.Runs.{engine_of}
use Rattle.vw_batches.specs.Traffic.{HaveCarried}
use Rattle.vw_batches.proofs.JoinedTraffic.{after_no_rows}
use Rattle.vw_batches.proofs.StartedBoards.{done_on, its_text}
use Rattle.vw_batches.proofs.board_run.run.Goals as goal

pub returns-in_err-board-clause-streams : goal.returns-in_err-board-clause-streams
returns-in_err-board-clause-streams g c =
    let checked = c.args.checked in
    let flat = checked.ordered.flat in
    let planned = planned_board checked.ordered checked.board checked.plan in
    let start = start_values c.args.unknown flat.cells in
    let carried = g.F.Fabric.carried c.args.floor.now.fabric.now in
    let p = err_from_is_err_and c.from_residual.result c.from_residual.ensures.1 in
    rw (p.1, p.2)
    (nothing_streamed c.args.rows.now (flat_trace_until c.args.until c.args.probes c.args.unknown flat) (λ these. HaveCarried c.args.floor.now.workers planned 0 start carried carried (worked c.args.until flat start these))
    (subst (HaveCarried c.args.floor.now.workers planned 0 start carried carried) (sym (one_batch flat start c.args.until [] (omega arith))) (after_no_rows planned 0 start c.args.floor.now.workers carried)) (g.O.Sink.seen c.args.out.now))

pub returns-clause-streams : goal.returns-clause-streams
returns-clause-streams g c =
    let its = c.in_ok-board.ensures in
    let job = c.in_ok-board.board.job in
    streams_as (λ these. its_text job its.checked its.clock its.state these c.args.until c.args.probes)
    (λ these done. (done_on job its.checked its.clock its.state c.args.until c.args.floor.now.workers (g.F.Fabric.carried c.args.floor.now.fabric.now) (g.F.Fabric.carried c.write_trace_on.new.floor.fabric.now)
    (engine_of c.write_trace_on.new.board.job) c.write_trace_on.result these done).0)
    c.write_trace_on.ensures.streams
