use Rattle.std.proofs.lemmas.Result.{err_from_is_err_and}
use Rattle.vw_trace.specs.FlatTrace.{flat_trace_until}
use Rattle.vw_trace.proofs.StreamedTexts.{nothing_streamed, streams_as}
use Rattle.vw_batches.proofs.StartedBoards.{its_text}
use Rattle.vw_batches.proofs.board_run.run_alone.Goals as goal

pub returns-in_err-board-clause-streams : goal.returns-in_err-board-clause-streams
returns-in_err-board-clause-streams g c =
    let p = err_from_is_err_and c.from_residual.result c.from_residual.ensures.1 in
    rw (p.1, p.2) (nothing_streamed c.args.rows.now (flat_trace_until c.args.until c.args.probes c.args.unknown c.args.checked.ordered.flat) (λ these. Unit {0}) tt (g.O.Sink.seen c.args.out.now))

pub returns-clause-streams : goal.returns-clause-streams
returns-clause-streams g c =
    let its = c.in_ok-board.ensures in
    streams_as (λ these. its_text c.in_ok-board.board.job its.checked its.clock its.state these c.args.until c.args.probes) (λ these done. tt) c.write_trace_by.ensures
