use Rattle.std.proofs.lemmas.Result.{err_from_is_err_and}
use Rattle.vw_trace.specs.FlatTrace.{trace_until}
use Rattle.vw_trace.proofs.StreamedTexts.{nothing_streamed}
use Rattle.vw_resume.proofs.replaying.simulate_from.Goals as goal

-- there was no memory for the simulation
pub returns-in_err-simulation : goal.returns-in_err-simulation
returns-in_err-simulation g c =
    let p = err_from_is_err_and c.from_residual.result c.from_residual.ensures.1 in
    rw (p.1, p.2) (nothing_streamed c.args.rows.now (trace_until c.args.until c.args.probes c.args.state.clock c.args.state.latches c.args.ordered.now.flat) (λ these. Unit {0}) tt (g.O.Sink.seen c.args.out.now))
