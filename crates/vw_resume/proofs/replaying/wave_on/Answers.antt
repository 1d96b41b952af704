use Rattle.std.proofs.Common.{List, Bool, ap₂}
use Rattle.std.proofs.lemmas.Result.{err_from_is_err_and}
use Rattle.vw_net.specs.declared.ordered.Ordered.{Ordered}
use Rattle.vw_trace.proofs.StreamedTexts.{nothing_streamed, streams_as}
use Rattle.vw_wave.specs.FlatWave.{wave_until}
use Rattle.vw_resume.proofs.replaying.wave_on.Goals as goal

-- there was no memory for the simulation
pub returns-in_err-simulation : goal.returns-in_err-simulation
returns-in_err-simulation g c =
    let p = err_from_is_err_and c.from_residual.result c.from_residual.ensures.1 in
    rw (p.1, p.2) (nothing_streamed c.args.rows.now (wave_until c.args.until c.args.names.now c.args.state.clock c.args.state.latches c.args.ordered.now.flat) (λ these. Unit {0}) tt (g.O.Sink.seen c.args.out.now))

-- it is the netlist that is simulated, from the state on
pub returns : goal.returns
returns g c =
    let its = c.in_ok-simulation.ensures in
    streams_as (λ these. ap₂ (λ (latches : List Bool) (one : Ordered). wave_until c.args.until c.args.names.now c.args.state.clock latches one.flat these) its.starts its.simulator)
    (λ these done. tt) c.write_wave_by.ensures
