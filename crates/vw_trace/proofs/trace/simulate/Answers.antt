use Rattle.std.proofs.Common.{◌∙◌, List, Bool, length, ap}
use Rattle.std.proofs.lemmas.Result.{err_from_is_err_and}
use Rattle.vw_net.specs.declared.flat.Flat.{Flat}
use Rattle.vw_net.specs.Cells.{start_values}
use Rattle.vw_net.proofs.Counts.{length-start_values}
use Rattle.vw_trace.specs.FlatTrace.{flat_trace_until}
use Rattle.vw_trace.proofs.StreamedTexts.{nothing_streamed}
use Rattle.vw_trace.proofs.trace.simulate.Goals as goal

pub returns-in_err-start-clause-streams : goal.returns-in_err-start-clause-streams
returns-in_err-start-clause-streams g c =
    let p = err_from_is_err_and c.from_residual.result c.from_residual.ensures.1 in
    rw (p.1, p.2) (nothing_streamed c.args.rows.now (flat_trace_until c.args.until c.args.probes c.args.unknown c.args.ordered.now.flat) (λ these. Unit {0}) tt (g.O.Sink.seen c.args.out.now))

pub returns-in_err-simulation-clause-streams : goal.returns-in_err-simulation-clause-streams
returns-in_err-simulation-clause-streams g c =
    let p = err_from_is_err_and c.from_residual-in_err-simulation.result c.from_residual-in_err-simulation.ensures.1 in
    rw (p.1, p.2) (nothing_streamed c.args.rows.now (flat_trace_until c.args.until c.args.probes c.args.unknown c.args.ordered.now.flat) (λ these. Unit {0}) tt (g.O.Sink.seen c.args.out.now))

-- there are as many start values as latches
pub make-requires : goal.make-requires
make-requires g c =
    let flat = c.args.ordered.now.flat in
    ap (λ (bits : List Bool). length bits) (c.in_ok-start.ensures ∙ ap (λ (one : Flat). start_values c.args.unknown one.cells) c.flat.ensures) ∙ length-start_values c.args.unknown flat.cells
