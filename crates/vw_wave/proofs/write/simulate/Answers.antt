use Rattle.std.proofs.Common.{◌≡◌, ◌∙◌, ℕ, List, Bool, length, ap, ap₂}
use Rattle.std.proofs.lemmas.Result.{err_from_is_err_and}
use Rattle.vw_net.specs.declared.flat.Flat.{Flat}
use Rattle.vw_net.specs.declared.ordered.Ordered.{Ordered}
use Rattle.vw_net.specs.Cells.{start_values}
use Rattle.vw_net.proofs.Counts.{length-start_values}
use Rattle.vw_trace.proofs.StreamedTexts.{nothing_streamed, streams_as}
use Rattle.vw_wave.specs.FlatWave.{flat_wave_until, wave_until}
use Rattle.vw_wave.proofs.write.simulate.Given.{Over}
use Rattle.vw_wave.proofs.write.simulate.Goals as goal
use Rattle.vw_wave.proofs.write.simulate.Goals.{In_ok-start}

pub returns-in_err-start-clause-streams : goal.returns-in_err-start-clause-streams
returns-in_err-start-clause-streams g c =
    let p = err_from_is_err_and c.from_residual.result c.from_residual.ensures.1 in
    rw (p.1, p.2) (nothing_streamed c.args.rows.now (flat_wave_until c.args.until c.args.names.now c.args.unknown c.args.ordered.now.flat) (λ these. Unit {0}) tt (g.O.Sink.seen c.args.out.now))

pub returns-in_err-simulation-clause-streams : goal.returns-in_err-simulation-clause-streams
returns-in_err-simulation-clause-streams g c =
    let p = err_from_is_err_and c.from_residual-in_err-simulation.result c.from_residual-in_err-simulation.ensures.1 in
    rw (p.1, p.2) (nothing_streamed c.args.rows.now (flat_wave_until c.args.until c.args.names.now c.args.unknown c.args.ordered.now.flat) (λ these. Unit {0}) tt (g.O.Sink.seen c.args.out.now))

-- the latches start with the start values, and there are as many
starts : (g : Over) (c : In_ok-start g) → c.in_ok-start.start ≡ start_values c.args.unknown c.args.ordered.now.flat.cells
starts g c = c.in_ok-start.ensures ∙ ap (λ (one : Flat). start_values c.args.unknown one.cells) c.flat.ensures

pub make-requires : goal.make-requires
make-requires g c =
    ap (λ (bits : List Bool). length bits) (starts g (goal.at.make-requires g c).In_ok-start) ∙ length-start_values c.args.unknown c.args.ordered.now.flat.cells

pub returns-clause-streams : goal.returns-clause-streams
returns-clause-streams g c =
    let its = c.in_ok-simulation.ensures in
    let state : c.in_ok-simulation.simulation.state ≡ start_values c.args.unknown c.args.ordered.now.flat.cells = its.starts ∙ starts g (goal.at.returns-clause-streams g c).In_ok-start in
    let names = c.args.names.now in
    streams_as (λ these.
    ap (λ (first : ℕ). wave_until c.args.until names first c.in_ok-simulation.simulation.state c.in_ok-simulation.simulation.simulator.flat these) its.unstarted
    ∙ ap₂ (λ (bits : List Bool) (one : Ordered). wave_until c.args.until names 0 bits one.flat these) state its.simulator) (λ these done. tt) c.write_wave_by.ensures
