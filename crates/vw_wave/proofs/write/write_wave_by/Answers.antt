use Rattle.std.proofs.Common.{List, Bool, ℕ, subst}
use Rattle.std.proofs.lemmas.Result.{err_from_is_err_and}
use Rattle.vw_text.specs.Physical.{lines_text}
use Rattle.vw_trace.specs.Streamed.{shown_by}
use Rattle.vw_trace.proofs.StreamedTexts.{headed, no_head, nothing_streamed}
use Rattle.vw_vcd.specs.Lines.{lines_of_head}
use Rattle.vw_wave.specs.FlatWave.{wave_left, wave_until}
use Rattle.vw_wave.proofs.StreamedWaves.{IsFresh, whole_wave}
use Rattle.vw_wave.proofs.write.write_wave_by.Goals as goal
use Rattle.vw_wave.proofs.write.write_wave_by.Given.{Over}
use Rattle.vw_wave.proofs.write.write_wave_by.Goals.{In_ok-recorder}

-- the recorder's wave begins with the engine's next clock
begins : (g : Over) (c : In_ok-recorder g) → IsFresh (g.E.Engine.seen c.args.engine.now).clock c.in_ok-recorder.recorder.wave
begins g c = subst (λ (first : ℕ). IsFresh first c.in_ok-recorder.recorder.wave) c.clock.ensures c.in_ok-recorder.ensures.fresh

pub returns-in_err-recorder : goal.returns-in_err-recorder
returns-in_err-recorder g c =
    let seen = g.E.Engine.seen c.args.engine.now in
    let p = err_from_is_err_and c.from_residual.result c.from_residual.ensures.1 in
    rw (p.1, p.2) (nothing_streamed c.args.rows.now (wave_until c.args.until c.args.names.now seen.clock seen.state seen.netlist) (λ these. Unit {0} × Unit {0}) (tt, tt) (g.O.Sink.seen c.args.out.now))

pub returns-in_err-write_head : goal.returns-in_err-write_head
returns-in_err-write_head g c =
    let seen = g.E.Engine.seen c.args.engine.now in
    let p = err_from_is_err_and c.from_residual-in_err-write_head.result c.from_residual-in_err-write_head.ensures.1 in
    let names = c.args.names.now in
    let wave = c.in_ok-recorder.recorder.wave in
    rw (p.1, p.2)
    (no_head c.args.rows.now (wave_until c.args.until names seen.clock seen.state seen.netlist) (λ these. Unit {0} × Unit {0}) (tt, tt) (lines_text (lines_of_head names)) (λ (rows : List (List Bool)). wave_left wave (shown_by c.args.until seen rows))
    (whole_wave seen.clock wave (begins g (goal.at.returns-in_err-write_head g c).In_ok-recorder) c.args.until names seen.state seen.netlist) (g.O.Sink.seen c.args.out.now) (g.O.Sink.seen c.write_head.new.out) c.in_err-write_head.field-0.0 c.in_err-write_head.ensures)

pub returns : goal.returns
returns g c =
    let seen = g.E.Engine.seen c.args.engine.now in
    let names = c.args.names.now in
    let wave = c.in_ok-recorder.recorder.wave in
    headed (lines_text (lines_of_head names)) (wave_until c.args.until names seen.clock seen.state seen.netlist) (g.O.Sink.seen c.args.out.now) c.in_ok-write_head.ensures
    (whole_wave seen.clock wave (begins g (goal.at.returns g c).In_ok-recorder) c.args.until names seen.state seen.netlist) (λ these done. done) c.record_run.ensures
