use Rattle.std.proofs.Common.{◌++◌, ◌∙◌, ℕ, Bool, List, ap}
use Rattle.vw_text.specs.Physical.{lines_text}
use Rattle.vw_vcd.specs.Lines.{lines_of_clocks}
use Rattle.vw_wave.specs.FlatWave.{joined_rows}
use Rattle.vw_wave.proofs.WaveLeft.{wave_goes_on}
use Rattle.vw_wave.proofs.recorder.WaveRecorderRecorder.lines.Goals as goal

-- what was left is these lines, and behind them what is left now
pub returns-clause-text : goal.returns-clause-text
returns-clause-text c = λ more.
    let batch = c.args.batch.now in
    let old = c.args.self.now.wave in
    let new = c.push_clocks.new.self.wave in
    let pushed = c.in_ok-push_clocks.ensures in
    let lines = λ (outputs states : List (List Bool)). lines_text (lines_of_clocks old.clock old.last (joined_rows outputs states)) in
    let text = pushed.text ∙ ap (λ (front : List ℕ). front ++ lines batch.outputs batch.states) c.new-text.ensures.items in
    wave_goes_on old new batch.outputs batch.states c.push_clocks.new.text.items c.requires.count text pushed.clock pushed.last more
