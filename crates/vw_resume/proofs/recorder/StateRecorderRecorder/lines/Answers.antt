use Rattle.std.proofs.Common.{◌≡◌, ◌+◌, ◌++◌, ◌∙◌, ℕ, List, length, sym, ap, arith, length-append}
use Rattle.vw_resume.specs.States.{state_text}
use Rattle.vw_resume.proofs.recorder.StateRecorderRecorder.lines.Goals as goal

-- nothing is written of a batch, but its clocks are counted
pub returns-clause-text : goal.returns-clause-text
returns-clause-text c = λ more.
    let clocks = c.args.self.now.clocks in
    let outputs = c.args.batch.now.outputs in
    let count : clocks + length (outputs ++ more.outputs) ≡ (clocks + c.len.result) + length more.outputs = omega (arith, length-append outputs more.outputs, c.len.ensures) in
    ap (λ (n : ℕ). state_text n more.last) count
    ∙ ap (λ (written : List ℕ). written ++ state_text ((clocks + c.len.result) + length more.outputs) more.last) (sym c.new.ensures.items)
