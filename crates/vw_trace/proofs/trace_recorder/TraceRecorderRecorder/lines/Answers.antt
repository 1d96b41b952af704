use Rattle.std.proofs.Common.{◌++◌, ◌+◌, ◌∙◌, ℕ, [], List, length, sym, ap}
use Rattle.vw_rows.specs.Trace.{trace_lines_from}
use Rattle.vw_rows.proofs.TraceLines.{trace_lines_from-joined}
use Rattle.vw_trace.proofs.trace_recorder.TraceRecorderRecorder.lines.Goals as goal

-- the lines of a batch, and then those of what follows
pub returns-clause-text : goal.returns-clause-text
returns-clause-text c = λ more.
    let batch = c.args.batch.now in
    trace_lines_from-joined c.args.self.now.clocks (record { outputs = batch.outputs; states = batch.states; last = [] }) more c.requires.count
    ∙ ap (λ (text : List ℕ). text ++ trace_lines_from (c.args.self.now.clocks + length batch.outputs) more) (sym c.in_ok-text.ensures)
    ∙ ap (λ (n : ℕ). c.in_ok-text.text.items ++ trace_lines_from (c.args.self.now.clocks + n) more) (sym c.len.ensures)
