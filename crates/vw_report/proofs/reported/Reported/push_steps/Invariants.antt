-- what is written, and the steps that are left
use Rattle.std.proofs.Common.{◌≡◌, ◌++◌, drop}
use Rattle.std.specs.List.{flat_map}
use Rattle.vw_text.specs.Physical.{lines_text}
use Rattle.vw_chain.specs.Timing.{planned_of}
use Rattle.vw_report.specs.Report.{step_lines}
use Rattle.vw_report.proofs.reported.Reported.push_steps.Given as goal

abbrev pub invariant-loop-step : goal.invariant-loop-step
invariant-loop-step l =
    let planned = planned_of l.self.timed.now in
    l.text.items ++ lines_text (flat_map (step_lines planned l.self.names.now) (drop l.step-index l.steps)) ≡ l.fn.text.items ++ lines_text (flat_map (step_lines planned l.self.names.now) l.steps)
