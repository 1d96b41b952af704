-- what is written, and the stages that are left
use Rattle.std.proofs.Common.{◌≡◌, ◌-◌, ◌++◌}
use Rattle.vw_emit_text.specs.Steps.{items_text, stages_from}
use Rattle.vw_emit_text.proofs.cells.push_stages.Given as goal

abbrev pub invariant-loop-before : goal.invariant-loop-before
invariant-loop-before l = l.text.items ++ items_text (stages_from l.before (l.period - l.before)) ≡ l.initial.text.items ++ items_text (stages_from 0 l.period)
