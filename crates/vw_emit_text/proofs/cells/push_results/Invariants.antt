-- what is written, and the outputs that are left
use Rattle.std.proofs.Common.{◌≡◌, ◌++◌, drop}
use Rattle.vw_emit_text.specs.Steps.{items_text, planned_by, results_from}
use Rattle.vw_emit_text.proofs.cells.push_results.Given as goal

abbrev pub invariant-loop-number : goal.invariant-loop-number
invariant-loop-number l = l.text.items ++ items_text (results_from (planned_by l.emitter) l.number (drop l.number l.nets)) ≡ l.initial.text.items ++ items_text (results_from (planned_by l.emitter) 0 l.nets)
