-- what is written, and the names that are left
use Rattle.std.proofs.Common.{◌≡◌, ◌++◌, drop}
use Rattle.vw_emit_text.specs.Steps.{names_text, planned_by}
use Rattle.vw_emit_text.proofs.cells.push_locals.Given as goal

abbrev pub invariant-loop-net : goal.invariant-loop-net
invariant-loop-net l = l.text.items ++ names_text (planned_by l.emitter) l.node (drop l.net-index l.nets) ≡ l.initial.text.items ++ names_text (planned_by l.emitter) l.node l.nets
