-- what is written, and the marks that are left
use Rattle.std.proofs.Common.{◌≡◌, ◌++◌, drop}
use Rattle.vw_emit_text.specs.Steps.{marks_text, row_marks}
use Rattle.vw_emit_text.proofs.rows.push_marks.Given as goal

abbrev pub invariant-loop-input : goal.invariant-loop-input
invariant-loop-input l = l.text.items ++ marks_text (drop l.input (row_marks l.cover l.row)) ≡ l.initial.text.items ++ marks_text (row_marks l.cover l.row)
