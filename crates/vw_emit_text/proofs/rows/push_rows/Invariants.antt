-- what is written, and the rows that are left
use Rattle.std.proofs.Common.{◌≡◌, ◌++◌, ◌∷◌, [], drop}
use Rattle.vw_text.specs.Physical.{lines_text}
use Rattle.vw_emit_text.specs.Steps.{row_lines}
use Rattle.vw_emit_text.proofs.rows.push_rows.Given as goal

abbrev pub invariant-loop-row : goal.invariant-loop-row
invariant-loop-row l = l.text.items ++ lines_text (row_lines (drop l.row l.cover.rows) (l.value ∷ [])) ≡ l.initial.text.items ++ lines_text (row_lines l.cover.rows (l.value ∷ []))
