-- the lines so far and those of what is left
use Rattle.std.proofs.Common.{◌≡◌, ◌+◌, ◌++◌, drop}
use Rattle.vw_rows.specs.Trace.{rows_text}
use Rattle.vw_rows.proofs.trace.trace_rows.Given as goal

abbrev pub invariant-loop-i : goal.invariant-loop-i
invariant-loop-i l = l.text.items ++ rows_text (l.first + l.i) (drop l.i l.outputs) (drop l.i l.latches) ≡ rows_text l.first l.outputs l.latches
