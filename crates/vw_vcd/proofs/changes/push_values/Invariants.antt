-- what is written, and the signals that are left
use Rattle.std.proofs.Common.{◌≡◌, ◌++◌, drop}
use Rattle.vw_text.specs.Physical.{lines_text}
use Rattle.vw_vcd.specs.Changes.{of_each}
use Rattle.vw_vcd.specs.Lines.{value_line}
use Rattle.vw_vcd.proofs.changes.push_values.Given as goal

abbrev pub invariant-loop-number : goal.invariant-loop-number
invariant-loop-number l = l.text.items ++ lines_text (of_each value_line l.number (drop l.number l.bits)) ≡ l.fn.text.items ++ lines_text (of_each value_line 0 l.bits)
