-- what is written, and the faults that are left
use Rattle.std.proofs.Common.{◌≡◌, ◌++◌, drop}
use Rattle.vw_text.specs.Physical.{lines_text}
use Rattle.vw_fault.specs.Text.{open_lines}
use Rattle.vw_fault.proofs.text.push_all.Given as goal

abbrev pub invariant-loop-fault : goal.invariant-loop-fault
invariant-loop-fault l = l.text.items ++ lines_text (open_lines l.names (drop l.fault-index l.faults)) ≡ l.initial.text.items ++ lines_text (open_lines l.names l.faults)
