-- what is written, and the signals that are left
use Rattle.std.proofs.Common.{◌≡◌, ◌++◌, drop}
use Rattle.vw_text.specs.Physical.{lines_text}
use Rattle.vw_vcd.specs.Lines.{var_lines}
use Rattle.vw_vcd.proofs.heads.push_vars.Given as goal

abbrev pub invariant-loop-number : goal.invariant-loop-number
invariant-loop-number l = l.text.items ++ lines_text (var_lines l.number (drop l.number l.nets)) ≡ l.fn.text.items ++ lines_text (var_lines 0 l.nets)
