-- whether a signal has changed is whether one of those that are left has
use Rattle.std.proofs.Common.{◌≡◌, drop}
use Rattle.vw_vcd.specs.Changes.{has_any, of_changed}
use Rattle.vw_vcd.specs.Lines.{value_line}
use Rattle.vw_vcd.proofs.changes.has_change.Given as goal

abbrev pub invariant-loop-number : goal.invariant-loop-number
invariant-loop-number l = has_any (of_changed value_line l.number (drop l.number l.before) (drop l.number l.bits)) ≡ has_any (of_changed value_line 0 l.before l.bits)
