-- the nets of the gates so far, and those of the rest
use Rattle.std.proofs.Common.{◌≡◌, ◌++◌, drop}
use Rattle.vw_prog.specs.Coding.{gate_nets}
use Rattle.vw_prog.proofs.naming.list_gates.Given as goal

abbrev pub invariant-loop-action : goal.invariant-loop-action
invariant-loop-action l = l.list.items ++ gate_nets l.inputs (drop l.action-index l.actions) ≡ l.fn.list.items ++ gate_nets l.inputs l.actions
