-- the nets that are taken so far, and those of the rest
use Rattle.std.proofs.Common.{◌≡◌, ◌++◌, drop}
use Rattle.vw_prog.specs.Coding.{take_nets}
use Rattle.vw_prog.proofs.naming.list_takes.Given as goal

abbrev pub invariant-loop-action : goal.invariant-loop-action
invariant-loop-action l = l.list.items ++ take_nets (drop l.action-index l.actions) ≡ l.fn.list.items ++ take_nets l.actions
