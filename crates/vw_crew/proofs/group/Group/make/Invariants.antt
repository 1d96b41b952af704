use Rattle.std.proofs.Common.{◌-◌}
use Rattle.vw_crew.proofs.Filling.{IsFilling}
use Rattle.vw_crew.proofs.group.Group.make.Given as goal

abbrev pub invariant-loop-node : goal.invariant-loop-node
invariant-loop-node g l = IsFilling l.fn.job l.fn.groups l.fn.number l.node l.nodes.items l.ends.items

abbrev pub decreases-loop-node : goal.decreases-loop-node
decreases-loop-node g l = l.all - l.node
