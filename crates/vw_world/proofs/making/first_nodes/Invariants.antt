use Rattle.vw_world.specs.Boards.{AreNodes}
use Rattle.vw_world.proofs.making.first_nodes.Given as goal

abbrev pub invariant-loop-node : goal.invariant-loop-node
invariant-loop-node l = AreNodes l.fn.job l.node l.nodes.items
