-- something is noted for the nodes so far and each node
use Rattle.vw_board.specs.Steps.NotedPairs.{AreAllThere}
use Rattle.vw_board.proofs.apart.first_apart.Given as goal

abbrev pub invariant-loop-from : goal.invariant-loop-from
invariant-loop-from l = AreAllThere l.lists l.from
