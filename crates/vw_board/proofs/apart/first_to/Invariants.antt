-- something is noted for the nodes so far
use Rattle.vw_board.specs.Steps.NotedPairs.{AreAllFrom}
use Rattle.vw_board.proofs.apart.first_to.Given as goal

abbrev pub invariant-loop-to : goal.invariant-loop-to
invariant-loop-to l = AreAllFrom l.lists l.from l.to
