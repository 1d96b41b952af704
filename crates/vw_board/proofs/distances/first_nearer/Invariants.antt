-- no node so far is nearer
use Rattle.vw_board.specs.Steps.Nearer.{HasNoneNearer}
use Rattle.vw_board.proofs.distances.first_nearer.Given as goal

abbrev pub invariant-loop-node : goal.invariant-loop-node
invariant-loop-node l = HasNoneNearer l.links l.distances l.from l.node
