-- the distances of the nodes so far
use Rattle.vw_board.specs.Steps.Tables.{DistancesSoFar}
use Rattle.vw_board.proofs.distances.distances_to.Given as goal

abbrev pub invariant-loop-links : goal.invariant-loop-links
invariant-loop-links l = DistancesSoFar l.board l.to l.links-index l.distances.items
