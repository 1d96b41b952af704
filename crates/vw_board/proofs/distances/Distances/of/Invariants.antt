-- the lists so far
use Rattle.vw_board.specs.Steps.Tables.{TableSoFar}
use Rattle.vw_board.proofs.distances.Distances.of.Given as goal

abbrev pub invariant-loop-to : goal.invariant-loop-to
invariant-loop-to l = TableSoFar l.board l.to l.distances.items l.steps.items
