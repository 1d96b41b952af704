-- the steps of the nodes so far
use Rattle.vw_board.specs.Steps.Tables.{StepsSoFar}
use Rattle.vw_board.proofs.distances.steps_to.Given as goal

abbrev pub invariant-loop-from : goal.invariant-loop-from
invariant-loop-from l = StepsSoFar l.board l.to l.from l.steps.items
