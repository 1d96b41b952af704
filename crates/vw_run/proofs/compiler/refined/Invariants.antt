-- the best plan so far is good
use Rattle.vw_plan.specs.Good.{IsGood}
use Rattle.vw_plan.specs.PlannedBoard.{planned_board}
use Rattle.vw_run.proofs.compiler.refined.Given as goal

abbrev pub invariant-loop-round : goal.invariant-loop-round
invariant-loop-round l = record { good : IsGood (planned_board l.ordered l.board l.best) }
