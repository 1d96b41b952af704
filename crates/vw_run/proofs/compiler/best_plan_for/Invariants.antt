-- the best plan so far is one for the chips
use Rattle.vw_run.specs.GivenChips.{IsPlanFor}
use Rattle.vw_run.proofs.compiler.best_plan_for.Given as goal

abbrev pub invariant-loop-way : goal.invariant-loop-way
invariant-loop-way l = record { plan : IsPlanFor l.ordered l.board l.chip_of l.best }
