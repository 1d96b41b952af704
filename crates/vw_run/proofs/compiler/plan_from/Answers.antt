use Rattle.vw_run.proofs.GoodPlans.{good_plan}
use Rattle.vw_run.proofs.compiler.plan_from.Goals as goal

pub returns-clause-good : goal.returns-clause-good
returns-clause-good c =
    let placed = c.in_ok-chip_of.ensures in
    good_plan c.args.ordered.now c.args.board.now c.in_ok-chip_of.chip_of c.in_ok-plan.plan c.in_ok-plan.ensures placed.moves placed.exchanges
