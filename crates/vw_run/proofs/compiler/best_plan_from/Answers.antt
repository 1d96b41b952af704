use Rattle.std.proofs.Common.{List, ℕ, subst}
use Rattle.vw_run.specs.GivenChips.{IsPlanFor}
use Rattle.vw_run.proofs.Fits.{same_room}
use Rattle.vw_run.proofs.GoodPlans.{good_plan}
use Rattle.vw_run.proofs.compiler.best_plan_from.Goals as goal

pub best_plan_for-requires-clause-room : goal.best_plan_for-requires-clause-room
best_plan_for-requires-clause-room c =
    same_room c.as_slice.result.now c.in_ok-chip_of.chip_of c.args.board.now.cells c.as_slice.ensures c.in_ok-chip_of.ensures.room

pub returns-clause-good : goal.returns-clause-good
returns-clause-good c =
    let ordered = c.args.ordered.now in
    let board = c.args.board.now in
    let placed = c.in_ok-chip_of.ensures in
    let plan = c.in_ok-plan.plan in
    good_plan ordered board c.in_ok-chip_of.chip_of plan (subst (λ (chips : List ℕ). IsPlanFor ordered board chips plan) c.as_slice.ensures c.in_ok-plan.ensures) placed.moves placed.exchanges
