use Rattle.std.proofs.Common.{◌≤◌, ℕ, List, length, ap, sym, subst, arith}
use Rattle.vw_plan.specs.Chips.{cells_on}
use Rattle.vw_pipe.proofs.Scheduled.{few_routes}
use Rattle.vw_pipe.proofs.planning.schedule.Goals as goal

pub plan_parts-parts-requires-clause-room : goal.plan_parts-parts-requires-clause-room
plan_parts-parts-requires-clause-room c = λ chip.
    subst (λ (list : List ℕ). cells_on list chip ≤ c.args.board.now.cells) (sym c.as_slice.ensures) (c.requires.room chip)

pub plan_parts-parts-requires-clause-few : goal.plan_parts-parts-requires-clause-few
plan_parts-parts-requires-clause-few c =
    let listed = c.needed_pairs_are_needed.ensures.listed in
    let few = few_routes c.args.ordered.now.flat c.args.board.now c.args.chip_of c.args.routes listed c.requires.routes in
    omega (arith, ap length c.as_slice-2.ensures, few)
