use Rattle.std.proofs.Common.{◌≡◌, ◌∙◌, ℕ, List, ap, max, slice_index, arith, rules}
use Rattle.std.proofs.Math.Path.{fun_ext}
use Rattle.vw_bound.specs.PlacedDesigns.{placed_design}
use Rattle.vw_bound.specs.Steps.Rooms.{IsLeastFit}
use Rattle.vw_bound.specs.Times.{depth_bound, due_by}
use Rattle.vw_bound.proofs.RisingTimes.{fits_longer}
use Rattle.vw_bound.proofs.periods.bound.Goals as goal

-- neither what the depth asks for nor what the pins need is above the period of a sound plan
pub returns-clause-bound : goal.returns-clause-bound
returns-clause-bound c plan same sound =
    let placed = placed_design c.args.ordered.now c.args.board.now c.args.chip_of.now in
    let depth : c.due-depth.result ≡ depth_bound placed = c.due-depth.ensures.value ∙ ap (λ (table : List ℕ). due_by placed (slice_index table)) c.deref.ensures.value ∙ ap (due_by placed) (fun_ext c.in_ok-table.ensures.times) in
    let pins : IsLeastFit placed c.in_ok-pins_bound.field-0 = c.in_ok-pins_bound.ensures in
    let greater : c.max.result ≡ max c.due-depth.result c.in_ok-pins_bound.field-0 = search rules in
    omega (arith, greater, depth, c.depths_bound_periods.ensures placed plan same sound, pins.least plan.period (c.pairs_fit_in_periods.ensures placed plan same sound))

pub returns-clause-pins : goal.returns-clause-pins
returns-clause-pins c =
    let placed = placed_design c.args.ordered.now c.args.board.now c.args.chip_of.now in
    let pins : IsLeastFit placed c.in_ok-pins_bound.field-0 = c.in_ok-pins_bound.ensures in
    let greater : c.max.result ≡ max c.due-depth.result c.in_ok-pins_bound.field-0 = search rules in
    fits_longer placed c.in_ok-pins_bound.field-0 c.max.result (omega (arith, greater)) pins.fits
