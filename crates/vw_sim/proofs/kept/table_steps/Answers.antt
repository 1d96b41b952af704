use Rattle.std.proofs.Common.{◌≡◌, ◌<◌, ◌+◌, ℕ, length, get_or, slice_get, Some, ap, ap₂, sym, ◌∙◌, arith}
use Rattle.vw_net.specs.declared.flat.Flat.{Flat}
use Rattle.vw_net.proofs.GatheredLists.{mapped_more}
use Rattle.vw_net.proofs.ReadyNets.{order_cell, order_within}
use Rattle.vw_sim.specs.Steps.Tables.{table_step, table_steps}
use Rattle.vw_sim.proofs.kept.table_steps.Goals as goal

-- the number of a gate is below the number of cells
pub bounds-cells-number : goal.bounds-cells-number
bounds-cells-number g c =
    let ordered = c.args.ordered.now in
    let place = c.loop-number.number-index in
    let within : place < length ordered.order = omega (arith, ap length c.order-number-items.ensures) in
    let number : get_or c.order-number-items.result.now place 0 ≡ get_or ordered.order place 0 = cc in
    let cells : length c.cells-cells.result.now ≡ length ordered.flat.cells = cc in
    omega (arith, order_within ordered.is_order place within)

-- and there are few inputs and few cells
pub overflow_add-first : goal.overflow_add-first
overflow_add-first g c =
    let ordered = c.args.ordered.now in
    let place = c.loop-number.number-index in
    let within : place < length ordered.order = omega (arith, ap length c.order-number-items.ensures) in
    let number : get_or c.order-number-items.result.now place 0 ≡ get_or ordered.order place 0 = cc in
    let inputs = c.inputs-first.ensures ∙ ap (λ (flat : Flat). flat.inputs) c.flat-flat.ensures in
    omega (arith, order_within ordered.is_order place within, inputs, ordered.flat.few_inputs, ordered.flat.few_cells)

-- one more gate is kept
pub loop-number-preserved : goal.loop-number-preserved
loop-number-preserved g c =
    let cells = c.cells-cells.result.now in
    let order = c.order-number-items.result.now in
    let place = c.loop-number.number-index in
    let ordered = c.args.ordered.now in
    let first = c.inputs-first.result in
    let within : place < length ordered.order = omega (arith, ap length c.order-number-items.ensures) in
    let number : get_or order place 0 ≡ get_or ordered.order place 0 = cc in
    let same : cells ≡ ordered.flat.cells = cc in
    let here = order_cell ordered.is_order place _ _ _ within c.order-number-items.ensures same c.index-cells-number.is in
    let there : slice_get cells (get_or order place 0) ≡ Some c.index-cells-number.result = ap₂ slice_get same number ∙ here in
    mapped_more (λ (n : ℕ). table_step g.row.N (first + n) (slice_get cells n)) order place 0 c.loop-number.steps.items c.push.new.self.items (table_steps g.row.N first cells order) c.table_step-step.result c.loop-number-test.true (c.table_step-step.ensures ∙ ap (table_step g.row.N (first + get_or order place 0)) (sym there)) c.in_ok-push.ensures.items c.loop-number.invariant
