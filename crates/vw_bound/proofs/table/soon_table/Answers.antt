use Rattle.std.proofs.Common.{◌≡◌, ◌<◌, ◌≤◌, ◌+◌, ◌∙◌, ℕ, [], length, take, get_or, ap, ap₂, arith}
use Rattle.vw_net.specs.declared.flat.Flat.{Flat}
use Rattle.vw_net.proofs.ReadyNets.{order_within}
use Rattle.vw_bound.specs.Given.{design_in}
use Rattle.vw_bound.proofs.SoonTables.{KeepsTimes, all_times, more_kept, same_cell, start_kept}
use Rattle.vw_bound.proofs.table.soon_table.Goals as goal

-- before any gate all times are 0
pub loop-number-init : goal.loop-number-init
loop-number-init c =
    let placed = design_in c.args.placed.now in
    let kept : KeepsTimes placed [] c.in_ok-table.table.items = start_kept placed c.in_ok-table.table.items (c.inputs-inputs.result + length c.cells.result.now) (c.in_ok-table.ensures.items_if_clones_equal (λ y same. same)) (ap₂ (λ (first second : ℕ). first + second) (c.inputs-inputs.ensures ∙ ap (λ (flat : Flat). flat.inputs) c.flat-flat.ensures) (ap length (c.cells.ensures ∙ ap (λ (flat : Flat). flat.cells) c.flat-flat.ensures))) in
    record { long = kept.long; low = kept.low; right = kept.right }

-- the number of a gate is below the number of cells
pub soon_of_cell-time-requires-clause-number : goal.soon_of_cell-time-requires-clause-number
soon_of_cell-time-requires-clause-number c =
    let placed = design_in c.args.placed.now in
    let place = c.loop-number.number-index in
    let within : place < length placed.ordered.order = omega (arith, ap length c.order-number-items.ensures) in
    let number : get_or c.order-number-items.result.now place 0 ≡ get_or placed.ordered.order place 0 = cc in
    omega (arith, order_within placed.ordered.is_order place within)

-- and the table has a place for its net
pub index_mut-requires : goal.index_mut-requires
index_mut-requires c =
    let placed = design_in c.args.placed.now in
    let place = c.loop-number.number-index in
    let within : place < length placed.ordered.order = omega (arith, ap length c.order-number-items.ensures) in
    let number : get_or c.order-number-items.result.now place 0 ≡ get_or placed.ordered.order place 0 = cc in
    let inputs : c.inputs-inputs.result ≡ placed.ordered.flat.inputs = cc in
    omega (arith, order_within placed.ordered.is_order place within, c.loop-number.invariant.long)

-- the gate's net has its time, since those that it reads have theirs
pub loop-number-preserved : goal.loop-number-preserved
loop-number-preserved c =
    let placed = design_in c.args.placed.now in
    let place = c.loop-number.number-index in
    let table = c.loop-number.table.items in
    let within : place < length placed.ordered.order = omega (arith, ap length c.order-number-items.ensures) in
    let number : get_or c.order-number-items.result.now place 0 ≡ get_or placed.ordered.order place 0 = cc in
    let inputs : c.inputs-inputs.result ≡ placed.ordered.flat.inputs = cc in
    let net = ap₂ (λ (first second : ℕ). first + second) inputs number in
    let value = c.soon_of_cell-time.ensures ∙ same_cell placed c.as_slice.result.now table _ _ c.as_slice.ensures.value number in
    let before : KeepsTimes placed (take place placed.ordered.order) table = record { long = c.loop-number.invariant.long; low = c.loop-number.invariant.low; right = c.loop-number.invariant.right } in
    let after = more_kept placed place table _ _ within net value before in
    record { long = after.long; low = after.low; right = after.right }

-- when the whole order is done, every net is ready
pub returns : goal.returns
returns c =
    let placed = design_in c.args.placed.now in
    let whole : length placed.ordered.order ≤ c.loop-number.number-index = omega (arith, ap length c.order-number-items.ensures) in
    all_times placed c.loop-number.number-index c.loop-number.table.items whole (record { long = c.loop-number.invariant.long; low = c.loop-number.invariant.low; right = c.loop-number.invariant.right })
