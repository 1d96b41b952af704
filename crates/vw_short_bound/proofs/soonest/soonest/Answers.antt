use Rattle.std.proofs.Common.{◌≡◌, ◌<◌, ◌+◌, ℕ, List, length, get_or, set, slice_index, ap, sym, subst, arith}
use Rattle.vw_net.proofs.ReadyNets.{order_within}
use Rattle.vw_bound.specs.Given.{design_in}
use Rattle.vw_short_bound.proofs.SoonestNets.{IsSoonSoFar, soon_next}
use Rattle.vw_short_bound.proofs.soonest.soonest.Goals as goal

-- the number of a gate is below the number of cells
pub bounds-placed-number : goal.bounds-placed-number
bounds-placed-number c =
    let placed = c.args.placed.now in
    let order = placed.ordered.now.order in
    let place = c.loop-number.number-index in
    let within : place < length order = omega (arith, ap length c.order-number-items.ensures) in
    let number : get_or c.order-number-items.result.now place 0 ≡ get_or order place 0 = cc in
    omega (arith, number, order_within placed.ordered.now.is_order place within, placed.each)

pub work_out-requires-clause-number : goal.work_out-requires-clause-number
work_out-requires-clause-number c =
    let placed = c.args.placed.now in
    let order = placed.ordered.now.order in
    let place = c.loop-number.number-index in
    let within : place < length order = omega (arith, ap length c.order-number-items.ensures) in
    let number : get_or c.order-number-items.result.now place 0 ≡ get_or order place 0 = cc in
    omega (arith, number, order_within placed.ordered.now.is_order place within)

-- both tables have a place for it
pub index_mut-requires : goal.index_mut-requires
index_mut-requires c =
    let placed = c.args.placed.now in
    let order = placed.ordered.now.order in
    let place = c.loop-number.number-index in
    let within : place < length order = omega (arith, ap length c.order-number-items.ensures) in
    let number : get_or c.order-number-items.result.now place 0 ≡ get_or order place 0 = cc in
    let inputs : c.inputs-inputs.result ≡ placed.ordered.now.flat.inputs = cc in
    let nets = c.loop-number.invariant.nets in
    omega (arith, number, inputs, order_within placed.ordered.now.is_order place within, nets)

pub index_mut-requires-in-loop-number : goal.index_mut-requires-in-loop-number
index_mut-requires-in-loop-number c =
    let placed = c.args.placed.now in
    let order = placed.ordered.now.order in
    let place = c.loop-number.number-index in
    let within : place < length order = omega (arith, ap length c.order-number-items.ensures) in
    let number : get_or c.order-number-items.result.now place 0 ≡ get_or order place 0 = cc in
    let cells = c.loop-number.invariant.cells in
    omega (arith, number, order_within placed.ordered.now.is_order place within, cells)

-- a gate that is worked out has its time and its row
pub loop-number-preserved : goal.loop-number-preserved
loop-number-preserved c =
    let placed = c.args.placed.now in
    let design = design_in placed in
    let order = placed.ordered.now.order in
    let place = c.loop-number.number-index in
    let within : place < length order = omega (arith, ap length c.order-number-items.ensures) in
    let own = slice_index c.order-number-items.result.now place in
    let number : own ≡ get_or order place 0 = cc in
    let inputs : c.inputs-inputs.result ≡ placed.ordered.now.flat.inputs = cc in
    let inside : own < length placed.ordered.now.flat.cells = omega (arith, number, order_within placed.ordered.now.is_order place within) in
    let net : c.inputs-inputs.result + own ≡ placed.ordered.now.flat.inputs + own = ap (λ (n : ℕ). n + own) inputs in
    subst (λ (row : List ℕ). IsSoonSoFar design c.args.tables.now (set c.loop-number.soon.items (c.inputs-inputs.result + own) c.in_ok-time.time) (set c.loop-number.rows.items own row)) (sym c.of.ensures)
    (soon_next design c.args.tables.now c.loop-number.soon.items c.loop-number.rows.items own (c.inputs-inputs.result + own) c.in_ok-time.time c.in_ok-time.row.items inside net c.in_ok-time.ensures c.loop-number.invariant)
