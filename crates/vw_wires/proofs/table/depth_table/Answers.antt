use Rattle.std.proofs.Common.{◌≡◌, ◌<◌, ◌≤◌, ◌+◌, ℕ, length, get_or, ap, ap₂, ◌∙◌, arith}
use Rattle.vw_wires.proofs.DepthTable.{KeepsDepths, all_right, more_kept, same_depth}
use Rattle.vw_net.proofs.ReadyNets.{order_within}
use Rattle.vw_wires.proofs.table.depth_table.Goals as goal

-- the gate's net is one of fewer than 2 ^ 17
pub overflow_add-net : goal.overflow_add-net
overflow_add-net c =
    let ordered = c.args.ordered.now in
    let place = c.loop-number.number-index in
    let within : place < length ordered.order = omega (arith, ap length c.order-number-items.ensures) in
    let number : get_or c.order-number-items.result.now place 0 ≡ get_or ordered.order place 0 = cc in
    let inputs : c.inputs-in-loop-number.result ≡ ordered.flat.inputs = cc in
    omega (arith, order_within ordered.is_order place within, ordered.flat.few_inputs, ordered.flat.few_cells)

-- and the table has a place for it
pub index_mut-requires : goal.index_mut-requires
index_mut-requires c =
    let ordered = c.args.ordered.now in
    let place = c.loop-number.number-index in
    let within : place < length ordered.order = omega (arith, ap length c.order-number-items.ensures) in
    let number : get_or c.order-number-items.result.now place 0 ≡ get_or ordered.order place 0 = cc in
    let inputs : c.inputs-in-loop-number.result ≡ ordered.flat.inputs = cc in
    omega (arith, order_within ordered.is_order place within, c.loop-number.invariant.long)

-- the gate's net has its depth, since those that it reads have theirs
pub loop-number-preserved : goal.loop-number-preserved
loop-number-preserved c =
    let ordered = c.args.ordered.now in
    let chip_of = c.args.chip_of.now in
    let place = c.loop-number.number-index in
    let table = c.loop-number.table.items in
    let within : place < length ordered.order = omega (arith, ap length c.order-number-items.ensures) in
    let number : get_or c.order-number-items.result.now place 0 ≡ get_or ordered.order place 0 = cc in
    let inputs : c.inputs-in-loop-number.result ≡ ordered.flat.inputs = cc in
    let net : c.inputs-in-loop-number.result + get_or c.order-number-items.result.now place 0 ≡ ordered.flat.inputs + get_or ordered.order place 0 = ap₂ (λ (first second : ℕ). first + second) inputs number in
    let value = c.depth_of_cell-depth.ensures ∙ same_depth c.flat-flat.result.now ordered.flat chip_of c.as_slice.result.now table _ _ _ _ c.flat-flat.ensures c.as_slice.ensures.value number net in
    let before : KeepsDepths ordered chip_of (c.depths_follow_drivers.ensures ordered chip_of) _ table = record { long = c.loop-number.invariant.long; low = c.loop-number.invariant.low; right = c.loop-number.invariant.right } in
    let after = more_kept ordered chip_of (c.depths_follow_drivers.ensures ordered chip_of) place table _ _ within (c.depths_are_small.ensures ordered.flat chip_of) net value before in
    record { long = after.long; low = after.low; right = after.right }

-- when the whole order is done, every net is ready
pub returns : goal.returns
returns c =
    let ordered = c.args.ordered.now in
    let chip_of = c.args.chip_of.now in
    let whole : length ordered.order ≤ c.loop-number.number-index = omega (arith, ap length c.order-number-items.ensures) in
    record {
      nets = c.loop-number.invariant.long;
      depths = all_right ordered chip_of (c.depths_follow_drivers.ensures ordered chip_of) c.loop-number.number-index c.loop-number.table.items whole c.loop-number.invariant.long c.loop-number.invariant.right;
    }
