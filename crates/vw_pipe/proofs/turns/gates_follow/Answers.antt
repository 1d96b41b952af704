use Rattle.std.proofs.Common.{◌≡◌, ◌<◌, get_or, length, ap, arith}
use Rattle.vw_net.proofs.ReadyNets.{order_within}
use Rattle.vw_pipe.proofs.turns.gates_follow.Goals as goal

-- the number of a gate is below the number of cells
pub is_behind-requires : goal.is_behind-requires
is_behind-requires c =
    let ordered = c.args.given.now.ordered.now in
    let place = c.loop-number.number-index in
    let within : place < length ordered.order = omega (arith, ap length c.order-number-items.ensures) in
    let number : get_or c.order-number-items.result.now place 0 ≡ get_or ordered.order place 0 = cc in
    omega (arith, order_within ordered.is_order place within)
