use Rattle.vw_merge.proofs.GateCells.{ordered_within}
use Rattle.vw_merge.proofs.words.gate_at.Goals as goal

-- an order has numbers of cells
pub returns : goal.returns
returns c = ordered_within c.args.ordered.now c.args.place c.order-order.result.now c.order-order.ensures c.if-place-order.false
