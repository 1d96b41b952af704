use Rattle.vw_order.proofs.OrderOrCircle.{order_or_circle}
use Rattle.vw_order.proofs.search_laws.order_or_circle.Goals as goal

-- an order grows by one number that reads nothing that is left; where there is none, a walk along what is left meets itself
pub returns : goal.returns
returns c = order_or_circle
