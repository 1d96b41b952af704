use Rattle.vw_order.proofs.NoCircle.{no_circle}
use Rattle.vw_order.proofs.search_laws.order_excludes_circle.Goals as goal

-- along a circle places in the order would fall
pub returns : goal.returns
returns c = λ graph order is_order. no_circle graph order is_order.behind
