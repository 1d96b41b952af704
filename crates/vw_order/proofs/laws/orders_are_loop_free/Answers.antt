use Rattle.vw_order.proofs.NoGateCircle.{no_circle}
use Rattle.vw_order.proofs.laws.orders_are_loop_free.Goals as goal

-- along a circle places in the order would fall
pub returns-clause-circles : goal.returns-clause-circles
returns-clause-circles c = no_circle

pub returns-clause-loops : goal.returns-clause-loops
returns-clause-loops c = λ flat order is_order numbers loop. no_circle flat order is_order numbers loop.circle
