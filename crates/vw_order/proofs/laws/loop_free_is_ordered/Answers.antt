use Rattle.std.proofs.Common.{⊎_elim}
use Rattle.vw_order.specs.Steps.Gates.{gates}
use Rattle.vw_order.proofs.Inputs.{within}
use Rattle.vw_order.proofs.OrderedGates.{is_order}
use Rattle.vw_order.proofs.Loops.{is_loop}
use Rattle.vw_order.proofs.laws.loop_free_is_ordered.Goals as goal

-- an order of the gates as numbers is one of the gates, and a circle of them would be a loop
pub returns : goal.returns
returns c = λ flat free. ⊎_elim
    (λ found. (found.0, is_order flat found.0 found.1))
    (λ circle. absurd (free circle.0 (is_loop flat circle.0 circle.1 circle.2)))
    (c.order_or_circle.ensures (gates flat) (within flat))
