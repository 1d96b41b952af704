-- Places in the order of the gates.
use Rattle.std.proofs.Common.{◌≤◌, length, arith}
use Rattle.vw_net.specs.declared.ordered.Ordered.{Ordered}
use Rattle.vw_net.proofs.Orders.{length-order}

-- there are no more places than cells
pub few_places : (ordered : Ordered) → length ordered.order ≤ 65536
few_places ordered = omega (arith, length-order ordered.flat.inputs ordered.flat.cells ordered.order ordered.is_order, ordered.flat.few_cells)
