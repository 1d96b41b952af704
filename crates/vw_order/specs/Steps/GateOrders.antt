-- What a search answers of a netlist.
use Rattle.vw_net.specs.declared.flat.Flat.{Flat}
use Rattle.vw_net.specs.Order.{IsOrder}
use Rattle.vw_order.specs.declared.depth_first.Found.{Found}
use Rattle.vw_order.specs.declared.depth_first.Found.TheVariants.{Order, Circle}
use Rattle.vw_order.specs.Loops.{IsListedLoop}

-- an order of the gates, or a loop as it is listed
abbrev pub IsAnswered : Flat → Found → Type 0
IsAnswered flat (Order order) = IsOrder flat.inputs flat.cells order.items
IsAnswered flat (Circle circle) = IsListedLoop flat circle.items
