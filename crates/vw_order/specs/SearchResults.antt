-- What a search finds.
use Rattle.vw_order.specs.declared.depth_first.Found.{Found}
use Rattle.vw_order.specs.declared.depth_first.Found.TheVariants.{Order, Circle}
use Rattle.vw_order.specs.Graphs.{Graph}
use Rattle.vw_order.specs.Orders.{IsNumberOrder}
use Rattle.vw_order.specs.Circles.{IsNumberCircle, BeginsWithLeast}

-- an order, or a circle that begins with its least number
abbrev pub IsFound : Graph → Found → Type 0
IsFound graph (Order order) = IsNumberOrder graph order.items
IsFound graph (Circle circle) = IsNumberCircle graph circle.items × BeginsWithLeast circle.items
