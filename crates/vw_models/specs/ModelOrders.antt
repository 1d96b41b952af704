-- What is answered of the models that are reached.
use Rattle.vw_design.specs.declared.design.Design.{Design}
use Rattle.vw_design.specs.ModelFaults.{IsModelCircle}
use Rattle.vw_design.specs.ModelNumbers.{IsModelOrder}
use Rattle.vw_models.specs.declared.order.ModelOrder.{ModelOrder}
use Rattle.vw_models.specs.declared.order.ModelOrder.TheVariants.{Order, Circle}

-- an order of them, or a circle
abbrev pub IsModelAnswer : Design → ModelOrder → Type 0
IsModelAnswer design (Order order) = IsModelOrder design order
IsModelAnswer design (Circle names) = IsModelCircle design names
