use Rattle.std.proofs.Common.{sym, subst}
use Rattle.vw_models.specs.ModelOrders.{IsModelAnswer}
use Rattle.vw_elab.proofs.models.order_of_models.Goals as goal

pub returns-in-Circle : goal.returns-in-Circle
returns-in-Circle c = record { order = (sym c.in_default.ensures, subst (IsModelAnswer c.args.targets.now.design.now) c.in-Circle.is c.in_ok-names.ensures) }
