use Rattle.std.proofs.Common.{List, ℕ}
use Rattle.vw_design.specs.declared.design.Design.{Design}
use Rattle.vw_design.specs.ModelNumbers.{IsModelOrder}
use Rattle.vw_elab.specs.declared.fault.DesignFault.TheVariants.{NoMemory}
use Rattle.vw_elab.specs.Steps.FaultSearch.{HasBindings}
use Rattle.vw_elab.proofs.RefusedDesigns.{judged_by}
use Rattle.vw_elab.proofs.models.checked_order.Goals as goal

abbrev IsChecked : Design → List ℕ → Type 0
IsChecked design order = IsModelOrder design order × HasBindings design

pub returns-in_err-flags : goal.returns-in_err-flags
returns-in_err-flags c = judged_by c.args.targets.now.design.now (IsChecked c.args.targets.now.design.now) c.from_residual.result NoMemory c.from_residual.ensures tt

pub returns-in_err-order : goal.returns-in_err-order
returns-in_err-order c =
    judged_by c.args.targets.now.design.now (IsChecked c.args.targets.now.design.now) c.from_residual-in_err-order.result c.in_err-order.field-0.0 c.from_residual-in_err-order.ensures c.in_err-order.ensures.order

pub returns-in_err-check_bindings : goal.returns-in_err-check_bindings
returns-in_err-check_bindings c =
    judged_by c.args.targets.now.design.now (IsChecked c.args.targets.now.design.now) c.from_residual-in_err-check_bindings.result c.in_err-check_bindings.field-0.0
    c.from_residual-in_err-check_bindings.ensures c.in_err-check_bindings.ensures

pub returns : goal.returns
returns c = (c.in_ok-order.ensures.order.0, c.in_ok-check_bindings.ensures)
