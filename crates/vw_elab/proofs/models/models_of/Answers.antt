use Rattle.vw_elab.specs.declared.fault.DesignFault.TheVariants.{NoMemory}
use Rattle.vw_elab.specs.Steps.FaultSearch.{AreModelTables}
use Rattle.vw_elab.proofs.RefusedDesigns.{judged_by}
use Rattle.vw_elab.proofs.models.models_of.Goals as goal

pub returns-in_err-targets : goal.returns-in_err-targets
returns-in_err-targets c = judged_by c.args.design.now (AreModelTables c.args.design.now) c.from_residual.result NoMemory c.from_residual.ensures tt

pub returns-in_err-order : goal.returns-in_err-order
returns-in_err-order c =
    judged_by c.args.design.now (AreModelTables c.args.design.now) c.from_residual-in_err-order.result c.in_err-order.field-0.0 c.from_residual-in_err-order.ensures c.in_err-order.ensures

pub returns-in_err-sizes : goal.returns-in_err-sizes
returns-in_err-sizes c =
    judged_by c.args.design.now (AreModelTables c.args.design.now) c.from_residual-in_err-sizes.result c.in_err-sizes.field-0.0 c.from_residual-in_err-sizes.ensures c.in_err-sizes.ensures

pub returns : goal.returns
returns c = record {
  targets = c.in_ok-targets.ensures;
  sizes = c.in_ok-sizes.ensures.0;
  faultless = c.in_ok-sizes.ensures.1;
}
