use Rattle.vw_models.specs.Steps.Formals.{AreFormals}
use Rattle.vw_models.proofs.formals.all_formals.Goals as goal
use Rattle.vw_design.proofs.PairedLists.{AllZip-take_more}

-- one more model
pub loop-model-preserved : goal.loop-model-preserved
loop-model-preserved c =
    AllZip-take_more AreFormals c.models-model-items.result.now c.loop-model.model-index c.model-item.result c.loop-model-test.true c.model-item.is
    c.loop-model.formals.items c.loop-model.invariant c.in_ok-formals_of.field-0 c.in_ok-formals_of.ensures c.push.new.self.items c.in_ok-push.ensures.items
