use Rattle.vw_models.specs.Steps.Formals.{IsBothWays}
use Rattle.vw_models.proofs.both.all_both.Goals as goal
use Rattle.vw_design.proofs.PairedLists.{AllZip-take_more}

-- one more model
pub loop-model-preserved : goal.loop-model-preserved
loop-model-preserved c =
    AllZip-take_more IsBothWays c.models-model-items.result.now c.loop-model.model-index c.model-item.result c.loop-model-test.true c.model-item.is
    c.loop-model.outputs.items c.loop-model.invariant c.in_ok-both_of.field-0 c.in_ok-both_of.ensures c.push.new.self.items c.in_ok-push.ensures.items
