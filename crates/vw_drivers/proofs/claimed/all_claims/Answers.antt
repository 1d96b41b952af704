use Rattle.std.proofs.Common.{List, length, ap, arith}
use Rattle.std.proofs.lemmas.Option.{slice_get_within}
use Rattle.vw_design.specs.declared.model.Model.{Model}
use Rattle.vw_drivers.proofs.Claims.{claims_more}
use Rattle.vw_drivers.proofs.claimed.all_claims.Goals as goal

pub loop-model-preserved : goal.loop-model-preserved
loop-model-preserved c =
    claims_more c.args.targets.now.design.now c.loop-model.model c.in_ok-claims_of.field-0 c.loop-model.claims.items c.push.new.self.items
    c.in_ok-claims_of.ensures c.loop-model.invariant c.in_ok-push.ensures.items

pub returns : goal.returns
returns c =
    let models = ap (λ (models : List Model). length models) c.models-model-end.ensures in record {
      count = omega (arith, c.loop-model-test.false, c.loop-model.auto.model-end, c.loop-model.invariant.long, models);
      each = λ number model at. c.loop-model.invariant.each number model (omega (arith, c.loop-model-test.false, models, slice_get_within c.args.targets.now.design.now.models number model at)) at;
    }
