use Rattle.std.proofs.Common.{[], ◌∷◌, ◌++◌, Option, None, ◌∙◌, ap, refl}
use Rattle.vw_net.proofs.GatheredLists.{mapped_more}
use Rattle.vw_drivers.specs.declared.model_names.Way.TheVariants.{Output}
use Rattle.vw_drivers.specs.declared.source.Source.{Source}
use Rattle.vw_drivers.specs.Steps.FoundDrivers.{output_led}
use Rattle.vw_drivers.proofs.outputs.outputs_row.Goals as goal

pub loop-way-preserved : goal.loop-way-preserved
loop-way-preserved c =
    mapped_more (output_led c.args.tables.now c.args.outputs.now c.args.instance) c.ways_into-ways.result.now c.loop-way.way-index (Output None)
    c.loop-way.row.items c.push.new.self.items _ _ c.loop-way-test.true refl
    (c.in_ok-push.ensures.items ∙ ap (λ (one : Option Source). c.loop-way.row.items ++ one ∷ []) c.output_at.ensures) c.loop-way.invariant
