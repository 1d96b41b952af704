use Rattle.std.proofs.Common.{◌<◌, List, length, subst, sym, ◌∙◌, arith}
use Rattle.std.proofs.lemmas.List.{get_or_default}
use Rattle.vw_design.specs.declared.model.Model.{Model}
use Rattle.vw_models.proofs.NumberedModels.{model_at_place}
use Rattle.vw_instances.proofs.RootQuantities.{inputs_are, outputs_are, instances_are, bindings_are, cells_are, depth_is}
use Rattle.vw_instances.proofs.totals.totals_of.Goals as goal

-- each from the root's counts
pub returns : goal.returns
returns c =
    let design = c.args.design.now in
    let root = c.index-models-0.result in
    let ranked = c.requires.ranked in
    let some : 0 < length design.models = design.some in
    let within : 0 < length c.models.result.now = subst (λ (l : List Model). 0 < length l) (sym c.models.ensures) design.some in
    let is = model_at_place design.models c.models.result.now 0 root c.models.ensures within c.index-models-0.is in
    record {
      inputs = inputs_are design root is ranked c.in_ok-input_count.field-0 c.in_ok-input_count.ensures;
      outputs = outputs_are design root is ranked c.outputs.result.now c.outputs.ensures;
      instances = instances_are design root is ranked c.args.tables.now.instances.items c.requires.instances c.index.result.now (c.index.ensures ∙ get_or_default c.args.tables.now.instances.items 0 c.index.result.now 0 (omega (arith, c.requires.instances.each, some)));
      bindings = bindings_are design root is ranked c.args.tables.now.bindings.items c.requires.bindings c.index-2.result.now (c.index-2.ensures ∙ get_or_default c.args.tables.now.bindings.items 0 c.index-2.result.now 0 (omega (arith, c.requires.bindings.each, some)));
      cells = cells_are design root is ranked c.args.tables.now.cells.items c.requires.cells c.index-3.result.now (c.index-3.ensures ∙ get_or_default c.args.tables.now.cells.items 0 c.index-3.result.now 0 (omega (arith, c.requires.cells.each, some)));
      depth = depth_is design root is ranked c.args.tables.now.levels.items c.requires.levels c.index-4.result.now (c.index-4.ensures ∙ get_or_default c.args.tables.now.levels.items 0 c.index-4.result.now 0 (omega (arith, c.requires.levels.each, some)));
    }
