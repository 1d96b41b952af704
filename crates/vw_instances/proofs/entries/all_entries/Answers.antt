use Rattle.std.proofs.Common.{◌<◌, List, length, subst, arith}
use Rattle.vw_design.specs.declared.item.Item.{Item}
use Rattle.vw_design.specs.declared.model.Model.{Model}
use Rattle.vw_design.proofs.PairedLists.{AllZip-take_more}
use Rattle.vw_models.proofs.Models.{each_model}
use Rattle.vw_instances.specs.declared.sizes.Before.{Before}
use Rattle.vw_instances.specs.Steps.Counting.{AreEntries}
use Rattle.vw_instances.proofs.Alongside.{along_at}
use Rattle.vw_models.proofs.NumberedModels.{model_at_place}
use Rattle.vw_instances.proofs.entries.all_entries.Goals as goal

pub bounds-targets-number : goal.bounds-targets-number
bounds-targets-number c =
    let inside : c.loop-number.number < length c.args.targets.now.design.now.models = subst (λ (l : List Model). c.loop-number.number < length l) c.models-model-items.ensures c.loop-number-test.true in
    omega (arith, inside, each_model c.args.targets.now.design.now c.args.targets.now.numbers.now c.args.targets.now.are)

pub entries_of-requires-clause-targets : goal.entries_of-requires-clause-targets
entries_of-requires-clause-targets c =
    let design = c.args.targets.now.design.now in
    let number = c.loop-number.number in
    let stands = model_at_place design.models c.models-model-items.result.now number c.model-item.result c.models-model-items.ensures c.loop-number-test.true c.model-item.is in
    along_at design c.args.targets.now.numbers.now number c.model-item.result c.args.targets.now.are stands c.index-targets-number.result c.as_slice.result.now c.as_slice.ensures c.items.result.now c.items.ensures

-- one more model
pub loop-number-preserved : goal.loop-number-preserved
loop-number-preserved c =
    let design = c.args.targets.now.design.now in
    let tables = c.args.tables.now in
    AllZip-take_more (λ (model : Model) (list : List Before). AreEntries design tables model.items list) c.models-model-items.result.now c.loop-number.number c.model-item.result c.loop-number-test.true c.model-item.is
    c.loop-number.entries.items c.loop-number.invariant c.in_ok-entries_of.field-0
    (subst (λ (items : List Item). AreEntries design tables items c.in_ok-entries_of.field-0) c.items.ensures c.in_ok-entries_of.ensures) c.push.new.self.items c.in_ok-push.ensures.items
