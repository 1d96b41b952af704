use Rattle.std.proofs.Common.{◌<◌, ℕ, List, length, get_or, sym, ◌∙◌, ap, subst, arith, min}
use Rattle.vw_design.specs.declared.item.Item.{Item}
use Rattle.vw_design.specs.declared.model.Model.{Model}
use Rattle.vw_design.specs.Paths.{items_of}
use Rattle.vw_models.proofs.Models.{each_model}
use Rattle.vw_instances.specs.Steps.Counting.{most, amount, count_in}
use Rattle.vw_instances.proofs.Alongside.{along_at}
use Rattle.vw_models.proofs.NumberedModels.{model_at_place}
use Rattle.vw_instances.proofs.Filling.{nothing_filled, order_within, filled_more, all_filled}
use Rattle.vw_instances.proofs.amounts.counts_of.Goals as goal

-- nothing is filled in at first
pub loop-number-init : goal.loop-number-init
loop-number-init c =
    nothing_filled c.args.targets.now.design.now c.args.order.now c.args.measure c.in_ok-counts.counts.items (length c.args.targets.now.numbers.now) (c.in_ok-counts.ensures.items_if_clones_equal (λ y same. same)) (each_model c.args.targets.now.design.now c.args.targets.now.numbers.now c.args.targets.now.are)

pub bounds-models-at : goal.bounds-models-at
bounds-models-at c =
    subst (λ (l : List Model). get_or c.args.order.now c.loop-number.number-index 0 < length l) (sym c.models.ensures)
    (order_within c.args.targets.now.design.now c.args.order.now c.requires.order c.loop-number.number-index c.loop-number-test.true)

pub bounds-targets-at : goal.bounds-targets-at
bounds-targets-at c =
    let inside = order_within c.args.targets.now.design.now c.args.order.now c.requires.order c.loop-number.number-index c.loop-number-test.true in
    omega (arith, inside, each_model c.args.targets.now.design.now c.args.targets.now.numbers.now c.args.targets.now.are)

pub index_mut-requires : goal.index_mut-requires
index_mut-requires c =
    let inside = order_within c.args.targets.now.design.now c.args.order.now c.requires.order c.loop-number.number-index c.loop-number-test.true in
    omega (arith, inside, c.loop-number.invariant.each)

-- the model's items and their numbers
pub amount_of-requires-clause-targets : goal.amount_of-requires-clause-targets
amount_of-requires-clause-targets c =
    let design = c.args.targets.now.design.now in
    let at = get_or c.args.order.now c.loop-number.number-index 0 in
    let inside = order_within design c.args.order.now c.requires.order c.loop-number.number-index c.loop-number-test.true in
    let stands = model_at_place design.models c.models.result.now at c.index-models-at.result c.models.ensures (subst (λ (l : List Model). at < length l) (sym c.models.ensures) inside) c.index-models-at.is in
    along_at design c.args.targets.now.numbers.now at c.index-models-at.result c.args.targets.now.are stands c.index-targets-at.result c.as_slice.result.now c.as_slice.ensures c.items-items.result.now c.items-items.ensures

pub loop-number-preserved : goal.loop-number-preserved
loop-number-preserved c =
    let design = c.args.targets.now.design.now in
    let order = c.args.order.now in
    let i = c.loop-number.number-index in
    let at = get_or order i 0 in
    let counts = c.loop-number.counts.items in
    let inside = order_within design order c.requires.order i c.loop-number-test.true in
    let stands = model_at_place design.models c.models.result.now at c.index-models-at.result c.models.ensures (subst (λ (l : List Model). at < length l) (sym c.models.ensures) inside) c.index-models-at.is in
    filled_more design order c.requires.order c.args.measure counts i c.loop-number-test.true c.loop-number.invariant c.amount_of.result
    (c.amount_of.ensures
    ∙ ap (λ (l : List ℕ). min most (amount c.args.measure (count_in design l) c.items-items.result.now)) c.as_slice-in-loop-number.ensures.value
    ∙ ap (λ (items : List Item). min most (amount c.args.measure (count_in design counts) items)) (c.items-items.ensures ∙ sym (ap items_of stands)))

pub returns : goal.returns
returns c = all_filled c.args.targets.now.design.now c.args.order.now c.requires.order c.args.measure c.loop-number.counts.items c.loop-number.number-index c.loop-number-test.false c.loop-number.invariant
