use Rattle.std.proofs.Common.{◌≡◌, ◌+◌, ℕ, List, Option, drop, length, refl, sym, ◌∙◌, ap, subst, arith}
use Rattle.vw_models.proofs.Unknowns.{AreAlong}
use Rattle.vw_instances.specs.declared.sizes.Before.{Before}
use Rattle.vw_instances.specs.declared.measure.Measure.TheVariants.{Instances, Cells}
use Rattle.vw_instances.specs.Steps.Counting.{count_at, count_in, target_in, IsWithinModels, AreEntries}
use Rattle.vw_instances.proofs.Alongside.{next}
use Rattle.vw_instances.proofs.Prefixes.{ArePrefixes, none, one_more, all}
use Rattle.vw_instances.proofs.ItemAmounts.{amount_more}
use Rattle.vw_instances.proofs.entries.entries_of.Goals as goal

-- the next item, and its number
pub loop-item-preserved : goal.loop-item-preserved
loop-item-preserved c =
    let design = c.args.design.now in
    let tables = c.args.tables.now in
    let cells = tables.cells.items in
    let instances = tables.instances.items in
    let items = c.args.items.now in
    let targets = c.args.targets.now in
    let i = c.loop-item.item-index in
    let place = c.loop-item.place in
    let item = c.item-item.result in
    let kept = c.loop-item.invariant in
    let step = next design cells c.requires.cells items targets i place item c.loop-item-test.true c.item-item.is kept.within kept.left in
    let other = next design instances c.requires.instances items targets i place item c.loop-item-test.true c.item-item.is kept.within kept.left in
    record {
      within = omega (arith, step.inside, c.places-place.ensures);
      left = subst (λ (n : ℕ). AreAlong design (drop (i + 1) items) (drop (place + n) targets)) (sym c.places-place.ensures) step.rest;
      cells = amount_more Cells (count_in design cells) items i item c.loop-item-test.true c.item-item.is
          c.loop-item.cells c.count_at-more_cells.result c.of_item.result c.merge-cells.result kept.cells
          (c.count_at-more_cells.ensures ∙ ap (λ (l : List ℕ). count_at l c.target_in-target.result) c.as_slice.ensures.value ∙ ap (count_at cells) c.target_in-target.ensures ∙ step.below)
          c.of_item.ensures c.merge-cells.ensures;
      instances = amount_more Instances (count_in design instances) items i item c.loop-item-test.true c.item-item.is
          c.loop-item.instances c.count_at-more.result c.of_item-in-loop-item.result c.merge-instances.result kept.instances
          (c.count_at-more.ensures ∙ ap (λ (l : List ℕ). count_at l c.target_in-target.result) c.as_slice-in-loop-item.ensures.value ∙ ap (count_at instances) c.target_in-target.ensures ∙ other.below)
          c.of_item-in-loop-item.ensures c.merge-instances.ensures;
      entries = one_more design tables items c.loop-item.entries.items i (record { cells = c.loop-item.cells; instances = c.loop-item.instances }) c.push.new.self.items kept.entries kept.cells kept.instances c.in_ok-push.ensures.items;
    }

pub loop-item-init : goal.loop-item-init
loop-item-init c =
    let design = c.args.design.now in
    let tables = c.args.tables.now in
    let items = c.args.items.now in
    record {
      within = omega arith;
      left = c.requires.targets;
      cells = refl;
      instances = refl;
      entries = subst (λ (list : List Before). ArePrefixes design tables items list 0) (sym c.in_ok-entries.ensures.items) (none design tables items);
    }

pub returns : goal.returns
returns c =
    let design = c.args.design.now in
    let tables = c.args.tables.now in
    let items = c.args.items.now in
    let entries = c.loop-item.entries.items in
    let end : c.loop-item.item-index ≡ length items = omega (arith, c.loop-item-test.false) in
    subst (AreEntries design tables items) (sym c.of.ensures) (all design tables items entries c.loop-item.item-index end c.loop-item.invariant.entries)

pub target_in-target-requires : goal.target_in-target-requires
target_in-target-requires c =
    let step = next c.args.design.now c.args.tables.now.cells.items c.requires.cells c.args.items.now c.args.targets.now c.loop-item.item-index c.loop-item.place c.item-item.result c.loop-item-test.true c.item-item.is
    c.loop-item.invariant.within c.loop-item.invariant.left in
    step.inside

pub count_at-more_cells-requires : goal.count_at-more_cells-requires
count_at-more_cells-requires c =
    let step = next c.args.design.now c.args.tables.now.cells.items c.requires.cells c.args.items.now c.args.targets.now c.loop-item.item-index c.loop-item.place c.item-item.result c.loop-item-test.true c.item-item.is
    c.loop-item.invariant.within c.loop-item.invariant.left in
    let target = target_in c.args.targets.now c.loop-item.place c.item-item.result in
    subst (λ (t : Option ℕ). IsWithinModels (length c.as_slice.result.now) t) (sym c.target_in-target.ensures)
    (subst (λ (l : List ℕ). IsWithinModels (length l) target) (sym c.as_slice.ensures.value) step.within)

pub count_at-more-requires : goal.count_at-more-requires
count_at-more-requires c =
    let step = next c.args.design.now c.args.tables.now.instances.items c.requires.instances c.args.items.now c.args.targets.now c.loop-item.item-index c.loop-item.place c.item-item.result c.loop-item-test.true c.item-item.is
    c.loop-item.invariant.within c.loop-item.invariant.left in
    let target = target_in c.args.targets.now c.loop-item.place c.item-item.result in
    subst (λ (t : Option ℕ). IsWithinModels (length c.as_slice-in-loop-item.result.now) t) (sym c.target_in-target.ensures)
    (subst (λ (l : List ℕ). IsWithinModels (length l) target) (sym c.as_slice-in-loop-item.ensures.value) step.within)
