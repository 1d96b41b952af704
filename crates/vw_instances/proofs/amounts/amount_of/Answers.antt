use Rattle.std.proofs.Common.{◌+◌, ℕ, drop, sym, ◌∙◌, ap, subst, arith}
use Rattle.vw_models.proofs.Unknowns.{AreAlong}
use Rattle.vw_instances.specs.Steps.Counting.{count_at, count_in}
use Rattle.vw_instances.proofs.Alongside.{next}
use Rattle.vw_instances.proofs.ItemAmounts.{amount_more}
use Rattle.vw_instances.proofs.amounts.amount_of.Goals as goal

-- the next item, and its number
pub loop-item-preserved : goal.loop-item-preserved
loop-item-preserved c =
    let design = c.args.design.now in
    let counts = c.args.counts.now in
    let items = c.args.items.now in
    let targets = c.args.targets.now in
    let i = c.loop-item.item-index in
    let place = c.loop-item.place in
    let item = c.item-item.result in
    let kept = c.loop-item.invariant in
    let step = next design counts c.requires.each items targets i place item c.loop-item-test.true c.item-item.is kept.within kept.left in
    record {
      within = omega (arith, step.inside, c.places-place.ensures);
      left = subst (λ (n : ℕ). AreAlong design (drop (i + 1) items) (drop (place + n) targets)) (sym c.places-place.ensures) step.rest;
      total = amount_more c.args.measure (count_in design counts) items i item c.loop-item-test.true c.item-item.is
          c.loop-item.total c.count_at-below.result c.of_item.result c.merge-total.result kept.total
          (c.count_at-below.ensures ∙ ap (count_at counts) c.target_in-target.ensures ∙ step.below) c.of_item.ensures c.merge-total.ensures;
    }
