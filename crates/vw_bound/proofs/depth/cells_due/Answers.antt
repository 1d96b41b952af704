use Rattle.std.proofs.Common.{◌≡◌, ◌∙◌, ap, max, slice_index, arith, rules}
use Rattle.vw_net.specs.declared.flat.Flat.{Flat}
use Rattle.vw_bound.specs.Given.{design_in}
use Rattle.vw_bound.proofs.ListedNeeds.{cells_next}
use Rattle.vw_bound.proofs.depth.cells_due.Goals as goal

pub loop-number-preserved : goal.loop-number-preserved
loop-number-preserved c =
    let listed = c.cells-cell-items.ensures ∙ ap (λ (flat : Flat). flat.cells) c.flat.ensures in
    let here = rw listed at c.cell-item.is in
    let more : c.max-last.result ≡ max c.loop-number.last c.cell_due.result = search rules in
    record {
      rest = cells_next (design_in c.args.placed.now) (slice_index c.args.table.now) c.args.placed.now.ordered.now.flat.cells c.loop-number.number c.cell-item.result c.loop-number.last c.cell_due.result c.max-last.result _ (rw listed at c.loop-number-test.true) here c.cell_due.ensures.value more c.loop-number.invariant.rest;
      low = omega (arith, more, c.cell_due.ensures.low, c.loop-number.invariant.low);
    }
