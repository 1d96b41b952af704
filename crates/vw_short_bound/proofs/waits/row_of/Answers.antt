use Rattle.std.proofs.Common.{◌∙◌, ℕ, List, ap, length, refl, slice_index, sym, subst}
use Rattle.vw_short_bound.proofs.BitRows.{written_back}
use Rattle.vw_bound.specs.Given.{design_in}
use Rattle.vw_short_bound.specs.Steps.Inlets.{RowWaits}
use Rattle.vw_short_bound.proofs.PlanFacts.{row_next}
use Rattle.vw_short_bound.proofs.waits.row_of.Goals as goal

pub loop-read-preserved : goal.loop-read-preserved
loop-read-preserved c =
    let placed = design_in c.args.placed.now in
    let nets = c.args.inlets.now.nets in
    let size = ap length (sym c.deref_mut.ensures.value) ∙ c.deref_mut.ensures.len in
    let after = rw c.deref_mut.ensures.value at c.add_read.ensures in
    subst (λ (row : List ℕ). RowWaits placed c.args.node nets row c.args.ins.now) (sym (written_back _ c.add_read.new.row c.loop-read.row.items after.long size))
    (row_next placed c.args.node nets c.loop-read.row.items c.add_read.new.row c.args.ins.now c.loop-read.read-index (slice_index c.args.ins.now c.loop-read.read-index) c.loop-read-test.true refl after.bits c.loop-read.invariant)
