use Rattle.std.proofs.Common.{◌≡◌, ◌∙◌, Some, length, ap, refl, arith, slice_get}
use Rattle.std.proofs.lemmas.Option.{slice_get_read}
use Rattle.vw_net.specs.declared.flat.Flat.{Flat}
use Rattle.vw_chain.specs.Timing.{planned_of}
use Rattle.vw_chain.proofs.DueEnds.{latches_due, later_wires, next_cell}
use Rattle.vw_chain.proofs.due.last_due.Goals as goal

pub loop-number-preserved : goal.loop-number-preserved
loop-number-preserved c =
    let planned = planned_of c.args.timed.now in
    let cells = planned.ordered.flat.cells in
    let listed = c.cells-cell-items.ensures ∙ ap (λ (flat : Flat). flat.cells) c.flat.ensures in
    let here : slice_get cells c.loop-number.number ≡ Some c.cell-item.result = slice_get_read cells (length cells) c.loop-number.number c.cell-item.result refl (rw listed at c.loop-number-test.true) (rw listed at c.cell-item.is) in
    let last = c.loop-number.due.last in
    let later = c.with_cell-due.result.last in
    record {
      ends = c.with_cell-due.ensures.ends;
      wires = later_wires planned last later c.with_cell-due.ensures.later c.loop-number.invariant.wires;
      cells = next_cell planned last later c.loop-number.number c.cell-item.result c.with_cell-due.ensures.later here c.with_cell-due.ensures.due c.loop-number.invariant.cells;
    }

pub returns-clause-due : goal.returns-clause-due
returns-clause-due c =
    let planned = planned_of c.args.timed.now in
    record {
      wires = c.loop-number.invariant.wires;
      latches = latches_due planned c.loop-number.due.last c.loop-number.number (omega (arith, ap length (c.cells-cell-items.ensures ∙ ap (λ (flat : Flat). flat.cells) c.flat.ensures), c.loop-number-test.false)) c.loop-number.invariant.cells;
    }
