use Rattle.std.proofs.Common.{◌≡◌, ◌+◌, ◌∙◌, ℕ, true, List, length, All, slice_get, ap, subst, sym, refl, arith}
use Rattle.std.proofs.lemmas.Option.{slice_get_read}
use Rattle.vw_net.specs.declared.cell.Cell.{Cell}
use Rattle.vw_fault.specs.Steps.Reaching.{is_marked}
use Rattle.vw_fault.proofs.Marks.{cell_further, closed_by}
use Rattle.vw_fault.proofs.reached.is_closed.Goals as goal

-- one cell more
pub loop-number-preserved : goal.loop-number-preserved
loop-number-preserved c =
    let marks = c.args.marks.now in
    let cells = c.cells-cell-items.result.now in
    let place = c.loop-number.number in
    let here = slice_get_read cells _ place c.cell-item.result refl c.loop-number-test.true c.cell-item.is in
    let its = rw c.if-not-is_cell_closed.false at c.is_cell_closed.ensures in
    let first = λ (marked : is_marked marks (c.args.flat.now.inputs + place) ≡ true). its (ap (λ (n : ℕ). is_marked marks (n + place)) c.inputs-first.ensures ∙ marked) in
    cell_further marks c.args.flat.now.inputs c.args.flat.now.cells place c.cell-item.result (ap (λ (list : List Cell). slice_get list place) (sym c.cells-cell-items.ensures) ∙ here) first c.loop-number.invariant

-- all of them
pub returns : goal.returns
returns c =
    let flat = c.args.flat.now in
    let marks = c.args.marks.now in
    let outputs = subst (All (λ (net : ℕ). is_marked marks net ≡ true)) c.outputs.ensures (rw c.if-not-are_marked.false at c.are_marked.ensures) in
    closed_by marks flat c.loop-number.number (omega (arith, c.loop-number-test.false, ap (λ (list : List Cell). length list) c.cells-cell-items.ensures)) outputs c.loop-number.invariant
