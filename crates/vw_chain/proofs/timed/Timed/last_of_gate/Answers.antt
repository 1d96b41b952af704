use Rattle.std.proofs.Common.{◌≡◌, ◌∙◌, ◌+◌, ◌<◌, ◌≤◌, ℕ, List, Some, IsTrue, get_or, slice_get, length, All, ap, refl, sym, subst, true, true≢false, arith}
use Rattle.std.proofs.lemmas.Option.{slice_get_read}
use Rattle.vw_net.specs.declared.cell.Cell.{Cell}
use Rattle.vw_net.specs.declared.cell.Cell.TheVariants.{Gate, Latch}
use Rattle.vw_net.specs.declared.flat.Flat.{Flat}
use Rattle.vw_net.specs.Order.{is_among, is_gate}
use Rattle.vw_net.proofs.FittingCells.{cell_fits}
use Rattle.vw_net.proofs.Orders.{gate_within}
use Rattle.vw_plan.specs.Lead.{lead}
use Rattle.vw_plan.specs.PlannedBoard.{PlannedBoard}
use Rattle.vw_chain.specs.Steps.{IsLastRead}
use Rattle.vw_chain.specs.Timing.{planned_of}
use Rattle.vw_chain.proofs.GateReads.{is_last, reads_some}
use Rattle.vw_chain.proofs.timed.Timed.last_of_gate.Goals as goal

-- what is read at the number of a gate
read_here : (planned : PlannedBoard) (items : List Cell) (number : ℕ) (found cell : Cell) → items ≡ planned.ordered.flat.cells → is_gate (slice_get planned.ordered.flat.cells number) ≡ true
    → found ≡ get_or items number found → found ≡ cell → slice_get planned.ordered.flat.cells number ≡ Some cell
read_here planned items number found cell are gate is same =
    let cells = planned.ordered.flat.cells in
    slice_get_read cells (length cells) number found refl (gate_within cells number gate) (is ∙ ap (λ (list : List Cell). get_or list number found) are) ∙ ap Some same

pub last_read-requires-clause-some : goal.last_read-requires-clause-some
last_read-requires-clause-some c =
    let planned = planned_of c.args.self.now in
    let here = read_here planned c.cells.result.now c.args.number c.index-cells-number.result (Gate c.in-Gate.ins c.in-Gate.cover) (c.cells.ensures ∙ ap (λ (flat : Flat). flat.cells) c.flat.ensures) c.requires.gate c.index-cells-number.is c.in-Gate.is in
    omega (arith, reads_some planned c.args.number c.in-Gate.ins c.in-Gate.cover here c.requires.late, ap length c.as_slice.ensures)

pub last_read-requires-clause-nets : goal.last_read-requires-clause-nets
last_read-requires-clause-nets c =
    let planned = planned_of c.args.self.now in
    let cells = planned.ordered.flat.cells in
    let nets = planned.ordered.flat.inputs + length cells in
    let here = read_here planned c.cells.result.now c.args.number c.index-cells-number.result (Gate c.in-Gate.ins c.in-Gate.cover) (c.cells.ensures ∙ ap (λ (flat : Flat). flat.cells) c.flat.ensures) c.requires.gate c.index-cells-number.is c.in-Gate.is in
    subst (All (λ net. net < nets)) (sym c.as_slice.ensures) (cell_fits nets cells c.args.number (Gate c.in-Gate.ins c.in-Gate.cover) planned.ordered.flat.cells_fit here).1

pub returns-in-Gate : goal.returns-in-Gate
returns-in-Gate c =
    let planned = planned_of c.args.self.now in
    let here = read_here planned c.cells.result.now c.args.number c.index-cells-number.result (Gate c.in-Gate.ins c.in-Gate.cover) (c.cells.ensures ∙ ap (λ (flat : Flat). flat.cells) c.flat.ensures) c.requires.gate c.index-cells-number.is c.in-Gate.is in
    let made : (items : List ℕ) (node : ℕ) → items ≡ c.in-Gate.ins → node ≡ get_or planned.plan.chip_of c.args.number 0 → IsTrue (is_among items c.last_read.result)
    → All (λ net. lead planned node net ≤ lead planned node c.last_read.result) items → IsLastRead planned c.args.number c.last_read.result =
    λ items node are at among all. is_last planned c.args.number c.in-Gate.ins c.in-Gate.cover here c.last_read.result
    (subst (λ (list : List ℕ). IsTrue (is_among list c.last_read.result)) are among)
    (subst (λ (list : List ℕ). All (λ net. lead planned (get_or planned.plan.chip_of c.args.number 0) net ≤ lead planned (get_or planned.plan.chip_of c.args.number 0) c.last_read.result) list) are
    (subst (λ (one : ℕ). All (λ net. lead planned one net ≤ lead planned one c.last_read.result) items) at all)) in
    made c.as_slice.result.now (get_or c.chip_of.result.now c.args.number 0) c.as_slice.ensures (ap (λ (chips : List ℕ). get_or chips c.args.number 0) c.chip_of.ensures) c.last_read.ensures.among c.last_read.ensures.last

pub returns-in-Latch : goal.returns-in-Latch
returns-in-Latch c =
    let planned = planned_of c.args.self.now in
    let here = read_here planned c.cells.result.now c.args.number c.index-cells-number.result (Latch c.in-Latch.d c.in-Latch.init) (c.cells.ensures ∙ ap (λ (flat : Flat). flat.cells) c.flat.ensures) c.requires.gate c.index-cells-number.is c.in-Latch.is in
    absurd (true≢false (sym c.requires.gate ∙ ap is_gate here))
