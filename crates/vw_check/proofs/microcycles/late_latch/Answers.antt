use Rattle.std.proofs.Common.{◌≡◌, ◌+◌, ◌-◌, ◌∙◌, ℕ, List, Bool, true, false, Some, None, ap, refl, sym, length, get_or, le-ltb, nat_le, nat_lt, arith}
use Rattle.std.proofs.lemmas.Bool.{le-leb, lt-leb}
use Rattle.std.proofs.lemmas.Option.{slice_get_read}
use Rattle.std.specs.List.{slice_get}
use Rattle.vw_net.specs.declared.cell.Cell.TheVariants.{Latch}
use Rattle.vw_net.specs.declared.flat.Flat.{Flat}
use Rattle.vw_net.proofs.FittingCells.{cell_fits}
use Rattle.vw_plan.specs.Lead.{usable}
use Rattle.vw_plan.specs.Nets.{node_of}
use Rattle.vw_plan.specs.PlannedBoard.{PlannedBoard, home}
use Rattle.vw_ready.specs.LeadTables.{planned_in}
use Rattle.vw_net.specs.FirstFound.{found_unless}
use Rattle.vw_check.specs.MicrocycleFaults.{late_cell, latch_microcycle}
use Rattle.vw_check.specs.declared.fault.PlanFault.TheVariants.{LateLatch}
use Rattle.vw_net.proofs.FirstFound.{search_ends, search_on}
use Rattle.vw_check.proofs.microcycles.late_latch.Goals as goal
use Rattle.vw_check.proofs.microcycles.late_latch.Goals.{in-Latch+else-period-usable, in_default}

-- the node of a cell's net is the cell's chip
node_of_cell : (flat : Flat) (chip_of : List ℕ) (number : ℕ) → node_of flat chip_of (flat.inputs + number) ≡ get_or chip_of number 0
node_of_cell flat chip_of number =
    let behind : nat_lt (flat.inputs + number) flat.inputs ≡ false = le-ltb (flat.inputs + number) flat.inputs (omega arith) in
    let same : flat.inputs + number - flat.inputs ≡ number = omega arith in
    rw (behind, same) refl

-- what the code finds usable on a latch's chip is the latch's microcycle
microcycle : (planned : PlannedBoard) (chip_of : List ℕ) (number d found : ℕ) → chip_of ≡ planned.plan.chip_of
    → found ≡ usable planned (get_or chip_of number 0) d → found ≡ latch_microcycle planned number d
microcycle planned chip_of number d found chips is =
    let node : get_or chip_of number 0 ≡ home planned (planned.ordered.flat.inputs + number) = ap (λ (chips : List ℕ). get_or chips number 0) chips ∙ sym (node_of_cell planned.ordered.flat planned.plan.chip_of number) in
    is ∙ ap (λ (one : ℕ). usable planned one d) node

pub bounds-chip_of-number : goal.bounds-chip_of-number
bounds-chip_of-number c = omega (arith, ap length c.cells-cell-items.ensures, ap (λ (flat : Flat). length flat.cells) c.flat.ensures, ap length c.chip_of.ensures)

pub usable_at-usable-requires-clause-net : goal.usable_at-usable-requires-clause-net
usable_at-usable-requires-clause-net c =
    let flat = c.args.wired.now.ordered.now.flat in
    let listed = c.cells-cell-items.ensures ∙ ap (λ (flat : Flat). flat.cells) c.flat.ensures in
    let is : slice_get flat.cells c.loop-number.number ≡ Some (Latch c.in-Latch.d c.in-Latch.init) = slice_get_read flat.cells (length flat.cells) c.loop-number.number c.cell-item.result refl (rw listed at c.loop-number-test.true) (rw listed at c.cell-item.is) ∙ ap Some c.in-Latch.is in
    (cell_fits (flat.inputs + length flat.cells) flat.cells c.loop-number.number (Latch c.in-Latch.d c.in-Latch.init) flat.cells_fit is).1 0 0 (omega arith)

pub overflow_cast-result : goal.overflow_cast-result
overflow_cast-result c = omega (arith, ap length c.cells-cell-items.ensures, ap (λ (flat : Flat). length flat.cells) c.flat.ensures, c.args.wired.now.ordered.now.flat.few_cells)

-- a latch that is late is the first of those that are looked for
pub returns-then-period-usable : goal.returns-then-period-usable
returns-then-period-usable c =
    let planned = planned_in c.args.wired.now in
    let number = c.loop-number.number in
    let cells = planned.ordered.flat.cells in
    let listed : c.cells-cell-items.result.now ≡ cells = c.cells-cell-items.ensures ∙ ap (λ flat. flat.cells) c.flat.ensures in
    let at : c.usable_at-usable.result ≡ latch_microcycle planned number c.in-Latch.d = microcycle planned c.chip_of.result.now number c.in-Latch.d c.usable_at-usable.result c.chip_of.ensures c.usable_at-usable.ensures in
    let late : nat_le c.usable_at-usable.result planned.plan.period ≡ false = lt-leb c.usable_at-usable.result planned.plan.period (omega (arith, c.period.ensures, c.if-period-usable.true)) in
    let found : late_cell planned number c.cell-item.result ≡ Some (LateLatch number c.usable_at-usable.result) =
    ap (late_cell planned number) c.in-Latch.is
    ∙ ap (λ (one : ℕ). found_unless (nat_le one planned.plan.period) (LateLatch number one)) (sym at)
    ∙ ap (λ (fits : Bool). found_unless fits (LateLatch number c.usable_at-usable.result)) late in
    let within = rw listed at c.loop-number-test.true in
    let here = rw listed at c.cell-item.is in
    search_ends (late_cell planned) number cells c.cell-item.result within (LateLatch number c.usable_at-usable.result) (ap (late_cell planned number) (sym here) ∙ found) ∙ c.loop-number.invariant

-- a cell that isn't late is none of those that are looked for
pub loop-number-preserved : goal.loop-number-preserved
loop-number-preserved c =
    let planned = planned_in c.args.wired.now in
    let number = c.loop-number.number in
    let cells = planned.ordered.flat.cells in
    let listed : c.cells-cell-items.result.now ≡ cells = c.cells-cell-items.ensures ∙ ap (λ flat. flat.cells) c.flat.ensures in
    let none : late_cell planned number c.cell-item.result ≡ None = elim c.match-cell.branch [
      | in-Latch+else-period-usable w ↦
          let at : w.usable_at-usable.result ≡ latch_microcycle planned number w.in-Latch.d = microcycle planned w.chip_of.result.now number w.in-Latch.d w.usable_at-usable.result w.chip_of.ensures w.usable_at-usable.ensures in
          let in_time : nat_le (latch_microcycle planned number w.in-Latch.d) planned.plan.period ≡ true = le-leb (latch_microcycle planned number w.in-Latch.d) planned.plan.period (omega (arith, at, w.period.ensures, w.if-period-usable.false)) in
          ap (late_cell planned number) w.in-Latch.is ∙ ap (λ (fits : Bool). found_unless fits (LateLatch number (latch_microcycle planned number w.in-Latch.d))) in_time
      | in_default w ↦ ap (late_cell planned number) w.in_default.is
    ] in
    let within = rw listed at c.loop-number-test.true in
    let here = rw listed at c.cell-item.is in
    search_on (late_cell planned) number cells c.cell-item.result within (ap (late_cell planned number) (sym here) ∙ none) ∙ c.loop-number.invariant
