use Rattle.std.proofs.Common.{◌≡◌, ◌<◌, ◌≤◌, ◌∙◌, ◌++◌, ◌∷◌, [], ◌+◌, ◌-◌, ◌^◌, min, List, ℕ, length, slice_get, Option, Some, None, ap, ap₂, sym, arith}
use Rattle.vw_net.specs.declared.cell.Cell.{Cell}
use Rattle.vw_net.specs.declared.cell.Cell.TheVariants.{Gate}
use Rattle.vw_prog.specs.declared.code.WideGate.{WideGate}
use Rattle.vw_prog.specs.Coding.{cell_gates, cell_op, cell_wide, slot_in, wide_gate}
use Rattle.vw_prog.proofs.CellOps.{cell_there, large_gates, large_op, large_wide, none_there, nothing_more, small_wide}
use Rattle.vw_prog.proofs.coding.cell_op.Goals as goal
use Rattle.vw_prog.proofs.coding.cell_op.Goals.{Else-inputs-le-TRUTH_TABLE_INPUTS, In-None, In-Some-Gate, In-Some-Latch}

-- ---- a gate

-- the cell with the number is the gate that was read
is_gate : (c : In-Some-Gate) → slice_get c.args.flat.now.cells c.args.number ≡ Some (Gate c.in-Some-Gate.ins c.in-Some-Gate.cover)
is_gate c =
    let found = c.in-Some-Gate.ensures.lookup in
    cell_there c.cells.result.now c.args.flat.now.cells c.args.number c.in-Some-Gate.field-0.now c.cells.ensures found.3.0 found.1 ∙ ap Some c.in-Some-Gate.field-0-is

-- it has more than six inputs
is_large : (c : Else-inputs-le-TRUTH_TABLE_INPUTS) → 6 < c.in-Some-Gate.cover.inputs
is_large c = omega (arith, c.if-inputs-le-TRUTH_TABLE_INPUTS.false, c.inputs-in-Some-Gate.ensures)

pub returns-then-inputs-le-TRUTH_TABLE_INPUTS-clause-wide : goal.returns-then-inputs-le-TRUTH_TABLE_INPUTS-clause-wide
returns-then-inputs-le-TRUTH_TABLE_INPUTS-clause-wide c =
    let gate = is_gate (goal.at.returns-then-inputs-le-TRUTH_TABLE_INPUTS-clause-wide c).In-Some-Gate in
    let small : c.in-Some-Gate.cover.inputs ≤ 6 = omega (arith, c.if-inputs-le-TRUTH_TABLE_INPUTS.true, c.inputs-in-Some-Gate.ensures) in
    small_wide gate small c.args.flat.now.inputs c.args.table.now c.args.number c.args.wide.now.items

pub returns-in_ok-one-in-Some-Gate-2-clause-one : goal.returns-in_ok-one-in-Some-Gate-2-clause-one
returns-in_ok-one-in-Some-Gate-2-clause-one c =
    let at = goal.at.returns-in_ok-one-in-Some-Gate-2-clause-one c in
    let slot = slot_in c.args.table.now (min (c.args.flat.now.inputs + c.args.number) (2 ^ 32 - 1)) in
    c.in_ok-one-in-Some-Gate-2.ensures.one
    ∙ large_op (is_gate at.In-Some-Gate) (is_large at.Else-inputs-le-TRUTH_TABLE_INPUTS) slot (length c.args.gates.now.items) (length c.args.wide.now.items)

pub returns-in_ok-one-in-Some-Gate-2-clause-gates : goal.returns-in_ok-one-in-Some-Gate-2-clause-gates
returns-in_ok-one-in-Some-Gate-2-clause-gates c =
    let at = goal.at.returns-in_ok-one-in-Some-Gate-2-clause-gates c in
    large_gates (is_gate at.In-Some-Gate) (is_large at.Else-inputs-le-TRUTH_TABLE_INPUTS) c.args.flat.now.inputs c.args.table.now c.args.number c.args.gates.now.items

pub returns-in_ok-one-in-Some-Gate-2-clause-wide : goal.returns-in_ok-one-in-Some-Gate-2-clause-wide
returns-in_ok-one-in-Some-Gate-2-clause-wide c =
    let at = goal.at.returns-in_ok-one-in-Some-Gate-2-clause-wide c in
    let made = c.in_ok-gate-in-Some-Gate.ensures ∙ ap₂ (λ (inputs : ℕ) (ins : List ℕ). wide_gate c.args.table.now c.args.number (inputs + c.args.number) ins) c.inputs.ensures c.as_slice-in-Some-Gate.ensures in
    large_wide (is_gate at.In-Some-Gate) (is_large at.Else-inputs-le-TRUTH_TABLE_INPUTS) c.args.flat.now.inputs c.args.table.now c.args.number c.args.wide.now.items c.keep_wide_gate.new.wide.items
    (c.in_ok-one-in-Some-Gate-2.ensures.wide ∙ ap (λ (gate : WideGate). c.args.wide.now.items ++ gate ∷ []) made)

-- ---- a latch

-- the cell with the number is the latch that was read
is_latch : (c : In-Some-Latch) → slice_get c.args.flat.now.cells c.args.number ≡ Some c.in-Some-Latch.field-0.now
is_latch c =
    let found = c.in-Some-Latch.ensures.lookup in
    cell_there c.cells.result.now c.args.flat.now.cells c.args.number c.in-Some-Latch.field-0.now c.cells.ensures found.3.0 found.1

pub returns-in-Some-Latch-clause-one : goal.returns-in-Some-Latch-clause-one
returns-in-Some-Latch-clause-one c =
    let slot = slot_in c.args.table.now (min (c.args.flat.now.inputs + c.args.number) (2 ^ 32 - 1)) in
    sym (ap (cell_op slot (length c.args.gates.now.items) (length c.args.wide.now.items)) (is_latch c ∙ ap Some c.in-Some-Latch.field-0-is))

pub returns-in-Some-Latch-clause-gates : goal.returns-in-Some-Latch-clause-gates
returns-in-Some-Latch-clause-gates c =
    nothing_more c.args.gates.now.items
    ∙ sym (ap (λ (cell : Option Cell). c.args.gates.now.items ++ cell_gates c.args.flat.now.inputs c.args.table.now c.args.number cell) (is_latch c ∙ ap Some c.in-Some-Latch.field-0-is))

pub returns-in-Some-Latch-clause-wide : goal.returns-in-Some-Latch-clause-wide
returns-in-Some-Latch-clause-wide c =
    nothing_more c.args.wide.now.items
    ∙ sym (ap (λ (cell : Option Cell). c.args.wide.now.items ++ cell_wide c.args.flat.now.inputs c.args.table.now c.args.number cell) (is_latch c ∙ ap Some c.in-Some-Latch.field-0-is))

-- ---- no cell

-- there is no cell with the number
is_none : (c : In-None) → slice_get c.args.flat.now.cells c.args.number ≡ None
is_none c = none_there c.cells.result.now c.args.flat.now.cells c.args.number c.cells.ensures c.in-None.ensures.lookup.3

pub returns-in-None-clause-one : goal.returns-in-None-clause-one
returns-in-None-clause-one c =
    let slot = slot_in c.args.table.now (min (c.args.flat.now.inputs + c.args.number) (2 ^ 32 - 1)) in
    sym (ap (cell_op slot (length c.args.gates.now.items) (length c.args.wide.now.items)) (is_none c))

pub returns-in-None-clause-gates : goal.returns-in-None-clause-gates
returns-in-None-clause-gates c =
    nothing_more c.args.gates.now.items ∙ sym (ap (λ (cell : Option Cell). c.args.gates.now.items ++ cell_gates c.args.flat.now.inputs c.args.table.now c.args.number cell) (is_none c))

pub returns-in-None-clause-wide : goal.returns-in-None-clause-wide
returns-in-None-clause-wide c =
    nothing_more c.args.wide.now.items ∙ sym (ap (λ (cell : Option Cell). c.args.wide.now.items ++ cell_wide c.args.flat.now.inputs c.args.table.now c.args.number cell) (is_none c))
