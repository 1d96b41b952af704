use Rattle.std.proofs.Common.{◌<◌, ◌+◌, ℕ, Bool, List, false, length, get_or, set, Option, Some, None, arith, ap, ap₂, sym, ◌∙◌, true≢false}
use Rattle.std.proofs.lemmas.List.Elements.{All-same, All-weaker}
use Rattle.vw_net.specs.declared.cell.Cell.{Cell}
use Rattle.vw_net.specs.declared.cell.Cell.TheVariants.{Gate, Latch}
use Rattle.vw_net.specs.declared.flat.Flat.{Flat}
use Rattle.vw_net.specs.Cover.{cover_value}
use Rattle.vw_net.specs.Order.{is_gate}
use Rattle.vw_net.proofs.FittingCells.{cell_fits}
use Rattle.vw_net.proofs.ReadyNets.{order_cell, order_within}
use Rattle.vw_sim.specs.Steps.Values.{bits_at}
use Rattle.vw_sim.proofs.tables.run_wide.Goals as goal

-- the number of a gate is below the number of cells
pub bounds-cells-number : goal.bounds-cells-number
bounds-cells-number c =
    let number = ap (λ (order : List ℕ). get_or order c.args.place 0) c.order-order.ensures in
    let cells = ap (λ (cs : List Cell). length cs) (c.cells-cells.ensures ∙ ap (λ (flat : Flat). flat.cells) c.flat-flat.ensures) in
    omega (arith, order_within c.args.ordered.now.is_order c.args.place c.requires.place)

-- the gate reads as many nets as its table has inputs, and each has a value
pub gate_value-bit-requires : goal.gate_value-bit-requires
gate_value-bit-requires c =
    let ordered = c.args.ordered.now in
    let here = order_cell ordered.is_order c.args.place _ _ _ c.requires.place c.order-order.ensures (c.cells-cells.ensures ∙ ap (λ (flat : Flat). flat.cells) c.flat-flat.ensures) c.index-cells-number.is ∙ ap Some c.in-Gate.is in
    let fits = cell_fits _ _ _ _ ordered.flat.cells_fit here in
    let below = λ (net : ℕ). net < ordered.flat.inputs + length ordered.flat.cells in
    let reads = All-same below c.as_slice.result.now c.in-Gate.ins c.as_slice.ensures fits.1 in
    record {
      arity = ap length c.as_slice.ensures ∙ fits.0;
      within = All-weaker below (λ net. net < length c.args.values.now) (λ net is_below. omega (arith, c.requires.nets)) c.as_slice.result.now reads;
    }

-- the gate's net is below the number of nets
pub set-requires : goal.set-requires
set-requires c =
    let number = ap (λ (order : List ℕ). get_or order c.args.place 0) c.order-order.ensures in
    let inputs = c.inputs-first.ensures ∙ ap (λ (flat : Flat). flat.inputs) c.flat-flat.ensures in
    omega (arith, order_within c.args.ordered.now.is_order c.args.place c.requires.place, c.requires.nets)

-- the value of the gate that a cell is
abbrev value_of : List Bool → Option Cell → Bool
value_of values None = false
value_of values (Some (Gate ins cover)) = cover_value cover (bits_at values ins)
value_of values (Some (Latch d init)) = false

-- its table's value is written
pub returns-in-Gate : goal.returns-in-Gate
returns-in-Gate c = λ ins cover here.
    let ordered = c.args.ordered.now in
    let values = c.args.values.now in
    let gate = order_cell ordered.is_order c.args.place _ _ _ c.requires.place c.order-order.ensures (c.cells-cells.ensures ∙ ap (λ (flat : Flat). flat.cells) c.flat-flat.ensures) c.index-cells-number.is ∙ ap Some c.in-Gate.is in
    let number = ap (λ (order : List ℕ). get_or order c.args.place 0) c.order-order.ensures in
    let inputs = c.inputs-first.ensures ∙ ap (λ (flat : Flat). flat.inputs) c.flat-flat.ensures in
    c.set.ensures ∙ ap₂ (λ (net : ℕ) (bit : Bool). set values net bit) (ap₂ (λ (a b : ℕ). a + b) inputs number) (c.gate_value-bit.ensures ∙ ap (λ (nets : List ℕ). cover_value c.in-Gate.cover (bits_at values nets)) c.as_slice.ensures ∙ ap (value_of values) (sym gate ∙ here))

-- a latch is no gate
pub returns-in_default : goal.returns-in_default
returns-in_default c = λ ins cover here.
    let gate = order_cell c.args.ordered.now.is_order c.args.place _ _ _ c.requires.place c.order-order.ensures (c.cells-cells.ensures ∙ ap (λ (flat : Flat). flat.cells) c.flat-flat.ensures) c.index-cells-number.is ∙ ap Some c.in_default.is in
    absurd (true≢false (ap is_gate (sym here ∙ gate)))
