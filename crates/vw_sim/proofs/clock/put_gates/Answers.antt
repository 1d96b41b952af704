use Rattle.std.proofs.Common.{◌≡◌, ◌<◌, ◌+◌, ℕ, Bool, List, false, length, take, map, slice_get, slice_index_or, get_or, set, Some, arith, ap, ap₂, sym, ◌∙◌, true≢false}
use Rattle.std.proofs.lemmas.List.{length-set, take_all}
use Rattle.std.proofs.lemmas.List.Elements.{All-same, All-weaker}
use Rattle.vw_net.specs.declared.cell.Cell.{Cell}
use Rattle.vw_net.specs.declared.cell.Cell.TheVariants.{Gate}
use Rattle.vw_net.specs.declared.flat.Flat.{Flat}
use Rattle.vw_net.specs.Cover.{cover_value}
use Rattle.vw_net.specs.Order.{is_gate}
use Rattle.vw_net.proofs.FittingCells.{cell_fits}
use Rattle.vw_net.proofs.ReadyNets.{order_cell}
use Rattle.vw_sim.proofs.Gates.{more_have_values}
use Rattle.vw_net.proofs.ReadyNets.{order_gate, order_within, all_ready}
use Rattle.vw_sim.proofs.clock.put_gates.Goals as goal
use Rattle.vw_sim.proofs.clock.put_gates.Goals.{in-Gate, in_default}

-- the number of a gate is below the number of cells
pub bounds-cells-number : goal.bounds-cells-number
bounds-cells-number c =
    let ordered = c.args.ordered.now in
    let place = c.loop-number.number-index in
    let within : place < length ordered.order = omega (arith, ap length c.order-number-items.ensures) in
    let number = ap (λ (order : List ℕ). get_or order place 0) c.order-number-items.ensures in
    let cells = ap (λ (cs : List Cell). length cs) (c.cells-cells.ensures ∙ ap (λ (flat : Flat). flat.cells) c.flat-flat.ensures) in
    omega (arith, order_within ordered.is_order place within)

-- the gate reads as many nets as its table has inputs, and each has a value
pub gate_value-bit-requires : goal.gate_value-bit-requires
gate_value-bit-requires c =
    let ordered = c.args.ordered.now in
    let place = c.loop-number.number-index in
    let within : place < length ordered.order = omega (arith, ap length c.order-number-items.ensures) in
    let here = order_cell ordered.is_order place _ _ _ within c.order-number-items.ensures (c.cells-cells.ensures ∙ ap (λ (flat : Flat). flat.cells) c.flat-flat.ensures) c.index-cells-number.is ∙ ap Some c.in-Gate.is in
    let fits = cell_fits _ _ _ _ ordered.flat.cells_fit here in
    let below = λ (net : ℕ). net < ordered.flat.inputs + length ordered.flat.cells in
    let reads = All-same below c.as_slice.result.now c.in-Gate.ins c.as_slice.ensures fits.1 in
    record {
      arity = ap length c.as_slice.ensures ∙ fits.0;
      within = All-weaker below (λ net. net < length c.loop-number.values) (λ net is_below. omega arith) c.as_slice.result.now reads;
    }

-- the gate's net is below the number of nets
pub set-requires : goal.set-requires
set-requires c =
    let ordered = c.args.ordered.now in
    let place = c.loop-number.number-index in
    let within : place < length ordered.order = omega (arith, ap length c.order-number-items.ensures) in
    let number = ap (λ (order : List ℕ). get_or order place 0) c.order-number-items.ensures in
    let inputs = c.inputs-first.ensures ∙ ap (λ (flat : Flat). flat.inputs) c.flat-flat.ensures in
    omega (arith, order_within ordered.is_order place within)

-- the gate's net has its value, since those that it reads have theirs; a latch does not stand in the order
pub loop-number-preserved : goal.loop-number-preserved
loop-number-preserved c =
    let ordered = c.args.ordered.now in
    let place = c.loop-number.number-index in
    let within : place < length ordered.order = omega (arith, ap length c.order-number-items.ensures) in
    let here = order_cell ordered.is_order place _ _ _ within c.order-number-items.ensures (c.cells-cells.ensures ∙ ap (λ (flat : Flat). flat.cells) c.flat-flat.ensures) c.index-cells-number.is in
    let number = ap (λ (order : List ℕ). get_or order place 0) c.order-number-items.ensures in
    let inputs = c.inputs-first.ensures ∙ ap (λ (flat : Flat). flat.inputs) c.flat-flat.ensures in
    elim c.match-cells-number.branch [
      | in-Gate w ↦
          let gate : slice_get ordered.flat.cells (get_or ordered.order place 0) ≡ Some (Gate w.in-Gate.ins w.in-Gate.cover) = here ∙ ap Some w.in-Gate.is in
          let written : c.match-cells-number.values ≡ set c.loop-number.values (ordered.flat.inputs + get_or ordered.order place 0) (cover_value w.in-Gate.cover (map (λ (net : ℕ). slice_index_or c.loop-number.values net false) w.in-Gate.ins)) =
          w.values-is ∙ w.set.ensures
          ∙ ap₂ (λ (net : ℕ) (bit : Bool). set c.loop-number.values net bit) (ap₂ (λ (a b : ℕ). a + b) inputs number)
          (w.gate_value-bit.ensures ∙ ap (λ (ins : List ℕ). cover_value w.in-Gate.cover (map (λ (net : ℕ). slice_index_or c.loop-number.values net false) ins)) w.as_slice.ensures) in
          record {
            nets = ap length written ∙ length-set c.loop-number.values _ _ ∙ c.loop-number.invariant.nets;
            values = λ value starts its. more_have_values ordered.is_order place within w.in-Gate.ins w.in-Gate.cover gate value c.loop-number.values c.match-cells-number.values (omega arith) written (its _ _ _ gate) (c.loop-number.invariant.values value starts its);
          }
      | in_default w ↦ absurd (true≢false (sym (order_gate ordered.is_order place within) ∙ ap is_gate (here ∙ ap Some w.in_default.is)))
    ]

-- every net is ready when the whole order is done
pub returns-clause-values : goal.returns-clause-values
returns-clause-values c = λ value starts its net within.
    let ordered = c.args.ordered.now in
    let all : take c.loop-number.number-index ordered.order ≡ ordered.order = take_all c.loop-number.number-index ordered.order (omega (arith, ap length c.order-number-items.ensures)) in
    c.loop-number.invariant.values value starts its net (rw all (all_ready ordered.is_order net (omega arith)))
