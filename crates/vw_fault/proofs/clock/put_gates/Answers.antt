use Rattle.std.proofs.Common.{◌≡◌, ◌≤◌, ◌<◌, ◌+◌, ◌∙◌, ℕ, Bool, false, List, length, take, map, slice_get, slice_index_or, get_or, set, Some, arith, ap, ap₂, sym, true≢false}
use Rattle.std.proofs.Math.Path.{fun_ext}
use Rattle.std.proofs.lemmas.List.{length-set, take_all}
use Rattle.std.proofs.lemmas.List.Elements.{All-same, All-weaker}
use Rattle.vw_net.specs.declared.cell.Cell.{Cell}
use Rattle.vw_net.specs.declared.cell.Cell.TheVariants.{Gate}
use Rattle.vw_net.specs.declared.flat.Flat.{Flat}
use Rattle.vw_net.specs.Cover.{cover_value}
use Rattle.vw_net.specs.Order.{is_gate}
use Rattle.vw_net.specs.TruthTable.{bit_of}
use Rattle.vw_net.proofs.FittingCells.{cell_fits}
use Rattle.vw_net.proofs.ReadyNets.{all_ready, order_cell, order_gate, order_within}
use Rattle.vw_fault.specs.Steps.Lanes.{bits_at, find_in, lane_bits}
use Rattle.vw_fault.proofs.Gates.{more_have_values}
use Rattle.vw_fault.proofs.Lanes.{lane_at, lane_set, length-lane_bits}
use Rattle.vw_fault.proofs.clock.put_gates.Goals as goal
use Rattle.vw_fault.proofs.clock.put_gates.Goals.{in-Gate, in_default}

-- the number of a gate is below the number of cells
pub bounds-cells-number : goal.bounds-cells-number
bounds-cells-number c =
    let ordered = c.args.ordered.now in
    let place = c.loop-number.number-index in
    let within : place < length ordered.order = omega (arith, ap length c.order-number-items.ensures) in
    let number = ap (λ (order : List ℕ). get_or order place 0) c.order-number-items.ensures in
    let cells = ap (λ (cs : List Cell). length cs) (c.cells-cells.ensures ∙ ap (λ (flat : Flat). flat.cells) c.flat-flat.ensures) in
    omega (arith, order_within ordered.is_order place within)

-- the gate reads as many nets as its table has inputs, and each has a word
pub gate_word-word-requires : goal.gate_word-word-requires
gate_word-word-requires c =
    let ordered = c.args.ordered.now in
    let place = c.loop-number.number-index in
    let within : place < length ordered.order = omega (arith, ap length c.order-number-items.ensures) in
    let here = order_cell ordered.is_order place _ _ _ within c.order-number-items.ensures (c.cells-cells.ensures ∙ ap (λ (flat : Flat). flat.cells) c.flat-flat.ensures) c.index-cells-number.is ∙ ap Some c.in-Gate.is in
    let fits = cell_fits _ _ _ _ ordered.flat.cells_fit here in
    let below = λ (net : ℕ). net < ordered.flat.inputs + length ordered.flat.cells in
    let reads = All-same below c.as_slice.result.now c.in-Gate.ins c.as_slice.ensures fits.1 in
    record {
      arity = ap length c.as_slice.ensures ∙ fits.0;
      within = All-weaker below (λ net. net < length c.loop-number.words) (λ net is_below. omega arith) c.as_slice.result.now reads;
    }

-- the gate's net is below the number of nets
pub found-requires-clause-kept : goal.found-requires-clause-kept
found-requires-clause-kept c =
    let ordered = c.args.ordered.now in
    let place = c.loop-number.number-index in
    let within : place < length ordered.order = omega (arith, ap length c.order-number-items.ensures) in
    let number = ap (λ (order : List ℕ). get_or order place 0) c.order-number-items.ensures in
    let inputs = c.inputs-first.ensures ∙ ap (λ (flat : Flat). flat.inputs) c.flat-flat.ensures in
    omega (arith, order_within ordered.is_order place within)

pub found-requires-clause-forced : goal.found-requires-clause-forced
found-requires-clause-forced c =
    let ordered = c.args.ordered.now in
    let place = c.loop-number.number-index in
    let within : place < length ordered.order = omega (arith, ap length c.order-number-items.ensures) in
    let number = ap (λ (order : List ℕ). get_or order place 0) c.order-number-items.ensures in
    let inputs = c.inputs-first.ensures ∙ ap (λ (flat : Flat). flat.inputs) c.flat-flat.ensures in
    omega (arith, order_within ordered.is_order place within)

pub set-requires : goal.set-requires
set-requires c =
    let ordered = c.args.ordered.now in
    let place = c.loop-number.number-index in
    let within : place < length ordered.order = omega (arith, ap length c.order-number-items.ensures) in
    let number = ap (λ (order : List ℕ). get_or order place 0) c.order-number-items.ensures in
    let inputs = c.inputs-first.ensures ∙ ap (λ (flat : Flat). flat.inputs) c.flat-flat.ensures in
    omega (arith, order_within ordered.is_order place within)

-- the gate's net has its value in each lane, since those that it reads have theirs; a latch does not stand in the order
pub loop-number-preserved : goal.loop-number-preserved
loop-number-preserved c =
    let ordered = c.args.ordered.now in
    let place = c.loop-number.number-index in
    let words = c.loop-number.words in
    let within : place < length ordered.order = omega (arith, ap length c.order-number-items.ensures) in
    let here = order_cell ordered.is_order place _ _ _ within c.order-number-items.ensures (c.cells-cells.ensures ∙ ap (λ (flat : Flat). flat.cells) c.flat-flat.ensures) c.index-cells-number.is in
    let number = ap (λ (order : List ℕ). get_or order place 0) c.order-number-items.ensures in
    let inputs = c.inputs-first.ensures ∙ ap (λ (flat : Flat). flat.inputs) c.flat-flat.ensures in
    let net_is = ap₂ (λ (a b : ℕ). a + b) inputs number in
    elim c.match-cells-number.branch [
      | in-Gate w ↦
          let gate : slice_get ordered.flat.cells (get_or ordered.order place 0) ≡ Some (Gate w.in-Gate.ins w.in-Gate.cover) = here ∙ ap Some w.in-Gate.is in
          let written = w.words-is ∙ w.set.ensures ∙ ap (λ (net : ℕ). set words net w.found.result) net_is in
          record {
            nets = ap length written ∙ length-set words _ w.found.result ∙ c.loop-number.invariant.nets;
            values = λ lane low value starts its.
                let find = find_in c.args.stuck.now lane in
                let reads : bits_at lane words w.as_slice.result.now ≡ map (λ (net : ℕ). slice_index_or (lane_bits lane words) net false) w.in-Gate.ins =
                ap (bits_at lane words) w.as_slice.ensures ∙ ap (λ (bit : ℕ → Bool). map bit w.in-Gate.ins) (sym (fun_ext (lane_at lane words))) in
                let is = w.found.ensures lane ∙ ap₂ find net_is (w.gate_word-word.ensures lane low ∙ ap (cover_value w.in-Gate.cover) reads) in
                let fits : ordered.flat.inputs + length ordered.flat.cells ≤ length (lane_bits lane words) = omega (arith, length-lane_bits lane words, c.loop-number.invariant.nets, c.requires.nets) in
                more_have_values ordered.is_order find place within w.in-Gate.ins w.in-Gate.cover gate value (lane_bits lane words) (lane_bits lane c.match-cells-number.words) (bit_of w.found.result lane) fits
                (lane_set lane words c.match-cells-number.words _ w.found.result written) is (its _ _ _ gate) (c.loop-number.invariant.values lane low value starts its);
          }
      | in_default w ↦ absurd (true≢false (sym (order_gate ordered.is_order place within) ∙ ap is_gate (here ∙ ap Some w.in_default.is)))
    ]

-- every net is ready when the whole order is done
pub returns-clause-values : goal.returns-clause-values
returns-clause-values c = λ lane low value starts its net within.
    let ordered = c.args.ordered.now in
    let all : take c.loop-number.number-index ordered.order ≡ ordered.order = take_all c.loop-number.number-index ordered.order (omega (arith, ap length c.order-number-items.ensures)) in
    c.loop-number.invariant.values lane low value starts its net (rw all (all_ready ordered.is_order net (omega (arith, within, c.loop-number.invariant.nets, c.requires.nets))))
