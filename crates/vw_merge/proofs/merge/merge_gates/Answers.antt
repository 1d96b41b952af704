use Rattle.std.proofs.Common.{◌∙◌, ap, arith}
use Rattle.vw_net.specs.declared.flat.Flat.{Flat}
use Rattle.vw_merge.proofs.GateCells.{ordered_within}
use Rattle.vw_merge.proofs.merge.merge_gates.Goals as goal

-- the order has numbers of cells, of which there aren't too many
pub overflow_add-inputs : goal.overflow_add-inputs
overflow_add-inputs c =
    let ordered = c.args.ordered.now in
    let inputs = c.inputs-inputs.ensures ∙ ap (λ (flat : Flat). flat.inputs) c.flat.ensures in
    omega (arith, ordered_within ordered c.loop-number.number-index _ c.order-number-items.ensures c.loop-number-test.true, inputs, ordered.flat.few_inputs, ordered.flat.few_cells)

pub merge_gate-requires-clause-number : goal.merge_gate-requires-clause-number
merge_gate-requires-clause-number c = ordered_within c.args.ordered.now c.loop-number.number-index _ c.order-number-items.ensures c.loop-number-test.true
