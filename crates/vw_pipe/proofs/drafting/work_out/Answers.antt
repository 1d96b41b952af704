use Rattle.std.proofs.Common.{◌≡◌, get_or, arith}
use Rattle.vw_net.proofs.ReadyNets.{order_within}
use Rattle.vw_pipe.proofs.drafting.work_out.Goals as goal

-- the number of a gate is below the number of cells
pub lead_of_cell-lead-requires-clause-number : goal.lead_of_cell-lead-requires-clause-number
lead_of_cell-lead-requires-clause-number c =
    let ordered = c.args.given.now.ordered.now in
    let number : get_or c.order.result.now c.args.place 0 ≡ get_or ordered.order c.args.place 0 = cc in
    omega (arith, order_within ordered.is_order c.args.place c.requires.its)

pub overflow_add-inputs : goal.overflow_add-inputs
overflow_add-inputs c =
    let ordered = c.args.given.now.ordered.now in
    let number : get_or c.order.result.now c.args.place 0 ≡ get_or ordered.order c.args.place 0 = cc in
    let inputs : c.inputs.result ≡ ordered.flat.inputs = cc in
    omega (arith, order_within ordered.is_order c.args.place c.requires.its, ordered.flat.few_inputs, ordered.flat.few_cells)

pub index_mut-requires : goal.index_mut-requires
index_mut-requires c =
    let ordered = c.args.given.now.ordered.now in
    let number : get_or c.order.result.now c.args.place 0 ≡ get_or ordered.order c.args.place 0 = cc in
    let inputs : c.inputs.result ≡ ordered.flat.inputs = cc in
    omega (arith, order_within ordered.is_order c.args.place c.requires.its, c.requires.fit.nets)
