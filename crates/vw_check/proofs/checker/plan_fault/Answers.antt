use Rattle.std.proofs.Common.{◌≡◌, ◌∙◌, ap, sym, subst, Option, None, is_some, IfOk}
use Rattle.vw_net.specs.declared.flat.Flat.{Flat}
use Rattle.vw_plan.specs.PlannedBoard.{planned_board}
use Rattle.vw_check.specs.declared.fault.PlanFault.{PlanFault}
use Rattle.vw_check.specs.Faults.{cell_fault}
use Rattle.vw_check.proofs.FaultOrder.{by_cells, by_hops, by_microcycles, by_wires, cells, no_fault, wires}
use Rattle.vw_check.proofs.NeededNets.{chips_fine, wires_fine}
use Rattle.vw_check.proofs.checker.plan_fault.Goals as goal
use Rattle.vw_check.proofs.checker.plan_fault.Goals.{Else-is_some, Else-is_some-2}

-- a fault of the cells is the first
pub returns-then-is_some : goal.returns-then-is_some
returns-then-is_some c =
    let planned = planned_board c.args.ordered.now c.args.board.now c.args.plan.now in
    let is : c.cell_fault-cells.result ≡ cells planned = c.cell_fault-cells.ensures ∙ ap (λ (flat : Flat). cell_fault flat planned.board planned.plan) c.flat.ensures in
    is ∙ by_cells planned (c.if-is_some.ensures ∙ ap is_some is)

no_cells : (c : Else-is_some) → cells (planned_board c.args.ordered.now c.args.board.now c.args.plan.now) ≡ None
no_cells c =
    let planned = planned_board c.args.ordered.now c.args.board.now c.args.plan.now in
    let is : c.cell_fault-cells.result ≡ cells planned = c.cell_fault-cells.ensures ∙ ap (λ (flat : Flat). cell_fault flat planned.board planned.plan) c.flat.ensures in
    sym is ∙ no_fault c.cell_fault-cells.result c.if-is_some.ensures

-- without one, each cell has a chip
pub wire_fault-requires-clause-chips : goal.wire_fault-requires-clause-chips
wire_fault-requires-clause-chips c = (chips_fine c.args.ordered.now.flat c.args.board.now c.args.plan.now (no_cells (goal.at.wire_fault-requires-clause-chips c).Else-is_some)).1

-- a fault of the wires comes next
pub returns-then-is_some-2 : goal.returns-then-is_some-2
returns-then-is_some-2 c =
    let planned = planned_board c.args.ordered.now c.args.board.now c.args.plan.now in
    c.in_ok-wires.ensures ∙ by_wires planned (no_cells (goal.at.returns-then-is_some-2 c).Else-is_some) (c.if-is_some-2.ensures ∙ ap is_some c.in_ok-wires.ensures)

no_wires : (c : Else-is_some-2) → wires (planned_board c.args.ordered.now c.args.board.now c.args.plan.now) ≡ None
no_wires c = sym c.in_ok-wires.ensures ∙ no_fault c.in_ok-wires.wires c.if-is_some-2.ensures

-- without a fault of the wires, each brings one of the nets
-- without a fault of the wires, each brings one of the nets
pub invariant_of-wired : goal.invariant_of-wired
invariant_of-wired c =
    let at = goal.at.invariant_of-wired c in
    record {
      each = (chips_fine c.args.ordered.now.flat c.args.board.now c.args.plan.now (no_cells at.Else-is_some)).0;
      nets = wires_fine c.args.ordered.now.flat c.args.plan.now (no_wires at.Else-is_some-2);
      has_wires = c.in_ok-table.ensures;
      has_links = c.in_ok-links.ensures;
    }

-- then one of the hops
pub returns-then-is_some-3 : goal.returns-then-is_some-3
returns-then-is_some-3 c =
    let planned = planned_board c.args.ordered.now c.args.board.now c.args.plan.now in
    let at = goal.at.returns-then-is_some-3 c in
    c.in_ok-hops.ensures ∙ by_hops planned (no_cells at.Else-is_some) (no_wires at.Else-is_some-2) (c.if-is_some-3.ensures ∙ ap is_some c.in_ok-hops.ensures)

-- and then one of the microcycles
pub returns : goal.returns
returns c =
    let planned = planned_board c.args.ordered.now c.args.board.now c.args.plan.now in
    let at = goal.at.returns c in
    let no_hops = sym c.in_ok-hops.ensures ∙ no_fault c.in_ok-hops.hops c.if-is_some-3.ensures in
    subst (λ (fault : Option PlanFault). IfOk c.microcycle_fault.result (λ found. found ≡ fault)) (by_microcycles planned (no_cells at.Else-is_some) (no_wires at.Else-is_some-2) no_hops) c.microcycle_fault.ensures
