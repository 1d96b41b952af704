use Rattle.std.proofs.Common.{◌≡◌, ◌∙◌, ℕ, List, Option, ap, ap₂, sym}
use Rattle.vw_net.specs.declared.flat.Flat.{Flat}
use Rattle.vw_plan.specs.Nets.{node_of}
use Rattle.vw_plan.specs.PlannedBoard.{PlannedBoard, home}
use Rattle.vw_ready.specs.LeadTables.{planned_in}
use Rattle.vw_plan.specs.declared.wire.Wire.{Wire}
use Rattle.vw_check.specs.declared.fault.PlanFault.{PlanFault}
use Rattle.vw_check.specs.declared.hops.Rule.{Rule}
use Rattle.vw_check.specs.Steps.Rules.{first_in_wire}
use Rattle.vw_net.proofs.FirstFound.{search_finds, search_passes}
use Rattle.vw_check.proofs.hops.first_breaking.Goals as goal

module _ (rule : Rule) (planned : PlannedBoard) where
  abbrev in_wire : ℕ → Wire → Option PlanFault
  in_wire number wire = first_in_wire rule planned.board planned.plan.period (home planned wire.net) number wire

  -- what the code finds in a wire
  is_in_wire : (number : ℕ) (wire other : Wire) (flat : Flat) (chips : List ℕ) (net from : ℕ) (found : Option PlanFault)
      → flat ≡ planned.ordered.flat → chips ≡ planned.plan.chip_of → net ≡ wire.net → from ≡ node_of flat chips net
      → found ≡ first_in_wire rule planned.board planned.plan.period from number wire → wire ≡ other → in_wire number other ≡ found
  is_in_wire number wire other flat chips net from found flats listed nets home_is is same =
      let at_home : from ≡ home planned wire.net = home_is ∙ ap (λ (netlist : Flat). node_of netlist chips net) flats ∙ ap₂ (node_of planned.ordered.flat) listed nets in
      sym (is ∙ ap (λ (node : ℕ). first_in_wire rule planned.board planned.plan.period node number wire) at_home ∙ ap (in_wire number) same)

pub returns-then-is_some : goal.returns-then-is_some
returns-then-is_some c =
    let planned = planned_in c.args.wired.now in
    let here = rw c.wires-wire-items.ensures at c.wire-item.is in
    let is = is_in_wire c.args.rule planned c.loop-number.number c.wire-item.result _ c.flat.result.now c.chip_of.result.now c.net.result c.node_of-from.result c.first_in_wire-found.result c.flat.ensures c.chip_of.ensures c.net.ensures c.node_of-from.ensures c.first_in_wire-found.ensures here in
    search_finds (in_wire c.args.rule planned) c.loop-number.number planned.plan.wires c.wire-item.result (rw c.wires-wire-items.ensures at c.loop-number-test.true) c.first_in_wire-found.result is c.if-is_some.ensures ∙ c.loop-number.invariant

pub loop-number-preserved : goal.loop-number-preserved
loop-number-preserved c =
    let planned = planned_in c.args.wired.now in
    let here = rw c.wires-wire-items.ensures at c.wire-item.is in
    let is = is_in_wire c.args.rule planned c.loop-number.number c.wire-item.result _ c.flat.result.now c.chip_of.result.now c.net.result c.node_of-from.result c.first_in_wire-found.result c.flat.ensures c.chip_of.ensures c.net.ensures c.node_of-from.ensures c.first_in_wire-found.ensures here in
    search_passes (in_wire c.args.rule planned) c.loop-number.number planned.plan.wires c.wire-item.result (rw c.wires-wire-items.ensures at c.loop-number-test.true) c.first_in_wire-found.result is c.if-is_some.ensures ∙ c.loop-number.invariant
