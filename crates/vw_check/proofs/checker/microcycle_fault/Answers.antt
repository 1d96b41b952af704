-- the first of two faults, of which each is the first of its kind
use Rattle.std.proofs.Common.{◌≡◌, ◌<◌, ◌+◌, ◌∙◌, ℕ, List, length, refl, Option, ap, sym}
use Rattle.std.specs.Option.{option_or}
use Rattle.vw_net.proofs.FirstOptions.{or_nothing}
use Rattle.vw_plan.specs.PlannedBoard.{PlannedBoard}
use Rattle.vw_check.specs.declared.fault.PlanFault.{PlanFault}
use Rattle.vw_check.specs.Faults.{microcycle_fault}
use Rattle.vw_check.specs.MicrocycleFaults.{late_latch, too_early}
use Rattle.vw_ready.specs.LeadTables.{AreArrivals, AreLeads, planned_in}
use Rattle.vw_plan.specs.Lead.{usable}
use Rattle.vw_plan.proofs.LeadLevels.{lead-by_driver}
use Rattle.vw_ready.specs.Leads.{arrival_by, usable_by}
use Rattle.vw_ready.specs.declared.wired.Wired.{Wired}
use Rattle.vw_ready.proofs.HomeLeads.{microcycles_right}
use Rattle.vw_ready.proofs.WiresBrought.{brought_by}
use Rattle.vw_check.proofs.checker.microcycle_fault.Goals as goal

early_or_late : (planned : PlannedBoard) (early late : Option PlanFault) → early ≡ too_early planned → late ≡ late_latch planned
    → option_or early late ≡ microcycle_fault planned
early_or_late planned early late one two =
    ap (λ (found : Option PlanFault). option_or found late) one
    ∙ ap (option_or (too_early planned)) (two ∙ sym (or_nothing (late_latch planned)))

-- what is known of microcycles is right
module _ (wired : Wired) (arrivals leads later items chips : List ℕ) (settle : ℕ) where
  right : AreArrivals (planned_in wired) arrivals → later ≡ arrivals → AreLeads (planned_in wired) leads → items ≡ leads
      → chips ≡ wired.plan.now.chip_of → settle ≡ wired.board.now.settle
      → (node net : ℕ) → net < wired.ordered.now.flat.inputs + length wired.ordered.now.flat.cells
      → usable_by wired.ordered.now.flat chips settle (arrival_by wired.wires.now.places later) items node net ≡ usable (planned_in wired) node net
  right are later_is its items_are chips_are settle_is =
      let planned = planned_in wired in
      microcycles_right planned (lead-by_driver planned) leads items chips settle (arrival_by wired.wires.now.places later) its items_are chips_are settle_is (brought_by planned wired.wires.now.places later wired.has_wires (later_is ∙ are.are))

pub too_early-early-requires : goal.too_early-early-requires
too_early-early-requires c = record {
  netlist = refl;
  right = right c.args.wired.now c.in_ok-arrivals.arrivals.items c.in_ok-leads.leads.items c.as_slice-2.result.now c.as_slice-3.result.now c.chip_of.result.now c.settle.result c.in_ok-arrivals.ensures c.as_slice-2.ensures.value c.in_ok-leads.ensures c.as_slice-3.ensures.value c.chip_of.ensures c.settle.ensures;
}

pub late_latch-requires : goal.late_latch-requires
late_latch-requires c = record {
  netlist = refl;
  right = right c.args.wired.now c.in_ok-arrivals.arrivals.items c.in_ok-leads.leads.items c.as_slice-2.result.now c.as_slice-3.result.now c.chip_of.result.now c.settle.result c.in_ok-arrivals.ensures c.as_slice-2.ensures.value c.in_ok-leads.ensures c.as_slice-3.ensures.value c.chip_of.ensures c.settle.ensures;
}

pub returns : goal.returns
returns c = c.or.ensures ∙ early_or_late (planned_in c.args.wired.now) c.too_early-early.result c.late_latch.result c.too_early-early.ensures c.late_latch.ensures
