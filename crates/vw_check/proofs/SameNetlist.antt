-- The fault of a plan is one of the netlist, whatever the order of its gates.
use Rattle.std.proofs.Common.{◌≡◌, ◌==◌, ◌+◌, ℕ, zero, suc, [], ◌∷◌, length, Option, Some, slice_get, nat_le, ◌&&◌, refl, ◌∙◌, ap, ap₂, if◌then◌else◌}
use Rattle.std.proofs.Math.Path.{fun_ext}
use Rattle.std.specs.Option.{option_and_then}
use Rattle.vw_net.specs.declared.cell.Cell.{Cell}
use Rattle.vw_net.specs.declared.cell.Cell.TheVariants.{Gate, Latch}
use Rattle.vw_net.specs.declared.flat.Flat.{Flat}
use Rattle.vw_net.specs.declared.ordered.Ordered.{Ordered}
use Rattle.vw_net.specs.Order.{is_gate}
use Rattle.vw_plan.specs.declared.board.Board.{Board}
use Rattle.vw_plan.specs.declared.plan.Plan.{Plan}
use Rattle.vw_plan.specs.Nets.{driving_cell, greatest_read, node_of}
use Rattle.vw_plan.specs.PlannedBoard.{PlannedBoard, planned_board, home}
use Rattle.vw_plan.specs.Lead.{brought_at, level_lead, lead, usable}
use Rattle.vw_check.specs.declared.fault.PlanFault.{PlanFault}
use Rattle.vw_check.specs.declared.fault.PlanFault.TheVariants.{BrokenRoute, TooEarly, LateLatch}
use Rattle.vw_net.specs.FirstFound.{first_at, first_some, found_unless}
use Rattle.vw_check.specs.HopFaults.{bad_pin, out_of_order, past_period, pin_clash, fits_route, broken_route}
use Rattle.vw_check.specs.MicrocycleFaults.{early_wire, late_cell}
use Rattle.vw_check.specs.Faults.{cell_fault, wire_fault, hop_fault, microcycle_fault, plan_fault}

module _ (board : Board) (plan : Plan) (one other : Ordered) (same : one.flat ≡ other.flat) where
  abbrev here : PlannedBoard
  here = planned_board one board plan

  abbrev there : PlannedBoard
  there = planned_board other board plan

  level_same : (level node net : ℕ) → level_lead level here node net ≡ level_lead level there node net
  level_same zero node net = refl
  level_same (suc level) node net =
      ap₂ (λ (flat : Flat) (leads : ℕ → ℕ). if node_of flat plan.chip_of net == node then greatest_read leads (driving_cell flat net) else brought_at here node net) same (fun_ext (level_same level node))

  lead_same : (node net : ℕ) → lead here node net ≡ lead there node net
  unfolding lead
  lead_same node net =
      ap (λ (flat : Flat). level_lead (length flat.cells + 1) here node net) same ∙ level_same (length other.flat.cells + 1) node net

  usable_same : (node net : ℕ) → usable here node net ≡ usable there node net
  usable_same node net =
      ap₂ (λ (flat : Flat) (at : ℕ). at + (if is_gate (driving_cell flat net) && node_of flat plan.chip_of net == node then board.settle else 0)) same (lead_same node net)

  home_usable_same : (net : ℕ) → usable here (home here net) net ≡ usable there (home there net) net
  home_usable_same net =
      ap (λ (flat : Flat). usable here (node_of flat plan.chip_of net) net) same ∙ usable_same (home there net) net

  route_same : broken_route here ≡ broken_route there
  route_same =
      ap (λ (flat : Flat).
      first_at
      (λ number wire.
      if length wire.hops == 0 then Some (BrokenRoute number 0)
      else first_at (λ place hop. found_unless (fits_route board.links (node_of flat plan.chip_of wire.net) wire place hop) (BrokenRoute number place)) 0 wire.hops) 0 plan.wires) same

  early_same : early_wire here ≡ early_wire there
  early_same = fun_ext (λ number. fun_ext (λ wire.
      ap (λ (microcycle : ℕ). option_and_then (λ hop. found_unless (nat_le microcycle hop.at) (TooEarly number hop.at microcycle)) (slice_get wire.hops 0)) (home_usable_same wire.net)))

  microcycle_same : (number d : ℕ) → usable here (home here (one.flat.inputs + number)) d ≡ usable there (home there (other.flat.inputs + number)) d
  microcycle_same number d =
      ap (λ (flat : Flat). usable here (node_of flat plan.chip_of (flat.inputs + number)) d) same ∙ usable_same (home there (other.flat.inputs + number)) d

  cell_same : (number : ℕ) (cell : Cell) → late_cell here number cell ≡ late_cell there number cell
  cell_same number (Gate ins cover) = refl
  cell_same number (Latch d init) = ap (λ (microcycle : ℕ). found_unless (nat_le microcycle plan.period) (LateLatch number microcycle)) (microcycle_same number d)

  late_same : late_cell here ≡ late_cell there
  late_same = fun_ext (λ number. fun_ext (cell_same number))

  pub fault_same : plan_fault here ≡ plan_fault there
  unfolding plan_fault
  fault_same =
      let cells = ap (λ (flat : Flat). cell_fault flat board plan) same in
      let wires = ap (λ (flat : Flat). wire_fault flat plan) same in
      let hops = ap (λ (route : Option PlanFault). first_some (route ∷ bad_pin board plan ∷ out_of_order board plan ∷ past_period board plan ∷ pin_clash plan ∷ [])) route_same in
      let microcycles = ap₂ (λ (early : Option PlanFault) (late : Option PlanFault). first_some (early ∷ late ∷ []))
      (ap (λ (found : ℕ → _ → Option PlanFault). first_at found 0 plan.wires) early_same)
      (ap₂ (λ (found : ℕ → Cell → Option PlanFault) (flat : Flat). first_at found 0 flat.cells) late_same same) in
      let first : Option PlanFault = cell_fault other.flat board plan in
      let second : Option PlanFault = wire_fault other.flat plan in
      ap (λ (found : Option PlanFault). first_some (found ∷ wire_fault one.flat plan ∷ hop_fault here ∷ microcycle_fault here ∷ [])) cells
      ∙ ap (λ (found : Option PlanFault). first_some (first ∷ found ∷ hop_fault here ∷ microcycle_fault here ∷ [])) wires
      ∙ ap (λ (found : Option PlanFault). first_some (first ∷ second ∷ found ∷ microcycle_fault here ∷ [])) hops
      ∙ ap (λ (found : Option PlanFault). first_some (first ∷ second ∷ hop_fault there ∷ found ∷ [])) microcycles
