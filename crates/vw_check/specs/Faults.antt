-- The fault of a plan: the first that is there, in this order, each at its first place. A plan without one is sound.
use Rattle.std.specs.Prelude.{ℕ, List, [], ◌∷◌, Option}
use Rattle.vw_net.specs.declared.flat.Flat.{Flat}
use Rattle.vw_plan.specs.declared.board.Board.{Board}
use Rattle.vw_plan.specs.declared.plan.Plan.{Plan}
use Rattle.vw_plan.specs.PlannedBoard.{PlannedBoard}
use Rattle.vw_check.specs.declared.fault.PlanFault.{PlanFault}
use Rattle.vw_net.specs.FirstFound.{first_some}
use Rattle.vw_check.specs.CellFaults.{wrong_cells, zero_period, bad_chip, overfull}
use Rattle.vw_check.specs.WireFaults.{missing_wire, extra_wire}
use Rattle.vw_check.specs.HopFaults.{broken_route, bad_pin, out_of_order, past_period, pin_clash}
use Rattle.vw_check.specs.MicrocycleFaults.{too_early, late_latch}

-- the chips of the cells, and the period
abbrev pub cell_fault : Flat → Board → Plan → Option PlanFault
cell_fault flat board plan =
    first_some (wrong_cells flat plan.chip_of ∷ zero_period plan ∷ bad_chip board plan.chip_of ∷ overfull board plan.chip_of ∷ [])

-- the chips alone, where no plan has them yet
abbrev pub chips_fault : Flat → Board → List ℕ → Option PlanFault
chips_fault flat board chip_of = first_some (wrong_cells flat chip_of ∷ bad_chip board chip_of ∷ overfull board chip_of ∷ [])

-- the wires as a whole
abbrev pub wire_fault : Flat → Plan → Option PlanFault
wire_fault flat plan = first_some (missing_wire flat plan ∷ extra_wire flat plan ∷ [])

-- their hops
abbrev pub hop_fault : PlannedBoard → Option PlanFault
hop_fault planned = first_some (
    broken_route planned
    ∷ bad_pin planned.board planned.plan
    ∷ out_of_order planned.board planned.plan
    ∷ past_period planned.board planned.plan
    ∷ pin_clash planned.plan
    ∷ [])

-- when nets are usable
abbrev pub microcycle_fault : PlannedBoard → Option PlanFault
microcycle_fault planned = first_some (too_early planned ∷ late_latch planned ∷ [])

unfoldable pub plan_fault : PlannedBoard → Option PlanFault
plan_fault planned = first_some (
    cell_fault planned.ordered.flat planned.board planned.plan
    ∷ wire_fault planned.ordered.flat planned.plan
    ∷ hop_fault planned
    ∷ microcycle_fault planned
    ∷ [])
