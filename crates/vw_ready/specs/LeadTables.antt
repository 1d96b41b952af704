-- Arrivals and leads by tables.
use Rattle.std.specs.Prelude.{◌≡◌, ◌<◌, ◌+◌, ◌^◌, ℕ, List, length, map, slice_index_or}
use Rattle.std.specs.List.{All}
use Rattle.vw_plan.specs.PlannedBoard.{PlannedBoard, home, planned_board}
use Rattle.vw_plan.specs.Lead.{after_last, brought_at, lead, usable}
use Rattle.vw_ready.specs.declared.lead_table.LeadTable.{LeadTable}
use Rattle.vw_ready.specs.Leads as by_table
use Rattle.vw_ready.specs.Leads.{usable_in}
use Rattle.vw_ready.specs.declared.wired.Wired.{Wired}

-- the netlist, the board and the plan
abbrev pub planned_in : Wired → PlannedBoard
planned_in wired = planned_board wired.ordered.now wired.board.now wired.plan.now

-- one past the arrival by each wire
abbrev pub arrivals_of : PlannedBoard → List ℕ
arrivals_of planned = map (λ wire. after_last planned.board.links wire.hops) planned.plan.wires

pub record AreArrivals (planned : PlannedBoard) (arrivals : List ℕ) : Type 0 where
  pub are : arrivals ≡ arrivals_of planned
  pub early : All (λ microcycle. microcycle < 2 ^ 63) arrivals

-- the lead of a net at a node, from leads at their own nodes
abbrev pub lead_from_homes : PlannedBoard → List ℕ → ℕ → ℕ → ℕ
lead_from_homes planned leads node net = by_table.lead_by planned.ordered.flat planned.plan.chip_of (λ net node. brought_at planned node net) leads node net

-- for each net its lead at its own node
pub record AreLeads (planned : PlannedBoard) (leads : List ℕ) : Type 0 where
  pub nets : length leads ≡ planned.ordered.flat.inputs + length planned.ordered.flat.cells
  pub low : All (λ number. number < 2 ^ 63) leads
  pub leads_at : (net : ℕ) → net < length leads → slice_index_or leads net 0 ≡ lead planned (home planned net) net

-- what it knows is right
pub record IsLeadTable (planned : PlannedBoard) (known : LeadTable) : Type 0 where
  pub netlist : known.ordered.now ≡ planned.ordered
  pub right : (node net : ℕ) → net < planned.ordered.flat.inputs + length planned.ordered.flat.cells → usable_in known node net ≡ usable planned node net
