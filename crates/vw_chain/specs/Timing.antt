-- A plan whose nets are timed.
use Rattle.std.specs.Prelude.{◌<◌, ◌+◌, ℕ, length}
use Rattle.vw_plan.specs.PlannedBoard.{PlannedBoard}
use Rattle.vw_ready.specs.LeadTables.{planned_in}
use Rattle.vw_chain.specs.declared.timed.Timed.{Timed}

-- the netlist, the board and the plan
abbrev pub planned_of : Timed → PlannedBoard
planned_of timed = planned_in timed.wired.now

-- a number of a net of the netlist
abbrev pub IsNet : Timed → ℕ → Type 0
IsNet timed net = net < timed.wired.now.ordered.now.flat.inputs + length timed.wired.now.ordered.now.flat.cells
