-- What a node may see of its job.
use Rattle.std.specs.Prelude.{◌+◌, ℕ, length}
use Rattle.vw_plan.specs.PlannedBoard.{PlannedBoard, planned_board}
use Rattle.vw_prog.specs.declared.job.Share.{Share}

-- the netlist, the board and the plan
abbrev pub planned_in : Share → PlannedBoard
planned_in share = planned_board share.checked.now.ordered share.checked.now.board share.checked.now.plan

-- how many nets there are
abbrev pub net_count : Share → ℕ
net_count share = share.checked.now.ordered.flat.inputs + length share.checked.now.ordered.flat.cells
