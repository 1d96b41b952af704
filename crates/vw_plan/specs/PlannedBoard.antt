-- A design in order, a board, and a plan for them.
use Rattle.std.specs.Prelude.{ℕ}
use Rattle.vw_net.specs.declared.ordered.Ordered.{Ordered}
use Rattle.vw_plan.specs.Nets.{node_of}
use Rattle.vw_plan.specs.declared.board.Board.{Board}
use Rattle.vw_plan.specs.declared.plan.Plan.{Plan}

pub record PlannedBoard : Type 0 where
  pub ordered : Ordered
  pub board : Board
  pub plan : Plan

-- the node of a net, by the plan
abbrev pub home : PlannedBoard → ℕ → ℕ
home planned net = node_of planned.ordered.flat planned.plan.chip_of net

-- these three
abbrev pub planned_board : Ordered → Board → Plan → PlannedBoard
planned_board ordered board plan = record { ordered = ordered; board = board; plan = plan }
