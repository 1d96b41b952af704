-- A design on a board, with the chip of each cell.
use Rattle.std.specs.Prelude.{ℕ, List}
use Rattle.vw_net.specs.declared.flat.Flat.{Flat}
use Rattle.vw_net.specs.declared.ordered.Ordered.{Ordered}
use Rattle.vw_plan.specs.declared.board.Board.{Board}
use Rattle.vw_plan.specs.PlannedBoard.{PlannedBoard}
use Rattle.vw_plan.specs.Nets.{node_of}

pub record PlacedDesign : Type 0 where
  pub ordered : Ordered
  pub board : Board
  pub chip_of : List ℕ

-- these three
abbrev pub placed_design : Ordered → Board → List ℕ → PlacedDesign
placed_design ordered board chip_of = record { ordered = ordered; board = board; chip_of = chip_of }

-- those of a plan
abbrev pub placed_by : PlannedBoard → PlacedDesign
placed_by planned = placed_design planned.ordered planned.board planned.plan.chip_of

-- its netlist
abbrev pub flat_of : PlacedDesign → Flat
flat_of placed = placed.ordered.flat

-- the node of a net
abbrev pub home_in : PlacedDesign → ℕ → ℕ
home_in placed net = node_of placed.ordered.flat placed.chip_of net
