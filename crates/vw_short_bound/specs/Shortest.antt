-- What no plan with shortest wires can undercut. Source: this project.
use Rattle.std.specs.Prelude.{◌≡◌, ◌≤◌, ◌==◌, ◌+◌, ◌&&◌, ℕ, Bool}
use Rattle.vw_plan.specs.declared.board.Board.{Board}
use Rattle.vw_plan.specs.declared.link.Link.{Link}
use Rattle.vw_plan.specs.declared.plan.Plan.{Plan}
use Rattle.vw_plan.specs.Distance.{distance}
use Rattle.vw_plan.specs.Good.{AreShort}
use Rattle.vw_plan.specs.PlannedBoard.{planned_board}
use Rattle.vw_plan.specs.Sound.{IsSound}
use Rattle.vw_bound.specs.PlacedDesigns.{PlacedDesign}

-- no sound plan with these chips, in which each wire has as many hops as its nodes are apart, has a smaller period
abbrev pub IsShortBound : PlacedDesign → ℕ → Type 0
IsShortBound placed bound = (plan : Plan) → plan.chip_of ≡ placed.chip_of → IsSound (planned_board placed.ordered placed.board plan)
    → AreShort (planned_board placed.ordered placed.board plan) → bound ≤ plan.period

-- whether a link can be the last of a shortest walk from a node to another
abbrev pub can_be_last : Board → ℕ → ℕ → Link → Bool
can_be_last board from to link = link.to == to && distance board from link.from + 1 == distance board from to
