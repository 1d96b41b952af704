-- What no plan for given chips can undercut. Source: this project.
use Rattle.std.specs.Prelude.{◌≡◌, ◌≤◌, ℕ}
use Rattle.vw_plan.specs.declared.plan.Plan.{Plan}
use Rattle.vw_plan.specs.PlannedBoard.{planned_board}
use Rattle.vw_plan.specs.Sound.{IsSound}
use Rattle.vw_bound.specs.PlacedDesigns.{PlacedDesign}

-- no sound plan with these chips has a smaller period
abbrev pub IsPeriodBound : PlacedDesign → ℕ → Type 0
IsPeriodBound placed bound = (plan : Plan) → plan.chip_of ≡ placed.chip_of → IsSound (planned_board placed.ordered placed.board plan) → bound ≤ plan.period
