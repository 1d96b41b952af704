-- Schedules: sound plans whose wires follow given routes, each hop as early as it can be. Source: the papers on Virtual Wires,
-- for wires that are sent in microcycles; the exact rules are this project's.
use Rattle.std.specs.Prelude.{◌≡◌, ℕ, List}
use Rattle.std.specs.List.{AllZip}
use Rattle.vw_net.specs.declared.ordered.Ordered.{Ordered}
use Rattle.vw_plan.specs.declared.board.Board.{Board}
use Rattle.vw_plan.specs.declared.need.Route.{Route}
use Rattle.vw_plan.specs.declared.plan.Plan.{Plan}
use Rattle.vw_plan.specs.Earliest.{HasEarliestHops, HasLeastPeriod}
use Rattle.vw_plan.specs.Routes.{FollowsRoute}
use Rattle.vw_plan.specs.PlannedBoard.{planned_board}
use Rattle.vw_plan.specs.Sound.{IsSound}

-- a plan for these chips and routes
pub record IsSchedule (ordered : Ordered) (board : Board) (chip_of : List ℕ) (routes : List Route) (plan : Plan) : Type 0 where
  pub chips : plan.chip_of ≡ chip_of
  pub follows : AllZip FollowsRoute routes plan.wires
  pub sound : IsSound (planned_board ordered board plan)
  pub earliest : HasEarliestHops (planned_board ordered board plan)
  pub least_period : HasLeastPeriod (planned_board ordered board plan)
