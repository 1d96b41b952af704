-- Plans for given chips: all that is asked of a good plan but that no other chips are better. Source: this project.
use Rattle.std.specs.Prelude.{◌≡◌, ℕ, List}
use Rattle.vw_net.specs.declared.ordered.Ordered.{Ordered}
use Rattle.vw_plan.specs.declared.board.Board.{Board}
use Rattle.vw_plan.specs.declared.checked.Checked.{Checked}
use Rattle.vw_plan.specs.declared.plan.Plan.{Plan}
use Rattle.vw_plan.specs.Earliest.{HasEarliestHops, HasLeastPeriod}
use Rattle.vw_plan.specs.Good.{AreInOrder, AreShort}
use Rattle.vw_plan.specs.PlannedBoard.{planned_board}
use Rattle.vw_plan.specs.Sound.{IsSound}

-- a sound plan with exactly these chips: its wires by net and then by node, each as short as it can be, each hop earliest, and
-- no smaller period is sound
pub record IsPlanFor (ordered : Ordered) (board : Board) (chip_of : List ℕ) (plan : Plan) : Type 0 where
  pub chips : plan.chip_of ≡ chip_of
  pub sound : IsSound (planned_board ordered board plan)
  pub in_order : AreInOrder (planned_board ordered board plan)
  pub short : AreShort (planned_board ordered board plan)
  pub earliest : HasEarliestHops (planned_board ordered board plan)
  pub least_period : HasLeastPeriod (planned_board ordered board plan)

-- the design on the board, with such a plan
pub record IsCompiledFor (ordered : Ordered) (board : Board) (chip_of : List ℕ) (checked : Checked) : Type 0 where
  pub ordered_same : checked.ordered ≡ ordered
  pub board_same : checked.board ≡ board
  pub plan_is : IsPlanFor ordered board chip_of checked.plan
