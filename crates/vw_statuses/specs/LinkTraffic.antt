-- What the tables of `run` say of the words that links carry.
use Rattle.std.specs.Prelude.{◌≡◌, ℕ, Bool, List, length}
use Rattle.vw_net.specs.declared.ordered.Ordered.{Ordered}
use Rattle.vw_design.specs.Paths.{Word}
use Rattle.vw_design.specs.Clocks.{columns}
use Rattle.vw_front.specs.Designs.{WatchedDesign, IsWatchedDesignOf}
use Rattle.vw_course.specs.Outside.{carried}
use Rattle.vw_plan.specs.declared.board.Board.{Board}
use Rattle.vw_plan.specs.declared.plan.Plan.{Plan}
use Rattle.vw_plan.specs.PlannedBoard.{planned_board}
use Rattle.vw_courses.specs.Messages.{Call}
use Rattle.vw_courses.specs.Commands.{Scripts, board_scripts}
use Rattle.vw_courses.specs.Kinds.{IsRowsOf}

-- links are used as some planned board of this kind uses them, where the last output may be a trigger
pub record UsesBoard (until : Bool) (workers : ℕ) (unknown : Bool) (Is : Ordered → Board → Plan → Type 0) (scripts : Scripts) : Type 0 where
  pub ordered : Ordered
  pub board : Board
  pub plan : Plan
  pub is : Is ordered board plan
  pub are : scripts ≡ board_scripts until workers unknown (planned_board ordered board plan)

-- each link has carried, behind what it had before, exactly its words of such a planned board, over all rows of the stimulus, or
-- over those that are worked out until the trigger is 1
pub record CarriesAll (probes : List Word) (until : Bool) (workers : ℕ) (unknown : Bool) (d s : List ℕ) (Is : Ordered → Board → Plan → Type 0) (call : Call) : Type 0 where
  pub spelled : WatchedDesign
  pub rows : List (List Bool)
  pub design_is : IsWatchedDesignOf probes d spelled
  pub rows_are : IsRowsOf (length (columns spelled.design)) s rows
  pub ordered : Ordered
  pub board : Board
  pub plan : Plan
  pub is : Is ordered board plan
  pub links : call.after.links ≡ carried (board_scripts until workers unknown (planned_board ordered board plan) rows) call.before.links
