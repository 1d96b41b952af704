-- What an emitted board shows, as a design, of the design that it was made from. Source: this project.
use Rattle.std.specs.Prelude.{◌≡◌, ℕ, Bool, List, [], ◌++◌, Some, slice_get}
use Rattle.vw_net.specs.Cells.{start_values}
use Rattle.vw_net.specs.History.{History, flat_history}
use Rattle.vw_design.specs.PathHistory.{path_history}
use Rattle.vw_design.specs.declared.design.Design.{Design}
use Rattle.vw_plan.specs.PlannedBoard.{PlannedBoard}
use Rattle.vw_emit_hardware.specs.Shown.{held_rows, last_microclock}

-- the history of the design that is planned, and that of its board, which has each row for all microclocks of a clock
abbrev pub own_history : PlannedBoard → Bool → List (List Bool) → History
own_history planned unknown rows = flat_history planned.ordered.flat (start_values unknown planned.ordered.flat.cells) rows

abbrev pub board_history : PlannedBoard → Design → Bool → List (List Bool) → History
board_history planned board unknown rows = path_history board [] unknown (held_rows planned rows)

-- at the last microclock of each clock the board has the outputs of the clock, and then the latch values before its step
pub record ActsAs (planned : PlannedBoard) (board : Design) (unknown : Bool) (rows : List (List Bool)) : Type 0 where
  pub at_last : (clock : ℕ) (outputs state : List Bool)
      → slice_get (own_history planned unknown rows).outputs clock ≡ Some outputs
      → slice_get (own_history planned unknown rows).states clock ≡ Some state
      → slice_get (board_history planned board unknown rows).outputs (last_microclock planned clock)
      ≡ Some (outputs ++ state)
