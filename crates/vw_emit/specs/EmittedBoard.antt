-- What the text of an emitted board spells, and what that design does: whoever simulates it, by whatever tool, finds the outputs
-- and latch values of the design that was planned. Source: this project.
use Rattle.std.specs.Prelude.{◌≡◌, ◌+◌, ◌*◌, ◌++◌, ℕ, Bool, List, [], Some, length, replicate, slice_get}
use Rattle.std.specs.List.{flat_map}
use Rattle.vw_design.specs.Clocks.{columns}
use Rattle.vw_design.specs.PathHistory.{path_history}
use Rattle.vw_design.specs.declared.design.Design.{Design}
use Rattle.vw_front.specs.Designs.{IsDesignOf}
use Rattle.vw_plan.specs.PlannedBoard.{PlannedBoard}
use Rattle.vw_emit_names.specs.Shows.{ActsAs}

-- the text spells a design that runs, with a column for each input of the planned netlist. Over held rows it shows at the last
-- microclock of each clock the outputs and then the latch values of the netlist, for all rows and both values of what starts
-- unknown
pub record IsEmittedBoard (planned : PlannedBoard) (text : List ℕ) : Type 0 where
  pub board : Design
  pub is : IsDesignOf text board
  pub as_wide : length (columns board) ≡ planned.ordered.flat.inputs
  pub acts : (unknown : Bool) (rows : List (List Bool)) → ActsAs planned board unknown rows

-- ---- the same between designs

-- each row held for a number of microclocks that is one more than the period
abbrev pub held : ℕ → List (List Bool) → List (List Bool)
held period rows = flat_map (λ row. replicate (period + 1) row) rows

-- the last microclock of a clock; both are numbered from 0
abbrev pub last_of : ℕ → ℕ → ℕ
last_of period clock = clock * (period + 1) + period

-- at the last microclock of each clock a board over held rows shows the outputs that a design over the rows has at that clock, and
-- then its latch values before the step, in the order of its latches
pub record ShowsDesign (period : ℕ) (board design : Design) (unknown : Bool) (rows : List (List Bool)) : Type 0 where
  pub at_last : (clock : ℕ) (outputs state : List Bool)
      → slice_get (path_history design [] unknown rows).outputs clock ≡ Some outputs
      → slice_get (path_history design [] unknown rows).states clock ≡ Some state
      → slice_get (path_history board [] unknown (held period rows)).outputs (last_of period clock) ≡ Some (outputs ++ state)

-- the text spells a design that runs, with as many columns as a design, and shows that design, for all rows and both values of
-- what starts unknown
pub record IsBoardOfDesign (period : ℕ) (design : Design) (text : List ℕ) : Type 0 where
  pub board : Design
  pub is : IsDesignOf text board
  pub as_wide : length (columns board) ≡ length (columns design)
  pub shows : (unknown : Bool) (rows : List (List Bool)) → ShowsDesign period board design unknown rows
