-- What the compiler answers.
use Rattle.std.specs.Prelude.{◌≡◌, ◌<◌, ◌*◌, length}
use Rattle.vw_net.specs.declared.ordered.Ordered.{Ordered}
use Rattle.vw_plan.specs.declared.board.Board.{Board}
use Rattle.vw_plan.specs.declared.checked.Checked.{Checked}
use Rattle.vw_plan.specs.Good.{IsGood}
use Rattle.vw_plan.specs.PlannedBoard.{planned_board}
use Rattle.vw_run.specs.declared.fault.CompileFault.{CompileFault}
use Rattle.vw_run.specs.declared.fault.CompileFault.TheVariants.{TooManyCells, NoMemory}
use Rattle.vw_run.specs.declared.fault.CompileRefused.{CompileRefused}

-- the design on the board, with a good plan
pub record IsCompiled (ordered : Ordered) (board : Board) (checked : Checked) : Type 0 where
  pub ordered_same : checked.ordered ≡ ordered
  pub board_same : checked.board ≡ board
  pub good : IsGood (planned_board ordered board checked.plan)

-- the two numbers by which a design has no room; of want of memory nothing is said
abbrev pub IsCompileFault : Ordered → Board → CompileFault → Type 0
IsCompileFault ordered board (TooManyCells cells room) = (cells ≡ length ordered.flat.cells) × (room ≡ board.chips * board.cells) × (room < cells)
IsCompileFault ordered board NoMemory = Unit {0}

-- a refusal, with the design and the board as they were handed in
pub record IsCompileRefused (ordered : Ordered) (board : Board) (refused : CompileRefused) : Type 0 where
  pub fault : IsCompileFault ordered board refused.fault
  pub ordered_same : refused.ordered ≡ ordered
  pub board_same : refused.board ≡ board
