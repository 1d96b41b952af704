-- A design on a board, as the tables of commands speak of them.
use Rattle.std.specs.Prelude.{ℕ, List}
use Rattle.vw_net.specs.declared.ordered.Ordered.{Ordered}
use Rattle.vw_design.specs.Paths.{Word}
use Rattle.vw_plan.specs.declared.board.Board.{Board}
use Rattle.vw_board.specs.BoardText.{Spells as SpellsBoard}
use Rattle.vw_front.specs.Designs.{IsNetlistOf}
use Rattle.vw_courses.specs.declared.vocabulary.Reason.{Reason}
use Rattle.vw_courses.specs.Kinds.{IsBadBoard}

-- a board text has a fault
abbrev pub IsNoBoard : List ℕ → Type 0
IsNoBoard b = (reason : Reason) × IsBadBoard b reason

-- a netlist of the design of a text with the nets that probes find, and the board of another
pub record AreSpelledOn (probes : List Word) (d b : List ℕ) (ordered : Ordered) (board : Board) : Type 0 where
  pub netlist : IsNetlistOf probes d ordered
  pub board_is : SpellsBoard b board
