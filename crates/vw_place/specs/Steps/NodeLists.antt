-- Lists of the nodes of a board, as numberings.
use Rattle.std.specs.Prelude.{◌≡◌, ◌+◌, ℕ, List, length, slice_index_or}
use Rattle.std.specs.List.{range_with_len}
use Rattle.std.specs.List.Sorted.{IsPermutation}
use Rattle.vw_plan.specs.declared.board.Board.{Board}
use Rattle.vw_place.specs.Numbering.{IsNumbering}

-- the number that a node has by a list of numbers; a node past the end of the list keeps its own
abbrev pub renumbered_node : List ℕ → ℕ → ℕ
renumbered_node at node = slice_index_or at node node

-- a board with other numbers for its nodes
pub record NumberedBoard : Type 0 where
  pub board : Board
  pub numbers : List ℕ

-- a list of the nodes of a board in some order, as a numbering
pub record IsNodeList (board : Board) (at : List ℕ) : Type 0 where
  pub long : length at ≡ board.chips + 1
  pub moves : IsPermutation (range_with_len 0 (board.chips + 1)) at
  pub from : ℕ → ℕ
  pub numbering : IsNumbering board.chips (renumbered_node at) from
