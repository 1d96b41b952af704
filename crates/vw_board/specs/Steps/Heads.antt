-- The numbers of the first five lines of a board text.
use Rattle.std.specs.Prelude.{◌≡◌, ◌≤◌, List, length, None}
use Rattle.vw_text.specs.declared.line.Line.{Line}
use Rattle.vw_board.specs.declared.head.BoardHead.{BoardHead}
use Rattle.vw_board.specs.Headers.{headers_fault, version_of, chips_of, cells_of, settle_of, pins_of}
use Rattle.vw_net.specs.declared.limits.TheConstants.{MOST_CELLS}

-- numbers that a board can have
pub record IsHeadInRange (head : BoardHead) : Type 0 where
  pub some_chips : 1 ≤ head.chips
  pub few_chips : head.chips ≤ 32
  pub some_cells : 1 ≤ head.cells
  pub few_cells : head.cells ≤ MOST_CELLS
  pub quick : head.settle ≤ 15

-- none of the lines is at fault, and these are their numbers
pub record IsBoardHead (lines : List Line) (head : BoardHead) : Type 0 where
  pub fine : headers_fault lines ≡ None
  pub version : head.version ≡ version_of lines
  pub chips : head.chips ≡ chips_of lines
  pub cells : head.cells ≡ cells_of lines
  pub settle : head.settle ≡ settle_of lines
  pub pins : head.pins ≡ pins_of lines
  pub in_range : IsHeadInRange head
  pub long : 5 ≤ length lines
