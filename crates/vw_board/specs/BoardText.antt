-- Board texts: the board that a text spells, or its fault. Source: this project.
use Rattle.std.specs.Prelude.{◌≡◌, ◌<◌, ◌≤◌, ℕ, Bool, true, false, List, [], length, drop, Option, Some, None, ⊤, ◌⊎◌}
use Rattle.std.specs.Option.{option_or}
use Rattle.vw_text.specs.declared.line.Line.{Line}
use Rattle.vw_text.specs.WordLines.{word_lines}
use Rattle.vw_plan.specs.declared.link.Link.{Link}
use Rattle.vw_plan.specs.declared.board.Board.{Board}
use Rattle.vw_plan.specs.Walks.{IsWalk, IsReachable}
use Rattle.vw_board.specs.declared.fault.BoardFault.{BoardFault}
use Rattle.vw_board.specs.declared.fault.BoardFault.TheVariants.{TooLarge, BadLine, BadNumber, SelfLink, DuplicateLink, PinsExceeded, Unreachable, NoMemory}
use Rattle.vw_board.specs.Headers.{headers_fault, version_of, chips_of, cells_of, settle_of, pins_of}
use Rattle.vw_board.specs.LinkLines.{first_link_fault, links_of}
use Rattle.vw_board.specs.Pins.{AreEnoughPins, IsFirstOver}
use Rattle.vw_board.specs.declared.limits.TheConstants.{MOST_BOARD_BYTES}

-- the fault of the first line at fault
abbrev pub line_fault : List Line → Option BoardFault
line_fault lines = option_or (headers_fault lines) (first_link_fault (version_of lines) (chips_of lines) [] (drop 5 lines))

-- a pair of nodes comes before another: by the first, then by the second
abbrev pub ComesBefore : ℕ → ℕ → ℕ → ℕ → Type 0
ComesBefore from to other_from other_to = (from < other_from) ⊎ ((from ≡ other_from) × (to < other_to))

-- the first pair of nodes with no walk from one to the other
pub record IsFirstApart (chips : ℕ) (links : List Link) (from to : ℕ) : Type 0 where
  pub from_node : from ≤ chips
  pub to_node : to ≤ chips
  pub apart : (nodes : List ℕ) → ¬ (IsWalk links from nodes to)
  pub first : (a b : ℕ) → a ≤ chips → b ≤ chips → ComesBefore a b from to → IsReachable links a b

-- why links that aren't at fault make no board: pins are tried first, then walks
abbrev pub RefusesLinks : ℕ → ℕ → List Link → BoardFault → Type 0
RefusesLinks chips pins links TooLarge = ⊥
RefusesLinks chips pins links (BadLine line) = ⊥
RefusesLinks chips pins links (BadNumber line) = ⊥
RefusesLinks chips pins links (SelfLink a) = ⊥
RefusesLinks chips pins links (DuplicateLink a b) = ⊥
RefusesLinks chips pins links (PinsExceeded chip used limit) = IsFirstOver chips pins links chip used limit
RefusesLinks chips pins links (Unreachable a b) = AreEnoughPins chips pins links × IsFirstApart chips links a b
RefusesLinks chips pins links NoMemory = ⊤

-- why lines spell no board; want of memory says nothing of them
abbrev pub RefusesLines : List Line → BoardFault → Type 0
RefusesLines lines TooLarge = ⊥
RefusesLines lines (BadLine line) = line_fault lines ≡ Some (BadLine line)
RefusesLines lines (BadNumber line) = line_fault lines ≡ Some (BadNumber line)
RefusesLines lines (SelfLink a) = line_fault lines ≡ Some (SelfLink a)
RefusesLines lines (DuplicateLink a b) = line_fault lines ≡ Some (DuplicateLink a b)
RefusesLines lines (PinsExceeded chip used limit) =
    (line_fault lines ≡ None) × RefusesLinks (chips_of lines) (pins_of lines) (links_of lines) (PinsExceeded chip used limit)
RefusesLines lines (Unreachable a b) =
    (line_fault lines ≡ None) × RefusesLinks (chips_of lines) (pins_of lines) (links_of lines) (Unreachable a b)
RefusesLines lines NoMemory = ⊤

-- lines spell a board: no line is at fault, and the chips have enough pins
pub record IsBoardOfLines (lines : List Line) (board : Board) : Type 0 where
  pub fine : line_fault lines ≡ None
  pub enough : AreEnoughPins (chips_of lines) (pins_of lines) (links_of lines)
  pub chips : board.chips ≡ chips_of lines
  pub cells : board.cells ≡ cells_of lines
  pub settle : board.settle ≡ settle_of lines
  pub links : board.links ≡ links_of lines

-- a text spells this board
pub record Spells (text : List ℕ) (board : Board) : Type 0 where
  pub small : length text ≤ MOST_BOARD_BYTES
  pub spells : IsBoardOfLines (word_lines text) board

-- a text is refused for this reason: it is too large, or its lines are
abbrev pub Refuses : List ℕ → BoardFault → Type 0
Refuses text fault =
    ((fault ≡ TooLarge) × (MOST_BOARD_BYTES < length text)) ⊎ ((length text ≤ MOST_BOARD_BYTES) × RefusesLines (word_lines text) fault)

-- whether a fault lies in the text; want of memory doesn't
abbrev pub is_text_fault : BoardFault → Bool
is_text_fault TooLarge = true
is_text_fault (BadLine line) = true
is_text_fault (BadNumber line) = true
is_text_fault (SelfLink a) = true
is_text_fault (DuplicateLink a b) = true
is_text_fault (PinsExceeded chip used limit) = true
is_text_fault (Unreachable a b) = true
is_text_fault NoMemory = false
