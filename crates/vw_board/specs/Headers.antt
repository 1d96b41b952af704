-- The first five lines of a board text, at the places 0 to 4 of its lines with words. Source: this project.
use Rattle.std.specs.Prelude.{◌+◌, ℕ, not, List, [], ◌∷◌, slice_get, Option, Some, None, is_none, codes, if◌then◌else◌}
use Rattle.std.specs.Option.{option_map_or, option_or}
use Rattle.vw_text.specs.declared.line.Line.{Line}
use Rattle.vw_board.specs.declared.fault.BoardFault.{BoardFault}
use Rattle.vw_board.specs.declared.fault.BoardFault.TheVariants.{BadLine, BadNumber}
use Rattle.vw_board.specs.Words.{is_line_of, number_within, number_at}
use Rattle.vw_net.specs.declared.limits.TheConstants.{MOST_CELLS}
use Rattle.vw_plan.specs.declared.limits.TheConstants.{MOST_CHIPS, MOST_SETTLE}
use Rattle.vw_board.specs.declared.limits.TheConstants.{MOST_PINS}

-- one of these lines: a word, and a number from the least to the greatest
pub record Header : Type 0 where
  pub word : List ℕ
  pub least : ℕ
  pub greatest : ℕ

abbrev pub board_header : Header
board_header = record { word = codes "board"; least = 1; greatest = 2 }

abbrev pub chips_header : Header
chips_header = record { word = codes "chips"; least = 1; greatest = MOST_CHIPS }

abbrev pub cells_header : Header
cells_header = record { word = codes "cells"; least = 1; greatest = MOST_CELLS }

abbrev pub settle_header : Header
settle_header = record { word = codes "settle"; least = 0; greatest = MOST_SETTLE }

abbrev pub pins_header : Header
pins_header = record { word = codes "pins"; least = 1; greatest = MOST_PINS }

-- the fault of a line that has to be one of these; of two the one of the lesser number
abbrev pub header_fault : Header → Line → Option BoardFault
header_fault header line =
    if not (is_line_of header.word 2 line) then Some (BadLine line.number)
    else if is_none (number_within header.least header.greatest 1 line) then Some (BadNumber line.number)
    else None

-- one more than the number of the last of some lines; 1 where there is none
abbrev pub next_number : List Line → ℕ
next_number [] = 1
next_number (line ∷ []) = line.number + 1
next_number (line ∷ next ∷ lines) = next_number (next ∷ lines)

-- the fault at a place of the lines; a text that ends before has it on the line that would come next
abbrev pub place_fault : List Line → Header → Option Line → Option BoardFault
place_fault lines header None = Some (BadLine (next_number lines))
place_fault lines header (Some line) = header_fault header line

-- the first fault of the first five lines
abbrev pub headers_fault : List Line → Option BoardFault
headers_fault lines =
    option_or (place_fault lines board_header (slice_get lines 0))
    (option_or (place_fault lines chips_header (slice_get lines 1))
    (option_or (place_fault lines cells_header (slice_get lines 2))
    (option_or (place_fault lines settle_header (slice_get lines 3))
    (place_fault lines pins_header (slice_get lines 4)))))

-- the number of the line at a place
abbrev pub header_number : ℕ → List Line → ℕ
header_number place lines = option_map_or (number_at 1) (slice_get lines place) 0

abbrev pub version_of : List Line → ℕ
version_of lines = header_number 0 lines

abbrev pub chips_of : List Line → ℕ
chips_of lines = header_number 1 lines

abbrev pub cells_of : List Line → ℕ
cells_of lines = header_number 2 lines

abbrev pub settle_of : List Line → ℕ
settle_of lines = header_number 3 lines

abbrev pub pins_of : List Line → ℕ
pins_of lines = header_number 4 lines
