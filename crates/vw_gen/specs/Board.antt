-- The text of a board for a generated design of so many cells. Source: this project.
use Rattle.std.specs.Prelude.{ℕ, ◌+◌, ◌*◌, ◌/◌, List, [], ◌∷◌, ◌++◌, codes, if◌then◌else◌, nat_lt}
use Rattle.std.specs.List.{flat_map, range_with_len}
use Rattle.std.specs.Fmt.{decimal}
use Rattle.vw_text.specs.Physical.{lines_text}

-- the chips stand in four rows of four; rows and columns are numbered from 0, chips from 1
abbrev pub chip_at : ℕ → ℕ → ℕ
chip_at row column = 4 * row + column + 1

-- a link with two pins
abbrev pub link_line : ℕ → ℕ → List ℕ
link_line from to = codes "link " ++ decimal from ++ 32 ∷ decimal to ++ codes " 2"

-- the link between two nodes, and the link back
abbrev pub both_ways : ℕ → ℕ → List (List ℕ)
both_ways one other = link_line one other ∷ link_line other one ∷ []

-- between a chip and the one to its right, and then between it and the one below, where there are such chips
abbrev pub chip_links : ℕ → ℕ → List (List ℕ)
chip_links row column =
    (if nat_lt column 3 then both_ways (chip_at row column) (chip_at row (column + 1)) else [])
    ++ (if nat_lt row 3 then both_ways (chip_at row column) (chip_at (row + 1) column) else [])

-- the links of the chips of a row, in the order of the columns
abbrev pub row_links : ℕ → List (List ℕ)
row_links row = flat_map (chip_links row) (range_with_len 0 4)

-- between the host and the chips in the corners
abbrev pub host_links : List (List ℕ)
host_links = flat_map (both_ways 0) (1 ∷ 4 ∷ 13 ∷ 16 ∷ [])

-- the lines of the board; a chip has room for more than a twelfth of the cells
abbrev pub board_lines : ℕ → List (List ℕ)
board_lines cells =
    codes "board 1" ∷ codes "chips 16" ∷ (codes "cells " ++ decimal (cells / 12 + 1)) ∷ codes "settle 1" ∷ codes "pins 16"
    ∷ (flat_map row_links (range_with_len 0 4) ++ host_links)

-- the text of the board, with the end of a line behind each line
abbrev pub board_text : ℕ → List ℕ
board_text cells = lines_text (board_lines cells)
