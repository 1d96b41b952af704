-- Chips of a board, and how many cells are on them. Source: this project.
use Rattle.std.specs.Prelude.{◌≤◌, ◌==◌, ℕ, List, count_by}
use Rattle.vw_plan.specs.declared.board.Board.{Board}

-- a number of a chip
abbrev pub IsChip : Board → ℕ → Type 0
IsChip board chip = (1 ≤ chip) × (chip ≤ board.chips)

-- how many cells are on a chip
abbrev pub cells_on : List ℕ → ℕ → ℕ
cells_on chip_of chip = count_by (λ other. other == chip) chip_of
