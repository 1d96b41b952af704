-- Cells on chips, what each chip holds, and which moves of one cell help.
use Rattle.std.specs.Prelude.{◌≡◌, ◌≢◌, ◌≤◌, ◌<◌, ◌+◌, ◌==◌, ℕ, List, [], ◌∷◌, length, nat_lt, slice_index, slice_index_or, sum_by, if◌then◌else◌}
use Rattle.std.specs.List.{All, range_with_len}
use Rattle.vw_plan.specs.declared.board.Board.{Board}
use Rattle.vw_plan.specs.Chips.{IsChip, cells_on}
use Rattle.vw_part.specs.declared.load.Load.{Load}
use Rattle.vw_part.specs.declared.cell_nets.CellNets.{CellNets}
use Rattle.vw_part.specs.Steps.CellNets.{times_among}
use Rattle.vw_net.specs.Steps.Bits.{one_if}

-- how many cells on a chip drive or read a net, given the nets of each cell
abbrev pub cells_held : List ℕ → List (List ℕ) → ℕ → ℕ → ℕ
cells_held [] cell_nets chip net = 0
cells_held (other ∷ chips) [] chip net = 0
cells_held (other ∷ chips) (nets ∷ cell_nets) chip net = (if other == chip then times_among nets net else 0) + cells_held chips cell_nets chip net

-- on how many chips a net is driven or read
abbrev pub holders : ℕ → List ℕ → List (List ℕ) → ℕ → ℕ
holders chips chip_of cell_nets net = sum_by (λ chip. one_if (nat_lt 0 (cells_held chip_of cell_nets chip net))) (range_with_len 1 chips)

-- all nets together
unfoldable pub spread : Board → CellNets → List ℕ → ℕ
spread board cell_nets chip_of = sum_by (holders board.chips chip_of cell_nets.of_cells.items) (range_with_len 0 cell_nets.nets)

-- what a chip holds
pub record IsLoad (cell_nets : CellNets) (chip_of : List ℕ) (chip : ℕ) (load : Load) : Type 0 where
  pub cells : load.cells ≡ cells_on chip_of chip
  pub long : length load.held.counts.items ≡ cell_nets.nets
  pub counts : (net : ℕ) → slice_index load.held.counts.items net ≡ cells_held chip_of cell_nets.of_cells.items chip net

-- the chips of the first cells, none of them overfull, and what each chip holds
pub record IsDeal (board : Board) (cell_nets : CellNets) (chip_of : List ℕ) (loads : List Load) : Type 0 where
  pub few : length chip_of ≤ length cell_nets.of_cells.items
  pub chips : All (IsChip board) chip_of
  pub room : (chip : ℕ) → cells_on chip_of chip ≤ board.cells
  pub nodes : length loads ≡ board.chips + 1
  pub held : (chip : ℕ) (default : Load) → chip ≤ board.chips → IsLoad cell_nets chip_of chip (slice_index_or loads chip default)

-- the nets of a cell
abbrev pub cell_nets_at : CellNets → ℕ → List ℕ
cell_nets_at cell_nets cell = slice_index_or cell_nets.of_cells.items cell []

-- of its nets, how many only this cell of its chip drives or reads
abbrev pub freed : CellNets → List ℕ → ℕ → ℕ
freed cell_nets chip_of cell = sum_by (λ net. one_if (cells_held chip_of cell_nets.of_cells.items (slice_index chip_of cell) net == 1)) (cell_nets_at cell_nets cell)

-- of its nets, how many some cell of a chip drives or reads
abbrev pub met : CellNets → List ℕ → ℕ → ℕ → ℕ
met cell_nets chip_of cell chip = sum_by (λ net. one_if (nat_lt 0 (cells_held chip_of cell_nets.of_cells.items chip net))) (cell_nets_at cell_nets cell)

-- a chip to which a cell may be moved: another one, with room
pub record MayMoveTo (board : Board) (chip_of : List ℕ) (cell chip : ℕ) : Type 0 where
  pub real : IsChip board chip
  pub away : slice_index chip_of cell ≢ chip
  pub room : cells_on chip_of chip < board.cells

-- a move there lowers the spread: more of the cell's nets are freed or met than it has
abbrev pub Helps : CellNets → List ℕ → ℕ → ℕ → Type 0
Helps cell_nets chip_of cell chip = length (cell_nets_at cell_nets cell) < freed cell_nets chip_of cell + met cell_nets chip_of cell chip

-- a move that is allowed, and lowers the spread
pub record IsGain (board : Board) (cell_nets : CellNets) (chip_of : List ℕ) (cell chip : ℕ) : Type 0 where
  pub target : MayMoveTo board chip_of cell chip
  pub helps : Helps cell_nets chip_of cell chip

-- no move of a cell lowers the spread
abbrev pub HasNoGain : Board → CellNets → List ℕ → ℕ → Type 0
HasNoGain board cell_nets chip_of cell = (chip : ℕ) → MayMoveTo board chip_of cell chip → ¬ (Helps cell_nets chip_of cell chip)
