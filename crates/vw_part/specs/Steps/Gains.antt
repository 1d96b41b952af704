-- Gains that are kept. A move of a cell to a chip lowers the number of needed pairs by the nets that only this cell of its
-- chip has, plus those that the other chip has already, less all nets of the cell. Source: this project.
use Rattle.std.specs.Prelude.{◌≡◌, ◌≤◌, ◌==◌, ℕ, List, length, nat_lt, slice_index, slice_index_or, sum_by}
use Rattle.vw_plan.specs.declared.board.Board.{Board}
use Rattle.vw_part.specs.declared.load.Load.{Load}
use Rattle.vw_part.specs.declared.cell_nets.CellNets.{CellNets}
use Rattle.vw_part.specs.Steps.Deals.{cell_nets_at}
use Rattle.vw_net.specs.Steps.Bits.{one_if}

-- how many of some nets are held at all, where this many cells hold each net
abbrev pub met_among : (ℕ → ℕ) → List ℕ → ℕ
met_among held nets = sum_by (λ net. one_if (nat_lt 0 (held net))) nets

-- how many of them one cell alone holds
abbrev pub lone_among : (ℕ → ℕ) → List ℕ → ℕ
lone_among held nets = sum_by (λ net. one_if (held net == 1)) nets

-- what is kept for one chip is a recount of its load: for every cell its nets that the chip has, and for each cell of the
-- chip those that only this cell has there
pub record AreGains (cell_nets : CellNets) (chip_of : List ℕ) (chip : ℕ) (load : Load) (frees : List ℕ) : Type 0 where
  pub met_long : length load.met.counts.items ≡ length cell_nets.of_cells.items
  pub met : (cell : ℕ) → slice_index load.met.counts.items cell ≡ met_among (λ net. slice_index load.held.counts.items net) (cell_nets_at cell_nets cell)
  pub freed_long : length frees ≡ length cell_nets.of_cells.items
  pub freed : (cell : ℕ) → slice_index chip_of cell ≡ chip → slice_index frees cell ≡ lone_among (λ net. slice_index load.held.counts.items net) (cell_nets_at cell_nets cell)

-- so it is for each chip of a board
abbrev pub KeepsGains : Board → CellNets → List ℕ → List Load → List ℕ → Type 0
KeepsGains board cell_nets chip_of loads frees = (chip : ℕ) (default : Load) → chip ≤ board.chips → AreGains cell_nets chip_of chip (slice_index_or loads chip default) frees
