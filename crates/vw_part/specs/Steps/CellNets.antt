-- The nets of cells, which are those that a cell drives or reads, and the cells of nets. Source: this project.
use Rattle.std.specs.Prelude.{◌≡◌, ◌<◌, ◌≤◌, ◌+◌, ◌==◌, ℕ, ◌||◌, List, [], ◌∷◌, count_by, length, slice_index_or}
use Rattle.std.specs.Global.{Vec}
use Rattle.std.specs.List.{All}
use Rattle.vw_net.specs.declared.cell.Cell.{Cell}
use Rattle.vw_net.specs.Cells.{read_nets}
use Rattle.vw_net.specs.Order.{is_among}

-- how often a number stands among some
abbrev pub times_among : List ℕ → ℕ → ℕ
times_among numbers number = count_by (λ other. other == number) numbers

-- the nets that a cell drives or reads, each once
pub record AreNetsOf (own : ℕ) (cell : Cell) (nets : List ℕ) : Type 0 where
  pub same : (net : ℕ) → is_among nets net ≡ (own == net || is_among (read_nets cell) net)
  pub once : (net : ℕ) → times_among nets net ≤ 1

-- those of each of some cells, of which the first drives the net `own`, and each other one the next net
abbrev pub AreCellNets : ℕ → List Cell → List (List ℕ) → Type 0
AreCellNets own [] [] = Unit {0}
AreCellNets own [] (nets ∷ cell_nets) = ⊥
AreCellNets own (cell ∷ cells) [] = ⊥
AreCellNets own (cell ∷ cells) (nets ∷ cell_nets) = AreNetsOf own cell nets × AreCellNets (own + 1) cells cell_nets

-- the cells of a net: a cell stands there as often as the net does among the cell's own
pub record AreCellsOf (cell_nets : List (List ℕ)) (net : ℕ) (cells : List ℕ) : Type 0 where
  pub turned : (cell : ℕ) → times_among cells cell ≡ times_among (slice_index_or cell_nets cell []) net
  pub within : All (λ cell. cell < length cell_nets) cells

-- those of each net
pub record AreNetCells (cell_nets : List (List ℕ)) (nets : ℕ) (of_nets : List (Vec ℕ)) : Type 0 where
  pub long : length of_nets ≡ nets
  pub each : (net : ℕ) (default : Vec ℕ) → net < nets → AreCellsOf cell_nets net (slice_index_or of_nets net default).items
