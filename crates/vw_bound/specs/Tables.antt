-- Tables of numbers of nets.
use Rattle.std.specs.Prelude.{◌≡◌, ◌≤◌, ◌^◌, ℕ, List, slice_get, slice_index}
use Rattle.std.specs.List.{All}
use Rattle.vw_plan.specs.Nets.{greatest_read}
use Rattle.vw_bound.specs.PlacedDesigns.{PlacedDesign, flat_of}
use Rattle.vw_bound.specs.Times.{read_by, soon}

-- none of them is so large that times after it wrap
abbrev pub AreLow : List ℕ → Type 0
AreLow table = All (λ time. time ≤ 2 ^ 62) table

-- by a table, the greatest of what the gate of a number reads
abbrev pub cell_by : PlacedDesign → List ℕ → ℕ → ℕ
cell_by placed table number = greatest_read (read_by placed (slice_index table) (slice_index placed.chip_of number)) (slice_get (flat_of placed).cells number)

-- a table has the least microcycle of each net, and of nothing else
pub record IsSoonTable (placed : PlacedDesign) (table : List ℕ) : Type 0 where
  pub low : AreLow table
  pub times : (net : ℕ) → slice_index table net ≡ soon placed net
