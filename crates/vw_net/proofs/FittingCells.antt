-- Each cell of a netlist is well formed.
use Rattle.std.proofs.Common.{◌≡◌, ℕ, List, Some, All, slice_get}
use Rattle.std.proofs.lemmas.Option.{get_or_from_slice_get, slice_get_within}
use Rattle.vw_net.specs.declared.cell.Cell.{Cell}
use Rattle.vw_net.specs.Cells.{IsWellFormed}

-- so a gate reads as many nets as its table has inputs, each of them below this number of nets, and so is what a latch reads
pub cell_fits : (nets : ℕ) (cells : List Cell) (number : ℕ) (cell : Cell) → All (IsWellFormed nets) cells → slice_get cells number ≡ Some cell → IsWellFormed nets cell
cell_fits nets cells number cell fit here =
    rw (get_or_from_slice_get cells number cell cell here) at (fit number cell (slice_get_within cells number cell here))
