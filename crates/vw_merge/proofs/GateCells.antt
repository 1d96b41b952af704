-- The cell at a number.
use Rattle.std.proofs.Common.{◌≡◌, ◌<◌, ◌∙◌, ℕ, List, length, get_or, slice_get, Some, ap, sym, arith}
use Rattle.std.proofs.lemmas.Option.{slice_get-get_or}
use Rattle.vw_net.specs.declared.cell.Cell.{Cell}
use Rattle.vw_net.specs.declared.ordered.Ordered.{Ordered}
use Rattle.vw_net.proofs.ReadyNets.{order_within}

-- what was read at a number below the number of cells stands there
pub cell_there : (cells items : List Cell) (number : ℕ) (cell is : Cell) → items ≡ cells → number < length cells → cell ≡ get_or items number cell → cell ≡ is → slice_get cells number ≡ Some is
cell_there cells items number cell is same within read its =
    slice_get-get_or cells number cell within ∙ ap Some (ap (λ (list : List Cell). get_or list number cell) (sym same) ∙ sym read ∙ its)

-- an order has numbers of cells
pub ordered_within : (ordered : Ordered) (place : ℕ) (items : List ℕ) → items ≡ ordered.order → place < length items → get_or items place 0 < length ordered.flat.cells
ordered_within ordered place items are within =
    let number = ap (λ (order : List ℕ). get_or order place 0) are in
    let size = ap (λ (order : List ℕ). length order) are in
    omega (arith, number, order_within ordered.is_order place (omega (arith, within, size)))
