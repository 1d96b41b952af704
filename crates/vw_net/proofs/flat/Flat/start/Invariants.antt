-- the bits so far, and then those of what is left of the cells, are those of all the cells
use Rattle.std.proofs.Common.{◌≡◌, ◌++◌, drop}
use Rattle.vw_net.specs.Cells.{start_values}
use Rattle.vw_net.proofs.flat.Flat.start.Given as goal

abbrev pub invariant-loop-cell : goal.invariant-loop-cell
invariant-loop-cell l = l.bits.items ++ start_values l.unknown (drop l.cell-index l.cell-items) ≡ start_values l.unknown l.cell-items
