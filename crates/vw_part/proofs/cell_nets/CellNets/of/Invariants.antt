-- those of the cells so far
use Rattle.std.proofs.Common.{take}
use Rattle.vw_part.specs.Steps.CellNets.{AreCellNets}
use Rattle.vw_part.proofs.cell_nets.CellNets.of.Given as goal

abbrev pub invariant-loop-number : goal.invariant-loop-number
invariant-loop-number l = AreCellNets l.flat.inputs (take l.number l.flat.cells) l.of_cells.items
