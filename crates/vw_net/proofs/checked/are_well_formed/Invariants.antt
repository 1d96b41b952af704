-- each so far is
use Rattle.std.specs.List.{AllWithin}
use Rattle.vw_net.specs.Cells.{IsWellFormed}
use Rattle.vw_net.proofs.checked.are_well_formed.Given as goal

abbrev pub invariant-loop-cell : goal.invariant-loop-cell
invariant-loop-cell l = AllWithin (IsWellFormed l.nets) l.cells 0 l.cell-index
