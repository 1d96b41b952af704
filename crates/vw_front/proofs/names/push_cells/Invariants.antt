-- what is written, and the cells that are left
use Rattle.std.proofs.Common.{◌≡◌, ◌++◌, drop, map}
use Rattle.vw_design.specs.Preorder.{cells}
use Rattle.vw_flat.specs.Printed.{printed_site}
use Rattle.vw_front.proofs.names.push_cells.Given as goal

abbrev pub invariant-loop-cell : goal.invariant-loop-cell
invariant-loop-cell l = l.names.items ++ map printed_site (drop l.cell (cells l.elaborated)) ≡ l.fn.names.items ++ map printed_site (cells l.elaborated)
