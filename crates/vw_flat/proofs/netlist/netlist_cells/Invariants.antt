use Rattle.std.proofs.Common.{take}
use Rattle.std.specs.List.{All, AllZip}
use Rattle.vw_net.specs.Cells.{IsWellFormed}
use Rattle.vw_design.specs.Flattened.{IsCellOf}
use Rattle.vw_design.specs.Preorder.{cells}
use Rattle.vw_flat.specs.Steps.Numbers.{net_count}
use Rattle.vw_flat.proofs.netlist.netlist_cells.Given as goal

-- so many cells are there
abbrev pub invariant-loop-cell : goal.invariant-loop-cell
invariant-loop-cell l = record {
  are : AllZip (λ site cell. IsCellOf l.elaborated site.path site.item cell) (take l.cell (cells l.elaborated)) l.made.items;
  fit : All (IsWellFormed (net_count l.elaborated)) l.made.items;
}
