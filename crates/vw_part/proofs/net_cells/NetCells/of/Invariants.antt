-- the cells so far are listed
use Rattle.std.proofs.Common.{◌≡◌, ◌<◌, ℕ, [], length, get_or, nat_lt, if◌then◌else◌}
use Rattle.std.specs.Global.{Vec}
use Rattle.vw_part.specs.Steps.CellNets.{times_among}
use Rattle.vw_part.proofs.net_cells.NetCells.of.Given as goal

abbrev pub invariant-loop-cell : goal.invariant-loop-cell
invariant-loop-cell l = record {
  long : length l.net_cells.of_nets.items ≡ l.nets;
  turned : (net : ℕ) (default : Vec ℕ) (cell : ℕ) → net < l.nets → times_among (get_or l.net_cells.of_nets.items net default).items cell ≡ (if nat_lt cell l.cell then times_among (get_or l.of_cells cell []) net else 0);
}
