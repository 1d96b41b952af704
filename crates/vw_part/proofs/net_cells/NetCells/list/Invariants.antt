-- at each net that is left the cell is still to be listed
use Rattle.std.proofs.Common.{◌≡◌, ◌+◌, ◌<◌, ◌==◌, ℕ, length, drop, get_or, if◌then◌else◌}
use Rattle.std.specs.Global.{Vec}
use Rattle.vw_part.specs.Steps.CellNets.{times_among}
use Rattle.vw_part.proofs.net_cells.NetCells.list.Given as goal

abbrev pub invariant-loop-net : goal.invariant-loop-net
invariant-loop-net l = record {
  long : length l.self.of_nets.items ≡ length l.initial.self.of_nets.items;
  each : (net : ℕ) (default : Vec ℕ) (other : ℕ) → net < length l.initial.self.of_nets.items → times_among (get_or l.self.of_nets.items net default).items other + (if l.cell == other then times_among (drop l.net-index l.own) net else 0) ≡ times_among (get_or l.initial.self.of_nets.items net default).items other + (if l.cell == other then times_among l.own net else 0);
}
