-- an empty list for each number so far
use Rattle.std.proofs.Common.{◌≡◌, ℕ, [], length, All}
use Rattle.std.specs.Global.{Vec}
use Rattle.vw_part.proofs.net_cells.NetCells.none.Given as goal

abbrev pub invariant-loop-net : goal.invariant-loop-net
invariant-loop-net l = record {
  long : length l.of_nets.items ≡ l._net;
  none : All (λ (cells : Vec ℕ). cells.items ≡ []) l.of_nets.items;
}
