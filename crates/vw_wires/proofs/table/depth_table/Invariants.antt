-- a net that is ready after the gates so far has its depth
use Rattle.std.proofs.Common.{◌≡◌, ◌≤◌, ◌+◌, ℕ, true, length, take, slice_index}
use Rattle.std.specs.List.{All}
use Rattle.vw_net.specs.Order.{is_ready}
use Rattle.vw_plan.specs.Needs.{depth}
use Rattle.vw_wires.proofs.table.depth_table.Given as goal

abbrev pub invariant-loop-number : goal.invariant-loop-number
invariant-loop-number l =
    let flat = l.ordered.flat in
    record {
      long : length l.table.items ≡ flat.inputs + length flat.cells;
      low : All (λ depth_of. depth_of ≤ 65537) l.table.items;
      right : (net : ℕ) → is_ready flat.inputs flat.cells (take l.number-index l.ordered.order) net ≡ true → slice_index l.table.items net ≡ depth flat l.chip_of net;
    }
