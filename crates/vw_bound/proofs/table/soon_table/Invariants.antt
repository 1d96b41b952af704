-- a net that is ready after the gates so far has its time
use Rattle.std.proofs.Common.{◌≡◌, ◌+◌, ℕ, true, length, take, slice_index}
use Rattle.vw_net.specs.Order.{is_ready}
use Rattle.vw_bound.specs.Given.{design_in}
use Rattle.vw_bound.specs.Tables.{AreLow}
use Rattle.vw_bound.specs.Times.{soon}
use Rattle.vw_bound.proofs.table.soon_table.Given as goal

abbrev pub invariant-loop-number : goal.invariant-loop-number
invariant-loop-number l =
    let flat = l.placed.ordered.now.flat in
    record {
      long : length l.table.items ≡ flat.inputs + length flat.cells;
      low : AreLow l.table.items;
      right : (net : ℕ) → is_ready flat.inputs flat.cells (take l.number-index l.placed.ordered.now.order) net ≡ true → slice_index l.table.items net ≡ soon (design_in l.placed) net;
    }
