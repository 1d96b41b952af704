-- the last so far, or that of the cells that are left
use Rattle.std.proofs.Common.{◌≡◌, ◌<◌, ◌^◌, drop, max, slice_index}
use Rattle.vw_bound.specs.Given.{design_in}
use Rattle.vw_bound.specs.Times.{cells_due_by}
use Rattle.vw_bound.proofs.depth.cells_due.Given as goal

abbrev pub invariant-loop-number : goal.invariant-loop-number
invariant-loop-number l =
    let cells = l.placed.ordered.now.flat.cells in
    record {
      rest : max l.last (cells_due_by (design_in l.placed) (slice_index l.table) l.number (drop l.number cells)) ≡ cells_due_by (design_in l.placed) (slice_index l.table) 0 cells;
      low : l.last < 2 ^ 63;
    }
