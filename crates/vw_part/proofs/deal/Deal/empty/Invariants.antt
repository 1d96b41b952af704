-- a chip with no cells for each number so far
use Rattle.std.proofs.Common.{◌≡◌, length, All}
use Rattle.vw_part.proofs.KeptDeals.{IsEmptyLoad}
use Rattle.vw_part.proofs.deal.Deal.empty.Given as goal

abbrev pub invariant-loop-chip : goal.invariant-loop-chip
invariant-loop-chip l = All (IsEmptyLoad l.cell_nets) l.loads.items × (length l.loads.items ≡ l._chip)
