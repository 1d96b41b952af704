-- of the cells that are left, those of the chip are still to be counted off
use Rattle.std.proofs.Common.{◌≡◌, ◌≢◌, ◌+◌, ℕ, length, drop, get_or}
use Rattle.vw_part.specs.Steps.CellNets.{times_among}
use Rattle.vw_part.proofs.tally.Tally.take_on.Given as goal

abbrev pub invariant-loop-cell : goal.invariant-loop-cell
invariant-loop-cell l = record {
  long : length l.self.counts.items ≡ length l.initial.self.counts.items;
  counts : (cell : ℕ) → get_or l.chip_of cell 0 ≡ l.chip → get_or l.self.counts.items cell 0 + times_among l.cells cell ≡ get_or l.initial.self.counts.items cell 0 + times_among (drop l.cell-index l.cells) cell;
  others : (cell : ℕ) → get_or l.chip_of cell 0 ≢ l.chip → get_or l.self.counts.items cell 0 ≡ get_or l.initial.self.counts.items cell 0;
}
