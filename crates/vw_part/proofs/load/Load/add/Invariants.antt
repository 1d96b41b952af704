-- the nets that are left are still to be counted, and what is kept follows each of them
use Rattle.std.proofs.Common.{◌≡◌, ◌≢◌, ◌+◌, ℕ, length, drop, get_or}
use Rattle.vw_part.specs.Steps.CellNets.{times_among}
use Rattle.vw_part.specs.Steps.Gains.{AreGains}
use Rattle.vw_part.proofs.load.Load.add.Given as goal

abbrev pub invariant-loop-net : goal.invariant-loop-net
invariant-loop-net l = record {
  cells : l.self.cells ≡ l.initial.self.cells;
  long : length l.self.held.counts.items ≡ length l.initial.self.held.counts.items;
  held : (net : ℕ) → get_or l.self.held.counts.items net 0 + times_among (drop l.net-index l.own) net ≡ get_or l.initial.self.held.counts.items net 0 + times_among l.own net;
  gains : AreGains l.cell_nets l.chip_of l.chip l.self l.freed.counts.items;
  others : (cell : ℕ) → get_or l.chip_of cell 0 ≢ l.chip → get_or l.freed.counts.items cell 0 ≡ get_or l.initial.freed.counts.items cell 0;
}
