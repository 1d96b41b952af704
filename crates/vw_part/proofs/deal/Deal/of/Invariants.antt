-- the cells so far are dealt
use Rattle.std.proofs.Common.{◌≡◌, length}
use Rattle.vw_part.proofs.deal.Deal.of.Given as goal

abbrev pub invariant-loop-cell : goal.invariant-loop-cell
invariant-loop-cell l = record {
  board : l.deal.board.now ≡ l.board;
  nets : l.deal.cell_nets.now ≡ l.cell_nets;
  each : length l.deal.chip_of.items ≡ l.cell;
}
