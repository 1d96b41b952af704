-- each round but the last lowers the spread
use Rattle.std.proofs.Common.{◌≡◌, length}
use Rattle.vw_part.specs.Steps.Deals.{spread}
use Rattle.vw_part.proofs.deal.Deal.descend.Given as goal

abbrev pub invariant-loop : goal.invariant-loop
invariant-loop l = record {
  board : l.self.board ≡ l.initial.self.board;
  nets : l.self.cell_nets ≡ l.initial.self.cell_nets;
  each : length l.self.chip_of.items ≡ length l.initial.self.chip_of.items;
}

abbrev pub decreases-loop : goal.decreases-loop
decreases-loop l = spread l.self.board.now l.self.cell_nets.now l.self.chip_of.items
