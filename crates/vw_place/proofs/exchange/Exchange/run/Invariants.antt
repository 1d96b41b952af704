-- the table and the board stay, and each round but the last lessens the travel
use Rattle.std.proofs.Common.{◌≡◌}
use Rattle.vw_place.proofs.exchange.Exchange.run.Given as goal

abbrev pub invariant-loop-self : goal.invariant-loop-self
invariant-loop-self l = record {
  table : l.self.table ≡ l.initial.self.table;
  board : l.self.nodes.board ≡ l.initial.self.nodes.board;
}

abbrev pub decreases-loop-self : goal.decreases-loop-self
decreases-loop-self l = l.self.travel
