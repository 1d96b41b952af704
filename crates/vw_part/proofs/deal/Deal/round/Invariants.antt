-- where no move helped so far, the cells so far are settled; where some did, the spread is lower
use Rattle.std.proofs.Common.{◌≡◌, ◌<◌, ◌≤◌, ℕ, true, false, length}
use Rattle.vw_part.specs.Steps.Deals.{HasNoGain, spread}
use Rattle.vw_part.proofs.deal.Deal.round.Given as goal

abbrev pub invariant-loop-cell : goal.invariant-loop-cell
invariant-loop-cell l =
    let spread_of = spread l.initial.self.board.now l.initial.self.cell_nets.now in
    let start = spread_of l.initial.self.chip_of.items in
    record {
      board : l.self.board ≡ l.initial.self.board;
      nets : l.self.cell_nets ≡ l.initial.self.cell_nets;
      each : length l.self.chip_of.items ≡ length l.initial.self.chip_of.items;
      no_higher : spread_of l.self.chip_of.items ≤ start;
      lower : l.moved ≡ true → spread_of l.self.chip_of.items < start;
      settled : l.moved ≡ false → (cell : ℕ) → cell < l.cell → HasNoGain l.initial.self.board.now l.initial.self.cell_nets.now l.self.chip_of.items cell;
    }
