-- the best of the chips so far
use Rattle.std.proofs.Common.{◌≡◌, ◌≤◌, ◌<◌, ◌+◌, ℕ, length}
use Rattle.std.specs.Prelude.{MatchOption}
use Rattle.vw_part.specs.Steps.Deals.{IsGain, MayMoveTo, Helps, freed, cell_nets_at}
use Rattle.vw_part.proofs.deal.Deal.target.Given as goal

abbrev pub invariant-loop-chip : goal.invariant-loop-chip
invariant-loop-chip l = record {
  lone : l.lone ≡ freed l.self.cell_nets.now l.self.chip_of.items l.cell;
  enough : length (cell_nets_at l.self.cell_nets.now l.cell) ≤ l.most + l.lone;
  best : MatchOption l.best ((l.most + l.lone ≡ length (cell_nets_at l.self.cell_nets.now l.cell)) × ((chip : ℕ) → chip < l.chip → MayMoveTo l.self.board.now l.self.chip_of.items l.cell chip → ¬ (Helps l.self.cell_nets.now l.self.chip_of.items l.cell chip))) (IsGain l.self.board.now l.self.cell_nets.now l.self.chip_of.items l.cell);
}
