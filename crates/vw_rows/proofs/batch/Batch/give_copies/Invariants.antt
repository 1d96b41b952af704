-- the rows and the copies that are owed are the same
use Rattle.std.proofs.Common.{◌≡◌, ◌≤◌, length}
use Rattle.vw_rows.specs.Stimulus.{last_row}
use Rattle.vw_rows.specs.Steps.Batches.{all_rows, KeepsPlaces}
use Rattle.vw_rows.proofs.batch.Batch.give_copies.Given as goal

abbrev pub invariant-loop-self : goal.invariant-loop-self
invariant-loop-self l = record {
  all : all_rows l.before l.self ≡ all_rows l.before l.fn.self;
  within : length l.self.rows ≤ l.self.wanted;
  places : KeepsPlaces l.fn.self l.self;
  row : l.row.items ≡ last_row l.before l.self.rows;
}

abbrev pub decreases-loop-self : goal.decreases-loop-self
decreases-loop-self l = l.self.owed
