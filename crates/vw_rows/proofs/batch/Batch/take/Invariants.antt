-- what was read so far of the piece, and what is left of it
use Rattle.std.proofs.Common.{◌≡◌, ◌≤◌, ◌+◌, length}
use Rattle.vw_rows.specs.Steps.Batches.{HasFitNumbers}
use Rattle.vw_rows.proofs.GatheredBatches.{IsBatchPart}
use Rattle.vw_rows.proofs.batch.Batch.take.Given as goal

abbrev pub invariant-loop-self : goal.invariant-loop-self
invariant-loop-self l = record {
  part : IsBatchPart l.before l.piece l.rest l.fn.self l.self;
  fit : HasFitNumbers l.self;
  wanted : l.self.wanted ≡ l.fn.self.wanted;
  limit : l.self.read + length l.rest ≤ 1073741824;
}

abbrev pub decreases-loop-self : goal.decreases-loop-self
decreases-loop-self l = length l.rest
