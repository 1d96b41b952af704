-- what was read of the text, and the shelf is as it was
use Rattle.std.proofs.Common.{◌≡◌, length}
use Rattle.vw_rows.specs.Steps.Batches.{HasFitNumbers}
use Rattle.vw_rows.proofs.GatheredTexts.{IsReadOn, still_to_read}
use Rattle.vw_rows.proofs.batch.Batch.gather.Given as goal

abbrev pub invariant-loop-self : goal.invariant-loop-self
invariant-loop-self g l =
    let seen = g.S.Shelf.seen in
    record {
      reads : IsReadOn ((seen l.fn.shelf).told l.name) l.before l.fn.self l.self;
      fit : HasFitNumbers l.self;
      wanted : l.self.wanted ≡ l.fn.self.wanted;
      buffer : length l.piece ≡ 32768;
      same : seen l.shelf ≡ seen l.fn.shelf;
    }

abbrev pub decreases-loop-self : goal.decreases-loop-self
decreases-loop-self g l = still_to_read l.self
