-- what was read of the text, and the shelf is as it was
use Rattle.std.proofs.Common.{◌≡◌, ◌≤◌, ◌+◌, ◌-◌, length}
use Rattle.vw_rows.proofs.CountedText.{IsCounted}
use Rattle.vw_rows.proofs.counting.count_rows.Given as goal

abbrev pub invariant-pieces : goal.invariant-pieces
invariant-pieces g l =
    let seen = g.S.Shelf.seen in
    record {
      counted : IsCounted ((seen l.fn.shelf).told l.name) l.width l.at l.scan;
      within : l.at ≤ 1073741824;
      number : l.scan.number ≤ l.at + 1;
      few : l.scan.clocks ≤ 4294967295;
      buffer : length l.piece ≡ 32768;
      same : seen l.shelf ≡ seen l.fn.shelf;
    }

abbrev pub decreases-pieces : goal.decreases-pieces
decreases-pieces g l = 1073741824 - l.at
