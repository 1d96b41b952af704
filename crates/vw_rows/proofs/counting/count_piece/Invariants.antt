-- what was read so far of the piece, and what is left of it
use Rattle.std.proofs.Common.{◌≡◌, ◌≤◌, ◌+◌, length}
use Rattle.vw_rows.proofs.CountedRows.{IsReadPart}
use Rattle.vw_rows.proofs.counting.count_piece.Given as goal

abbrev pub invariant-loop-rest : goal.invariant-loop-rest
invariant-loop-rest l = record {
  part : IsReadPart l.piece l.rest l.fn.scan l.scan;
  few : l.scan.clocks ≤ 4294967295;
  number : l.scan.number + length l.rest ≤ l.fn.scan.number + length l.piece;
  width : l.scan.width ≡ l.fn.scan.width;
}

abbrev pub decreases-loop-rest : goal.decreases-loop-rest
decreases-loop-rest l = length l.rest
