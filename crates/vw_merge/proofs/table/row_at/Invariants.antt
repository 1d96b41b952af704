-- a mark for each input so far
use Rattle.std.proofs.Common.{◌≡◌, length}
use Rattle.vw_merge.proofs.table.row_at.Given as goal

abbrev pub invariant-loop-input : goal.invariant-loop-input
invariant-loop-input l = length l.marks.items ≡ l.input
