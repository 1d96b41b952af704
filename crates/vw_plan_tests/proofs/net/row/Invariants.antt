-- a mark for each input so far
use Rattle.std.proofs.Common.{◌≡◌, length}
use Rattle.vw_plan_tests.proofs.net.row.Given as goal

abbrev pub invariant-loop-i : goal.invariant-loop-i
invariant-loop-i l = length l.marks.items ≡ l.i
