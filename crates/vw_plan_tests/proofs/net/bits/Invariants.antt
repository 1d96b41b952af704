-- a bit for each input so far
use Rattle.std.proofs.Common.{◌≡◌, length}
use Rattle.vw_plan_tests.proofs.net.bits.Given as goal

abbrev pub invariant-loop-i : goal.invariant-loop-i
invariant-loop-i l = length l.bits.items ≡ l.i
