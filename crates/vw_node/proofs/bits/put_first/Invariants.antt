-- the row so far, and then what was there
use Rattle.std.proofs.Common.{◌≡◌, ◌++◌, take, drop}
use Rattle.vw_node.proofs.bits.put_first.Given as goal

abbrev pub invariant-loop-i : goal.invariant-loop-i
invariant-loop-i l = l.slots ≡ take l.i l.row ++ drop l.i l.initial.slots
