-- what stands in front, the bits so far, and then what was there
use Rattle.std.proofs.Common.{◌≡◌, ◌++◌, take, drop}
use Rattle.vw_wave.proofs.row.put_bits.Given as goal

abbrev pub invariant-loop-i : goal.invariant-loop-i
invariant-loop-i l = l.row ≡ take l.at l.initial.row ++ (take l.i l.bits ++ drop l.i (drop l.at l.initial.row))
