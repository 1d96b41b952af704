-- the number of the values from here on
use Rattle.std.proofs.Common.{◌≡◌, drop}
use Rattle.vw_net.specs.TruthTable.{place_of}
use Rattle.vw_net.proofs.masks.number_of.Given as goal

abbrev pub invariant-loop-i : goal.invariant-loop-i
invariant-loop-i l = l.number ≡ place_of (drop l.i l.bits)
