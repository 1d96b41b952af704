-- the place of the values from here on
use Rattle.std.proofs.Common.{◌≡◌, drop}
use Rattle.vw_net.specs.TruthTable.{place_of}
use Rattle.vw_net.proofs.truth_table.place_of.Given as goal

abbrev pub invariant-loop-i : goal.invariant-loop-i
invariant-loop-i l = l.place ≡ place_of (drop l.i l.bits)
