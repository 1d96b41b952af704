-- the place of the bits from here on
use Rattle.std.proofs.Common.{◌≡◌, drop, map}
use Rattle.vw_net.specs.TruthTable.{place_of}
use Rattle.vw_node.specs.Fits.{bit_at_slot}
use Rattle.vw_node.proofs.gates.place_at.Given as goal

abbrev pub invariant-loop-i : goal.invariant-loop-i
invariant-loop-i l = l.place ≡ place_of (map (bit_at_slot l.slots) (drop l.i l.reads))
