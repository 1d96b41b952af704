-- the bits so far are those of the slots so far
use Rattle.std.proofs.Common.{◌≡◌, length, take, map}
use Rattle.vw_node.specs.Fits.{bit_at_slot}
use Rattle.vw_node.proofs.starting.take_starts.Given as goal

abbrev pub invariant-loop-i : goal.invariant-loop-i
invariant-loop-i l = (length l.bits ≡ length l.initial.bits) × (take l.i l.bits ≡ map (bit_at_slot l.start) (take l.i l.numbers))
