-- the bits that are left are still to be put
use Rattle.std.proofs.Common.{◌≡◌, drop, length}
use Rattle.vw_net.specs.Steps.WrittenBits.{with_bits}
use Rattle.vw_node.proofs.bits.put_bits.Given as goal

abbrev pub invariant-loop-i : goal.invariant-loop-i
invariant-loop-i l = (length l.slots ≡ length l.initial.slots) × (with_bits (drop l.i l.targets) (drop l.i l.bits) l.slots ≡ with_bits l.targets l.bits l.initial.slots)
