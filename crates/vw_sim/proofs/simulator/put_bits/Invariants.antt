-- the bits that are left are still to be put
use Rattle.std.proofs.Common.{◌≡◌, drop, length}
use Rattle.vw_net.specs.Steps.WrittenBits.{with_bits}
use Rattle.vw_sim.proofs.simulator.put_bits.Given as goal

abbrev pub invariant-loop-i : goal.invariant-loop-i
invariant-loop-i l = (length l.values ≡ length l.initial.values) × (with_bits (drop l.i l.nets) (drop l.i l.bits) l.values ≡ with_bits l.nets l.bits l.initial.values)
