-- the net has none of the slots so far
use Rattle.std.proofs.Common.{◌≡◌, ◌+◌, drop, option_map}
use Rattle.std.proofs.Common.{ℕ}
use Rattle.vw_prog.specs.Codes.{net_slot}
use Rattle.vw_node.proofs.node.Node.known_bit.Given as goal

abbrev pub invariant-loop-slot : goal.invariant-loop-slot
invariant-loop-slot l = option_map (λ (slot : ℕ). l.slot + slot) (net_slot (drop l.slot l.self.code.now.nets.items) l.net) ≡ net_slot l.self.code.now.nets.items l.net
