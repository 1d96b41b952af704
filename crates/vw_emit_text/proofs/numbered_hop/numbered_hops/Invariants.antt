-- the hops so far, and those of the wires that are left
use Rattle.std.proofs.Common.{◌≡◌, ◌++◌, drop}
use Rattle.vw_emit_text.specs.Outlets.{hops_of_wires}
use Rattle.vw_emit_text.proofs.numbered_hop.numbered_hops.Given as goal

abbrev pub invariant-loop-number : goal.invariant-loop-number
invariant-loop-number l = l.list.items ++ hops_of_wires l.links l.number (drop l.number l.wires) ≡ hops_of_wires l.links 0 l.wires
