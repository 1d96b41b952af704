-- the hops so far, and those that are left
use Rattle.std.proofs.Common.{◌≡◌, ◌++◌, drop}
use Rattle.vw_emit_text.specs.Outlets.{hops_of_wire}
use Rattle.vw_emit_text.proofs.numbered_hop.list_hops.Given as goal

abbrev pub invariant-loop-place : goal.invariant-loop-place
invariant-loop-place l = l.list.items ++ hops_of_wire l.links l.wire.net l.number l.place (drop l.place l.wire.hops) ≡ l.fn.list.items ++ hops_of_wire l.links l.wire.net l.number 0 l.wire.hops
