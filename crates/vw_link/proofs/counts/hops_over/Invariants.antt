use Rattle.std.proofs.Common.{◌≡◌, ◌+◌, drop}
use Rattle.vw_link.specs.Counts.{hops_over}
use Rattle.vw_link.proofs.counts.hops_over.Given as goal

abbrev pub invariant-loop-wire : goal.invariant-loop-wire
invariant-loop-wire l = l.count + hops_over l.link (drop l.wire-index l.wires) ≡ hops_over l.link l.wires
