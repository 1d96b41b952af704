-- the pairs of the wires so far, and those of the rest
use Rattle.std.proofs.Common.{◌≡◌, ◌++◌, drop}
use Rattle.vw_ready.specs.Wires.{wire_pairs}
use Rattle.vw_ready.proofs.home.wire_table.Given as goal

abbrev pub invariant-loop-wire : goal.invariant-loop-wire
invariant-loop-wire l = l.pairs.items ++ wire_pairs (drop l.wire-index l.plan.wires) ≡ wire_pairs l.plan.wires
