-- the gates so far, and those of the rest
use Rattle.std.proofs.Common.{◌≡◌, ◌++◌, drop, map}
use Rattle.vw_prog.specs.SeenGates.{narrow_gate}
use Rattle.vw_prog.proofs.gates.narrow_gates.Given as goal

abbrev pub invariant-loop-gate : goal.invariant-loop-gate
invariant-loop-gate g l = l.list.items ++ map (narrow_gate g.row.N) (drop l.gate-index l.gates) ≡ map (narrow_gate g.row.N) l.gates
