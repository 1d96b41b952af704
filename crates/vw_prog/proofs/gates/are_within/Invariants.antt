use Rattle.std.proofs.Common.{◌≤◌}
use Rattle.std.specs.List.{AllWithin}
use Rattle.vw_prog.proofs.gates.are_within.Given as goal

abbrev pub invariant-loop-gate : goal.invariant-loop-gate
invariant-loop-gate l = AllWithin (λ gate. gate.inputs ≤ l.room) l.gates 0 l.gate-index
