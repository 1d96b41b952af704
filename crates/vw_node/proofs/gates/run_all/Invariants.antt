-- the bits after the gates that are left, and how many there are
use Rattle.std.proofs.Common.{◌≡◌, ◌+◌, drop, length, map}
use Rattle.vw_prog.specs.SeenGates.{seen_gate}
use Rattle.vw_node.specs.Slots.{with_gates}
use Rattle.vw_node.proofs.gates.run_all.Given as goal

abbrev pub invariant-loop-i : goal.invariant-loop-i
invariant-loop-i g l = record { left : with_gates (l.first + l.i) (map (seen_gate g.row.N) (drop l.i l.gates)) l.slots ≡ with_gates l.first (map (seen_gate g.row.N) l.gates) l.initial.slots; size : length l.slots ≡ length l.initial.slots }
