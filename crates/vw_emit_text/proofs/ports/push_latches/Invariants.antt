-- what is written, and the ports that are left
use Rattle.std.proofs.Common.{◌≡◌, ◌≤◌, ◌++◌, drop}
use Rattle.vw_emit_text.specs.Steps.{latch_ports, ports_text}
use Rattle.vw_emit_text.proofs.ports.push_latches.Given as goal

abbrev pub invariant-loop-number : goal.invariant-loop-number
invariant-loop-number l = (l.text.items ++ ports_text l.listing (latch_ports l.chip_of l.node l.number l.latch (drop l.number l.cells)) ≡ l.initial.text.items ++ ports_text l.listing (latch_ports l.chip_of l.node 0 0 l.cells)) × (l.latch ≤ l.number)
