-- what is written, and the ports that are left
use Rattle.std.proofs.Common.{◌≡◌, ◌-◌, ◌++◌}
use Rattle.vw_emit_text.specs.Steps.{numbered_ports, ports_text}
use Rattle.vw_emit_text.proofs.ports.push_numbered.Given as goal

abbrev pub invariant-loop-number : goal.invariant-loop-number
invariant-loop-number l = l.text.items ++ ports_text l.listing (numbered_ports l.kind l.number (l.count - l.number)) ≡ l.initial.text.items ++ ports_text l.listing (numbered_ports l.kind 0 l.count)
