-- what is written, and the ports that are left
use Rattle.std.proofs.Common.{◌≡◌, ◌++◌, drop}
use Rattle.vw_emit_text.specs.Steps.{ports_out, ports_text}
use Rattle.vw_emit_text.proofs.ports.push_pins_out.Given as goal

abbrev pub invariant-loop-outlet : goal.invariant-loop-outlet
invariant-loop-outlet l = l.text.items ++ ports_text l.listing (ports_out l.node (drop l.outlet-index l.outlets)) ≡ l.initial.text.items ++ ports_text l.listing (ports_out l.node l.outlets)
