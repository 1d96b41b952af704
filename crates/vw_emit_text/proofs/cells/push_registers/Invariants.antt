-- what is written, and the hops that are left
use Rattle.std.proofs.Common.{◌≡◌, ◌++◌, drop}
use Rattle.vw_emit_text.specs.Steps.{items_text, registers}
use Rattle.vw_emit_text.proofs.cells.push_registers.Given as goal

abbrev pub invariant-loop-hop : goal.invariant-loop-hop
invariant-loop-hop l = l.text.items ++ items_text (registers l.node (drop l.hop-index l.hops)) ≡ l.initial.text.items ++ items_text (registers l.node l.hops)
