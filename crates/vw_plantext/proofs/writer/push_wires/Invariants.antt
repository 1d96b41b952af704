-- what is written, and the wires that are left
use Rattle.std.proofs.Common.{◌≡◌, ◌++◌, drop}
use Rattle.vw_plantext.specs.Steps.Pieces.{wires_text}
use Rattle.vw_plantext.proofs.writer.push_wires.Given as goal

abbrev pub invariant-loop-wire : goal.invariant-loop-wire
invariant-loop-wire l = l.text.items ++ wires_text (drop l.wire-index l.wires) ≡ l.initial.text.items ++ wires_text l.wires
