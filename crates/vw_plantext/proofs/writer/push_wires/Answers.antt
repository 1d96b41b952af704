use Rattle.std.proofs.Common.{◌++◌, ◌∙◌, ap}
use Rattle.vw_plan.specs.declared.wire.Wire.{Wire}
use Rattle.vw_plantext.specs.Steps.Pieces.{wire_text}
use Rattle.vw_text.proofs.WrittenPieces.{one_written}
use Rattle.vw_plantext.proofs.writer.push_wires.Goals as goal

pub loop-wire-preserved : goal.loop-wire-preserved
loop-wire-preserved c =
    let text = c.loop-wire.text.items in
    one_written wire_text c.args.wires.now c.loop-wire.wire-index text c.push_wire.new.text.items _ c.wire-item.result c.loop-wire-test.true (c.in_ok-push_wire.ensures ∙ ap (λ (wire : Wire). text ++ wire_text wire) c.wire-item.is) c.loop-wire.invariant
