use Rattle.vw_emit_text.proofs.LineShapes.{any_more}
use Rattle.vw_emit_text.proofs.rows.push_any.Goals as goal

pub loop-input-preserved : goal.loop-input-preserved
loop-input-preserved c = any_more c.loop-input.input c.args.inputs c.loop-input.text.items c.push.new.self.items _ c.loop-input-test.true c.in_ok-push.ensures.items c.loop-input.invariant
