use Rattle.std.proofs.Common.{◌++◌, ◌∷◌, [], ℕ, ap, ◌∙◌, arith}
use Rattle.vw_emit_text.proofs.CoverRows.{marks_more}
use Rattle.vw_emit_text.proofs.rows.push_marks.Goals as goal

-- the mark at an input is the one that the row has there
pub loop-input-preserved : goal.loop-input-preserved
loop-input-preserved c =
    let written = c.loop-input.text.items in
    marks_more c.args.cover.now c.args.row c.requires written c.push.new.self.items _ c.loop-input.input c.mark.result (omega (arith, c.loop-input-test.true, c.inputs-input-end.ensures)) c.mark.ensures
    (c.in_ok-push.ensures.items ∙ ap (λ (code : ℕ). written ++ code ∷ []) c.mark_byte.ensures) c.loop-input.invariant
