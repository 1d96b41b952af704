-- A line is cut behind its last byte that isn't blank.
use Rattle.std.proofs.Common.{◌≡◌, ◌<◌, ◌-◌, false, slice_index, sym, ◌∙◌, arith}
use Rattle.vw_text.specs.Bare.{is_blank}
use Rattle.vw_text.proofs.FoundBytes.{end_found}
use Rattle.vw_text.proofs.bare.trimmed.Goals as goal
use Rattle.vw_text.proofs.bare.trimmed.Goals.{then-loop-end-test+else-is_blank, else-loop-end-test}

pub returns : goal.returns
returns c =
    let line = c.args.line.now in
    let other : 0 < c.loop-end.end → is_blank (slice_index line (c.loop-end.end - 1)) ≡ false =
    elim c.loop-end-test.branch [
      | then-loop-end-test+else-is_blank w ↦ λ some. sym w.is_blank.ensures ∙ w.if-is_blank.false
      | else-loop-end-test w ↦ λ some. absurd (omega (some, w.loop-end-test.false, arith))
    ] in
    end_found line c.loop-end.end c.loop-end.invariant.within c.loop-end.invariant.blank other
