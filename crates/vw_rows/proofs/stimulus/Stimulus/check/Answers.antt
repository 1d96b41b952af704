-- A text that is too large, one with a fault, and one with rows.
use Rattle.std.proofs.Common.{◌≡◌, ◌<◌, ◌≤◌, Bool, length, subst, MatchBool}
use Rattle.vw_outside.specs.Told.{absent}
use Rattle.vw_rows.proofs.CheckedTexts.{text_too_large}
use Rattle.vw_rows.proofs.stimulus.Stimulus.check.Goals as goal

pub returns-then-branch-clause-checks : goal.returns-then-branch-clause-checks
returns-then-branch-clause-checks g c of_text =
    let told = (g.S.Shelf.seen c.args.shelf.now).told c.args.name.now in
    let asked = c.in_ok-is_too_large.ensures in
    let there : told ≡ absent → ⊥ = λ is. let wrong = asked.absent is in cc in
    text_too_large told c.args.width there (λ bytes is. subst (λ (large : Bool). MatchBool large (1073741824 < length bytes) (length bytes ≤ 1073741824)) c.if-branch.true (asked.held bytes is))
