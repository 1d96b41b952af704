use Rattle.std.proofs.Common.{refl}
use Rattle.std.proofs.lemmas.Result.{err_from_is_err_and}
use Rattle.vw_course.specs.Course.{Course, writes}
use Rattle.vw_course.specs.Goes.{Unmoved}
use Rattle.vw_course.proofs.GoesLaws.{goes_judged, goes_unjudged, goes_writing, unmoved_still}
use Rattle.vw_emit_text.specs.Emitted.{emitted_text}
use Rattle.vw_plan.specs.PlannedBoard.{planned_board}
use Rattle.vw_courses.specs.Messages.{vocabulary}
use Rattle.vw_courses.specs.Kinds.{emission}
use Rattle.vw_top.specs.Stages.{IsEmitted}
use Rattle.vw_top.proofs.emit.emit_board.Goals as goal

pub returns-in_err-text : goal.returns-in_err-text
returns-in_err-text g c =
    let p = err_from_is_err_and c.from_residual.result c.from_residual.ensures.1 in
    let checked = c.args.checked in
    let planned = planned_board checked.ordered checked.board checked.plan in
    let next : Unit {0} → Course vocabulary = λ done. writes (emitted_text planned) in
    rw (p.1, p.2)
    (goes_unjudged g.S.Shelf.seen g.O.Sink.seen vocabulary Unmoved (emission planned) next (unmoved_still vocabulary) (IsEmitted planned) c.args.outside.now c.in_err-text.field-0.0 c.in_err-text.ensures)

pub returns : goal.returns
returns g c =
    let checked = c.args.checked in
    let planned = planned_board checked.ordered checked.board checked.plan in
    let text = emitted_text planned in
    let next : Unit {0} → Course vocabulary = λ done. writes text in
    goes_judged g.S.Shelf.seen g.O.Sink.seen vocabulary Unmoved (emission planned) next tt c.in_ok-text.ensures.fits
    (goes_writing g.S.Shelf.seen g.O.Sink.seen vocabulary Unmoved text c.args.outside.now _ (record { shelf = refl; out = refl }) refl (unmoved_still vocabulary) c.put_text.result c.answer_of.result c.answer_of.ensures
    (c.put_text.ensures text c.in_ok-text.ensures.is))
