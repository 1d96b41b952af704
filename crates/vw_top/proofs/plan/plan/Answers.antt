use Rattle.std.proofs.Common.{refl}
use Rattle.std.proofs.lemmas.Result.{err_from_is_err_and}
use Rattle.vw_files.specs.Ready.{by_of}
use Rattle.vw_course.specs.Goes.{Unmoved}
use Rattle.vw_course.proofs.GoesLaws.{goes_writing, unmoved_still}
use Rattle.vw_courses.specs.Messages.{vocabulary}
use Rattle.vw_courses.specs.Commands.{plan_rest, text_of_plan}
use Rattle.vw_files.proofs.ReadyLaws.{goes_unready, goes_ready}
use Rattle.vw_top.proofs.plan.plan.Goals as goal

pub returns-in_err-checked : goal.returns-in_err-checked
returns-in_err-checked g c =
    let p = err_from_is_err_and c.from_residual.result c.from_residual.ensures.1 in
    let files = c.args.files.now in
    rw (p.1, p.2)
    (goes_unready g.S.Shelf.seen g.O.Sink.seen Unmoved files.probes.nets.now plan_rest files.design.now files.board.now (by_of files.plan) c.args.outside.now _ (record { shelf = refl; out = refl }) refl
    (unmoved_still vocabulary) c.in_err-checked.field-0.0 c.in_err-checked.ensures)

pub returns : goal.returns
returns g c =
    let files = c.args.files.now in
    let mid = record c.args.outside.now { shelf = record c.args.outside.now.shelf { now = c.ready_board.new.shelf } } in
    let text = text_of_plan c.in_ok-checked.checked.plan in
    goes_ready g.S.Shelf.seen g.O.Sink.seen Unmoved files.probes.nets.now plan_rest files.design.now files.board.now (by_of files.plan) c.args.outside.now mid (record { shelf = refl; out = refl }) refl
    c.in_ok-checked.checked _ c.answer_of.result c.in_ok-checked.ensures
    (goes_writing g.S.Shelf.seen g.O.Sink.seen vocabulary Unmoved text mid _ (record { shelf = refl; out = refl }) refl (unmoved_still vocabulary) c.write_plan.result c.answer_of.result c.answer_of.ensures c.write_plan.ensures)
