use Rattle.std.proofs.Common.{◌≡◌, List, ℕ, refl, subst}
use Rattle.std.proofs.lemmas.Result.{err_from_is_err_and}
use Rattle.vw_course.specs.Course.{Course, writes}
use Rattle.vw_course.specs.Goes.{Unmoved}
use Rattle.vw_course.proofs.GoesLaws.{goes_made, goes_unmade, goes_writing, unmoved_still}
use Rattle.vw_plan.specs.PlannedBoard.{planned_board}
use Rattle.vw_report.specs.declared.findings.Findings.{Findings}
use Rattle.vw_report.specs.Report.{IsReport, report_of}
use Rattle.vw_courses.specs.Messages.{vocabulary}
use Rattle.vw_courses.specs.Kinds.{reporting}
use Rattle.vw_top.specs.Stages.{IsReportText}
use Rattle.vw_top.proofs.report.report_plan.Goals as goal

pub returns-in_err-text : goal.returns-in_err-text
returns-in_err-text g c =
    let p = err_from_is_err_and c.from_residual.result c.from_residual.ensures.1 in
    let checked = c.args.checked in
    let planned = planned_board checked.ordered checked.board checked.plan in
    let next : Findings → Course vocabulary = λ found. writes (report_of planned c.args.names found) in
    rw (p.1, p.2)
    (goes_unmade g.S.Shelf.seen g.O.Sink.seen vocabulary Unmoved (reporting planned) next (unmoved_still vocabulary) (IsReportText planned c.as_slice.result.now) c.args.outside.now c.in_err-text.field-0.0 c.in_err-text.ensures)

pub returns : goal.returns
returns g c =
    let checked = c.args.checked in
    let planned = planned_board checked.ordered checked.board checked.plan in
    let next : Findings → Course vocabulary = λ found. writes (report_of planned c.args.names found) in
    let reports : IsReport planned c.args.names c.in_ok-text.text.items = subst (λ (names : List (List ℕ)). IsReport planned names c.in_ok-text.text.items) c.as_slice.ensures c.in_ok-text.ensures in
    let text = report_of planned c.args.names reports.found in
    goes_made g.S.Shelf.seen g.O.Sink.seen vocabulary Unmoved (reporting planned) next reports.found reports.are
    (goes_writing g.S.Shelf.seen g.O.Sink.seen vocabulary Unmoved text c.args.outside.now _ (record { shelf = refl; out = refl }) refl (unmoved_still vocabulary) c.put_text.result c.answer_of.result c.answer_of.ensures
    (c.put_text.ensures text reports.is))
