use Rattle.std.proofs.Common.{◌≡◌, ◌∙◌, Err, List, ℕ, refl, sym, subst}
use Rattle.std.proofs.lemmas.Result.{err_from_is_err_and}
use Rattle.vw_net.specs.declared.ordered.Ordered.{Ordered}
use Rattle.vw_files.specs.Ready.{by_of}
use Rattle.vw_course.specs.Goes.{Goes, Unmoved}
use Rattle.vw_course.proofs.GoesLaws.{unmoved_still}
use Rattle.vw_courses.specs.Messages.{vocabulary}
use Rattle.vw_courses.specs.Commands.{on_board_course, report_rest}
use Rattle.vw_files.proofs.ReadyLaws.{goes_no_board, goes_on_board}
use Rattle.vw_top.proofs.report.report_on_board.Goals as goal

pub returns-in_err-checked : goal.returns-in_err-checked
returns-in_err-checked g c =
    let p = err_from_is_err_and c.from_residual.result c.from_residual.ensures.1 in
    let named = c.args.named in
    let mid = record c.args.outside.now { shelf = record c.args.outside.now.shelf { now = c.ready_on_board.new.shelf } } in
    rw (p.1, p.2)
    (subst (λ (ordered : Ordered). Goes g.S.Shelf.seen g.O.Sink.seen vocabulary (on_board_course c.args.board.now (by_of c.args.plan) (report_rest named.nets) ordered) c.args.outside.now mid (Err c.in_err-checked.field-0.0)) c.into_parts-ordered.ensures.ordered
    (goes_no_board g.S.Shelf.seen g.O.Sink.seen Unmoved (report_rest named.nets) c.args.board.now (by_of c.args.plan) c.into_parts-ordered.result.0 c.args.outside.now mid (record { shelf = refl; out = refl }) refl
    (unmoved_still vocabulary) c.in_err-checked.field-0.0 c.in_err-checked.ensures))

pub returns : goal.returns
returns g c =
    let named = c.args.named in
    let checked = c.in_ok-checked.checked in
    let ordered = c.into_parts-ordered.result.0 in
    let mid = record c.args.outside.now { shelf = record c.args.outside.now.shelf { now = c.ready_on_board.new.shelf } } in
    let after = c.report_plan.new.outside in
    let rest : Goes g.S.Shelf.seen g.O.Sink.seen vocabulary (report_rest named.nets ordered checked.board checked.plan) mid after c.report_plan.result =
    subst (λ (one : Ordered). Goes g.S.Shelf.seen g.O.Sink.seen vocabulary (report_rest named.nets one checked.board checked.plan) mid after c.report_plan.result) c.in_ok-checked.ensures.1.its_ordered
    (subst (λ (names : List (List ℕ)). Goes g.S.Shelf.seen g.O.Sink.seen vocabulary (report_rest names checked.ordered checked.board checked.plan) mid after c.report_plan.result) c.into_parts-ordered.ensures.nets c.report_plan.ensures) in
    subst (λ (one : Ordered). Goes g.S.Shelf.seen g.O.Sink.seen vocabulary (on_board_course c.args.board.now (by_of c.args.plan) (report_rest named.nets) one) c.args.outside.now after c.report_plan.result) c.into_parts-ordered.ensures.ordered
    (goes_on_board g.S.Shelf.seen g.O.Sink.seen Unmoved (report_rest named.nets) c.args.board.now (by_of c.args.plan) ordered c.args.outside.now mid (record { shelf = refl; out = refl }) refl
    checked after c.report_plan.result c.in_ok-checked.ensures rest)
