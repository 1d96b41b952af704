use Rattle.std.proofs.Common.{Result, Err, sym, ◌∙◌, ap, subst}
use Rattle.std.proofs.lemmas.Result.{err_from_is_err_and}
use Rattle.vw_course.specs.declared.unfinished.Unfinished.{Unfinished}
use Rattle.vw_course.specs.Goes.{EndsPart}
use Rattle.vw_plan.specs.declared.checked.Checked.{Checked}
use Rattle.vw_courses.specs.declared.vocabulary.File.{File}
use Rattle.vw_courses.specs.declared.vocabulary.Reason.{Reason}
use Rattle.vw_course.proofs.PartLaws.{part_past, part_not_past}
use Rattle.vw_courses.specs.Messages.{vocabulary}
use Rattle.vw_courses.specs.Kinds.{board_kind}
use Rattle.vw_courses.specs.Commands.{plan_then, on_board_course}
use Rattle.vw_files.specs.Ready.{by_of, cut_there, IsPlanned, IsOnBoard}
use Rattle.vw_files.proofs.ReadyLaws.{planned_on_board}
use Rattle.vw_files.proofs.ready.ready_on_board.Goals as goal

pub returns-in_err-board : goal.returns-in_err-board
returns-in_err-board g c =
    let p = err_from_is_err_and c.from_residual.result c.from_residual.ensures.1 in
    let shelf = g.S.Shelf.seen c.args.shelf.now in
    let mid = g.S.Shelf.seen c.read_board.new.shelf in
    let Made = IsOnBoard (g.S.Shelf.seen c.args.shelf.now).told c.args.board.now (by_of c.args.plan) c.args.ordered in
    subst (λ (answer : Result Checked (Unfinished File Reason)). EndsPart vocabulary (on_board_course c.args.board.now (by_of c.args.plan) cut_there c.args.ordered) Made shelf mid answer)
    (sym (p.1 ∙ ap (λ (one : Unfinished File Reason). Err one) p.2))
    (part_not_past vocabulary board_kind c.args.board.now (λ on. plan_then (by_of c.args.plan) c.args.ordered on (cut_there c.args.ordered on)) shelf mid Made c.in_err-board.field-0.0 c.in_err-board.ensures)

pub returns : goal.returns
returns g c =
    let shelf = g.S.Shelf.seen c.args.shelf.now in
    let mid = g.S.Shelf.seen c.read_board.new.shelf in
    let given = by_of c.args.plan in
    part_past vocabulary board_kind c.args.board.now (λ on. plan_then given c.args.ordered on (cut_there c.args.ordered on)) shelf mid (IsOnBoard (g.S.Shelf.seen c.args.shelf.now).told c.args.board.now (by_of c.args.plan) c.args.ordered) (IsPlanned mid.told given c.args.ordered c.in_ok-board.board) c.in_ok-board.board
    (g.S.Shelf.seen c.ready_with_plan.new.shelf) c.ready_with_plan.result c.in_ok-board.ensures
    (λ checked text of spelled is. planned_on_board shelf mid c.in_ok-board.ensures.0 c.args.board.now given c.args.ordered c.in_ok-board.board checked text of spelled is)
    c.ready_with_plan.ensures
