use Rattle.std.proofs.Common.{Result, Err, sym, ◌∙◌, ap, subst}
use Rattle.std.proofs.lemmas.Result.{err_from_is_err_and}
use Rattle.vw_course.specs.declared.unfinished.Unfinished.{Unfinished}
use Rattle.vw_course.specs.Goes.{EndsPart}
use Rattle.vw_plan.specs.declared.checked.Checked.{Checked}
use Rattle.vw_courses.specs.declared.vocabulary.File.{File}
use Rattle.vw_courses.specs.declared.vocabulary.Reason.{Reason}
use Rattle.vw_course.proofs.PartLaws.{part_past, part_not_past}
use Rattle.vw_courses.specs.Messages.{vocabulary}
use Rattle.vw_courses.specs.Kinds.{netlist_kind}
use Rattle.vw_courses.specs.Commands.{on_board_course, ready_course}
use Rattle.vw_files.specs.Ready.{by_of, cut_there, IsOnBoard, IsReadyBoard}
use Rattle.vw_files.proofs.ReadyLaws.{board_of_design}
use Rattle.vw_files.proofs.ready.ready_board.Goals as goal

pub returns-in_err-ordered : goal.returns-in_err-ordered
returns-in_err-ordered g c =
    let p = err_from_is_err_and c.from_residual.result c.from_residual.ensures.1 in
    let shelf = g.S.Shelf.seen c.args.shelf.now in
    let mid = g.S.Shelf.seen c.read_design.new.shelf in
    let Made = IsReadyBoard c.args.files.now.probes.nets.now (g.S.Shelf.seen c.args.shelf.now).told c.args.files.now.design.now c.args.files.now.board.now (by_of c.args.files.now.plan) in
    subst (λ (answer : Result Checked (Unfinished File Reason)). EndsPart vocabulary (ready_course c.args.files.now.probes.nets.now c.args.files.now.design.now c.args.files.now.board.now (by_of c.args.files.now.plan) cut_there) Made shelf mid answer)
    (sym (p.1 ∙ ap (λ (one : Unfinished File Reason). Err one) p.2))
    (part_not_past vocabulary (netlist_kind c.args.files.now.probes.nets.now) c.args.files.now.design.now (on_board_course c.args.files.now.board.now (by_of c.args.files.now.plan) cut_there) shelf mid Made c.in_err-ordered.field-0.0 c.in_err-ordered.ensures)

pub returns : goal.returns
returns g c =
    let shelf = g.S.Shelf.seen c.args.shelf.now in
    let mid = g.S.Shelf.seen c.read_design.new.shelf in
    let given = by_of c.args.files.now.plan in
    part_past vocabulary (netlist_kind c.args.files.now.probes.nets.now) c.args.files.now.design.now (on_board_course c.args.files.now.board.now given cut_there) shelf mid (IsReadyBoard c.args.files.now.probes.nets.now (g.S.Shelf.seen c.args.shelf.now).told c.args.files.now.design.now c.args.files.now.board.now (by_of c.args.files.now.plan)) (IsOnBoard mid.told c.args.files.now.board.now given c.in_ok-ordered.ordered) c.in_ok-ordered.ordered
    (g.S.Shelf.seen c.ready_on_board.new.shelf) c.ready_on_board.result c.in_ok-ordered.ensures
    (λ checked text of netlist is. board_of_design shelf mid c.in_ok-ordered.ensures.0 c.args.files.now.probes.nets.now c.args.files.now.design.now c.args.files.now.board.now given c.in_ok-ordered.ordered checked text of netlist is)
    c.ready_on_board.ensures
