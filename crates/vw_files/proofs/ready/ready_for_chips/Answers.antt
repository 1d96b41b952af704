use Rattle.std.proofs.lemmas.Result.{err_from_is_err_and}
use Rattle.vw_course.proofs.PartLaws.{part_past, part_not_past, part_made}
use Rattle.vw_run.specs.GivenChips.{IsCompiledFor}
use Rattle.vw_courses.specs.Messages.{vocabulary}
use Rattle.vw_courses.specs.Kinds.{chips_kind, planning_for}
use Rattle.vw_courses.specs.Commands.{placed_then}
use Rattle.vw_courses.specs.MayPlan.{for_chips}
use Rattle.vw_files.specs.Ready.{cut_there, IsPlanned}
use Rattle.vw_files.proofs.ReadyLaws.{planned_for}
use Rattle.vw_files.proofs.ready.ready_for_chips.Goals as goal

pub placed_plan-requires : goal.placed_plan-requires
placed_plan-requires g c = c.in_ok-chips.ensures.3.is.0.few

pub returns-in_err-chips : goal.returns-in_err-chips
returns-in_err-chips g c =
    let p = err_from_is_err_and c.from_residual.result c.from_residual.ensures.1 in
    rw (p.1, p.2)
    (part_not_past vocabulary chips_kind c.args.chips.now (placed_then c.args.ordered c.args.board (cut_there c.args.ordered c.args.board)) (g.S.Shelf.seen c.args.shelf.now) (g.S.Shelf.seen c.read_given_chips.new.shelf) (IsPlanned (g.S.Shelf.seen c.args.shelf.now).told (for_chips c.args.chips.now) c.args.ordered c.args.board) c.in_err-chips.field-0.0 c.in_err-chips.ensures)

pub returns : goal.returns
returns g c =
    let shelf = g.S.Shelf.seen c.args.shelf.now in
    let mid = g.S.Shelf.seen c.read_given_chips.new.shelf in
    let list = c.in_ok-chips.chips in
    part_past vocabulary chips_kind c.args.chips.now (placed_then c.args.ordered c.args.board (cut_there c.args.ordered c.args.board)) shelf mid (IsPlanned shelf.told (for_chips c.args.chips.now) c.args.ordered c.args.board) (IsCompiledFor c.args.ordered c.args.board list) list mid c.placed_plan.result c.in_ok-chips.ensures
    (λ checked text of spelled is. planned_for shelf.told c.args.chips.now c.args.ordered c.args.board list checked text of spelled is)
    (part_made vocabulary (IsCompiledFor c.args.ordered c.args.board list) mid (planning_for c.args.ordered c.args.board list) (cut_there c.args.ordered c.args.board) c.placed_plan.result c.placed_plan.ensures)
