use Rattle.std.proofs.lemmas.Result.{err_from_is_err_and}
use Rattle.vw_course.proofs.PartLaws.{part_past, part_not_past, part_judged}
use Rattle.vw_plan.specs.PlannedBoard.{planned_board}
use Rattle.vw_courses.specs.Messages.{vocabulary}
use Rattle.vw_courses.specs.Kinds.{plan_kind, soundness}
use Rattle.vw_courses.specs.Commands.{sound_then}
use Rattle.vw_courses.specs.MayPlan.{of_file}
use Rattle.vw_files.specs.Ready.{cut_there, IsCheckedPlan, IsPlanned}
use Rattle.vw_files.proofs.ReadyLaws.{planned_given}
use Rattle.vw_files.proofs.ready.ready_given.Goals as goal

pub returns-in_err-plan : goal.returns-in_err-plan
returns-in_err-plan g c =
    let p = err_from_is_err_and c.from_residual.result c.from_residual.ensures.1 in
    rw (p.1, p.2)
    (part_not_past vocabulary plan_kind c.args.plan.now (sound_then c.args.ordered c.args.board (cut_there c.args.ordered c.args.board)) (g.S.Shelf.seen c.args.shelf.now) (g.S.Shelf.seen c.read_given_plan.new.shelf) (IsPlanned (g.S.Shelf.seen c.args.shelf.now).told (of_file c.args.plan.now) c.args.ordered c.args.board) c.in_err-plan.field-0.0 c.in_err-plan.ensures)

pub returns : goal.returns
returns g c =
    let shelf = g.S.Shelf.seen c.args.shelf.now in
    let mid = g.S.Shelf.seen c.read_given_plan.new.shelf in
    let planned = planned_board c.args.ordered c.args.board c.in_ok-plan.plan in
    part_past vocabulary plan_kind c.args.plan.now (sound_then c.args.ordered c.args.board (cut_there c.args.ordered c.args.board)) shelf mid (IsPlanned (g.S.Shelf.seen c.args.shelf.now).told (of_file c.args.plan.now) c.args.ordered c.args.board) (IsCheckedPlan planned) c.in_ok-plan.plan mid c.sound_plan.result c.in_ok-plan.ensures
    (λ checked text of spelled is. planned_given shelf.told c.args.plan.now c.args.ordered c.args.board c.in_ok-plan.plan checked text of spelled is)
    (part_judged vocabulary (IsCheckedPlan planned) mid (soundness planned) (λ done. cut_there c.args.ordered c.args.board c.in_ok-plan.plan) c.sound_plan.result c.sound_plan.ensures)
