use Rattle.vw_course.proofs.PartLaws.{part_made}
use Rattle.vw_run.specs.Compiled.{IsCompiled}
use Rattle.vw_courses.specs.Messages.{vocabulary}
use Rattle.vw_courses.specs.Kinds.{planning}
use Rattle.vw_courses.specs.Commands.{plan_then}
use Rattle.vw_courses.specs.MayPlan.{made_here}
use Rattle.vw_files.specs.Ready.{cut_there, IsPlanned}
use Rattle.vw_files.proofs.ReadyLaws.{part_as, planned_made}
use Rattle.vw_files.proofs.ready.ready_made.Goals as goal

pub returns : goal.returns
returns g c =
    let shelf = g.S.Shelf.seen c.args.shelf.now in
    part_as (plan_then made_here c.args.ordered c.args.board (cut_there c.args.ordered c.args.board)) (IsCompiled c.args.ordered c.args.board) (IsPlanned shelf.told made_here c.args.ordered c.args.board) shelf shelf
    (planned_made shelf.told c.args.ordered c.args.board) c.good_plan.result
    (part_made vocabulary (IsCompiled c.args.ordered c.args.board) shelf (planning c.args.ordered c.args.board) (cut_there c.args.ordered c.args.board) c.good_plan.result c.good_plan.ensures)
