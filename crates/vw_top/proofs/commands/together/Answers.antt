use Rattle.std.proofs.Common.{refl}
use Rattle.vw_course.specs.Goes.{seen_outside}
use Rattle.vw_course.proofs.GoesLaws.{call_done, call_of}
use Rattle.vw_courses.specs.Steps.Commands.{runtime_view}
use Rattle.vw_courses.specs.Commands.{course_of}
use Rattle.vw_courses.specs.Messages.{vocabulary}
use Rattle.vw_top.proofs.commands.together.Goals as goal

pub returns-in-Ok-clause-called : goal.returns-in-Ok-clause-called
returns-in-Ok-clause-called g c =
    let carried = g.F.Fabric.carried in
    call_done vocabulary (course_of (runtime_view c.args.command)) (seen_outside (g.S.Shelf.seen c.args.shelf.now) (g.O.Sink.seen c.args.out.now) (carried c.args.floor.now.fabric.now))
    (seen_outside (g.S.Shelf.seen c.follow_together.new.shelf) (g.O.Sink.seen c.follow_together.new.out) (carried c.follow_together.new.floor.fabric.now))
    (g.E.Sink.seen c.args.err.now) (g.E.Sink.seen c.args.err.now) 0 refl refl (c.in-Ok.ensures.goes.follows _ _ (refl, refl))

pub returns-in-Err-clause-called : goal.returns-in-Err-clause-called
returns-in-Err-clause-called g c =
    let carried = g.F.Fabric.carried in
    call_of vocabulary (course_of (runtime_view c.args.command)) (seen_outside (g.S.Shelf.seen c.args.shelf.now) (g.O.Sink.seen c.args.out.now) (carried c.args.floor.now.fabric.now))
    (seen_outside (g.S.Shelf.seen c.follow_together.new.shelf) (g.O.Sink.seen c.follow_together.new.out) (carried c.follow_together.new.floor.fabric.now))
    (g.E.Sink.seen c.args.err.now) (g.E.Sink.seen c.report.new.err) c.report.result c.in-Err.unfinished (c.in-Err.ensures.goes.follows _ _ (refl, refl)) c.report.ensures
