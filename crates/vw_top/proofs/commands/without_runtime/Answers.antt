use Rattle.std.proofs.Common.{refl}
use Rattle.vw_course.specs.Goes.{seen_outside}
use Rattle.vw_course.proofs.GoesLaws.{call_done, call_of}
use Rattle.vw_courses.specs.Commands.{course_of}
use Rattle.vw_courses.specs.Messages.{vocabulary}
use Rattle.vw_courses.specs.Steps.Commands.{plain_view}
use Rattle.vw_top.proofs.commands.without_runtime.Goals as goal

pub returns-in-Ok : goal.returns-in-Ok
returns-in-Ok g c = λ links.
    call_done vocabulary (course_of (plain_view c.args.command)) (seen_outside (g.S.Shelf.seen c.args.shelf.now) (g.O.Sink.seen c.args.out.now) links)
    (seen_outside (g.S.Shelf.seen c.follow.new.shelf) (g.O.Sink.seen c.follow.new.out) links) (g.E.Sink.seen c.args.err.now) (g.E.Sink.seen c.args.err.now) 0 refl refl
    (c.in-Ok.ensures.follows links links refl)

pub returns-in-Err : goal.returns-in-Err
returns-in-Err g c = λ links.
    call_of vocabulary (course_of (plain_view c.args.command)) (seen_outside (g.S.Shelf.seen c.args.shelf.now) (g.O.Sink.seen c.args.out.now) links)
    (seen_outside (g.S.Shelf.seen c.follow.new.shelf) (g.O.Sink.seen c.follow.new.out) links) (g.E.Sink.seen c.args.err.now) (g.E.Sink.seen c.report.new.err) c.report.result
    c.in-Err.unfinished (c.in-Err.ensures.follows links links refl) c.report.ensures
