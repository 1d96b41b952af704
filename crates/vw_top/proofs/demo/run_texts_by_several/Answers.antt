use Rattle.vw_course.specs.Goes.{IsFollowed, MovedFrom}
use Rattle.vw_outside.specs.Memory.{seen_sink}
use Rattle.vw_outside.specs.Sure.{seen_sure}
use Rattle.vw_courses.specs.Messages.{vocabulary}
use Rattle.vw_top.proofs.DemoRuns.{named}
use Rattle.vw_top.proofs.demo.run_texts_by_several.Goals as goal

pub returns-clause-goes : goal.returns-clause-goes
returns-clause-goes g c = named c.args.floor.now.workers c.in_ok-design.design c.in_ok-board.board c.in_ok-stimulus.stimulus
    (λ course. IsFollowed vocabulary (MovedFrom (g.F.Fabric.carried c.args.floor.now.fabric.now) (g.F.Fabric.carried c.run_named_by_several.new.floor.fabric.now)) course (seen_sure c.args.shelf.now.files.items) (seen_sink c.args.trace.now) (seen_sure c.run_named_by_several.new.shelf.files.items) (seen_sink c.run_named_by_several.new.trace) c.run_named_by_several.result)
    c.in_ok-design.ensures c.in_ok-board.ensures c.in_ok-stimulus.ensures c.run_named_by_several.ensures.goes
