use Rattle.vw_course.specs.Goes.{IsFollowed, Unmoved}
use Rattle.vw_outside.specs.Memory.{seen_sink}
use Rattle.vw_outside.specs.Sure.{seen_sure}
use Rattle.vw_courses.specs.Messages.{vocabulary}
use Rattle.vw_top.proofs.DemoRuns.{named}
use Rattle.vw_top.proofs.demo.run_texts_by_one.Goals as goal

pub returns : goal.returns
returns c = named 1 c.in_ok-design.design c.in_ok-board.board c.in_ok-stimulus.stimulus
    (λ course. IsFollowed vocabulary Unmoved course (seen_sure c.args.shelf.now.files.items) (seen_sink c.args.trace.now) (seen_sure c.run_named_by_one.new.shelf.files.items) (seen_sink c.run_named_by_one.new.trace) c.run_named_by_one.result)
    c.in_ok-design.ensures c.in_ok-board.ensures c.in_ok-stimulus.ensures c.run_named_by_one.ensures
