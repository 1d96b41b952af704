use Rattle.std.proofs.Common.{[], refl}
use Rattle.vw_course.specs.Goes.{Unmoved}
use Rattle.vw_course.proofs.GoesLaws.{goes_on}
use Rattle.vw_courses.specs.Messages.{vocabulary}
use Rattle.vw_courses.specs.Kinds.{named_kind}
use Rattle.vw_courses.specs.Commands.{grading_course}
use Rattle.vw_courses.specs.Steps.Commands.{share_view}
use Rattle.vw_top.proofs.grade.grade.Goals as goal

pub returns : goal.returns
returns g c =
    goes_on g.S.Shelf.seen g.O.Sink.seen vocabulary Unmoved (named_kind []) c.args.design.now (grading_course (share_view c.args.settings) c.args.stimulus.now c.args.settings.unknown) c.in_ok-named.named (record { shelf = refl; out = refl }) refl c.in_ok-named.ensures c.grade_netlist.ensures
