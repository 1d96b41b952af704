use Rattle.std.proofs.Common.{refl, sym}
use Rattle.vw_course.specs.Goes.{Unmoved}
use Rattle.vw_course.proofs.GoesLaws.{goes_writing, unmoved_still}
use Rattle.vw_courses.specs.Help.{help_text}
use Rattle.vw_courses.specs.Messages.{vocabulary}
use Rattle.vw_top.proofs.help.help.Goals as goal

pub returns : goal.returns
returns g c =
    goes_writing g.S.Shelf.seen g.O.Sink.seen vocabulary Unmoved help_text c.args.outside.now _ (record { shelf = refl; out = refl }) refl (unmoved_still vocabulary) c.put_constant.result c.answer_of.result c.answer_of.ensures
    (rw (sym c.help_bytes.ensures) c.put_constant.ensures)
