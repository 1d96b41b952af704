use Rattle.std.proofs.Common.{refl}
use Rattle.vw_course.specs.Goes.{Unmoved}
use Rattle.vw_course.proofs.GoesLaws.{goes_on, goes_writing, unmoved_still}
use Rattle.vw_courses.specs.Messages.{vocabulary}
use Rattle.vw_courses.specs.Kinds.{named_kind}
use Rattle.vw_courses.specs.Commands.{nets_text, nets_writing}
use Rattle.vw_top.proofs.nets.nets.Goals as goal

pub write_nets-requires : goal.write_nets-requires
write_nets-requires g c = let judged = c.in_ok-named.ensures in (judged.1, judged.3)

pub returns : goal.returns
returns g c =
    let probes = c.args.probes.nets.now in
    let mid = record c.args.outside.now { shelf = record c.args.outside.now.shelf { now = c.read_named_design.new.shelf } } in
    let named = c.in_ok-named.named in
    goes_on g.S.Shelf.seen g.O.Sink.seen vocabulary Unmoved (named_kind probes) c.args.design.now (nets_writing probes) named (record { shelf = refl; out = refl }) refl c.in_ok-named.ensures
    (goes_writing g.S.Shelf.seen g.O.Sink.seen vocabulary Unmoved (nets_text probes named) mid _ (record { shelf = refl; out = refl }) refl (unmoved_still vocabulary) c.write_nets.result c.answer_of.result c.answer_of.ensures c.write_nets.ensures)
