use Rattle.std.proofs.Common.{refl}
use Rattle.vw_course.specs.Goes.{Unmoved}
use Rattle.vw_course.proofs.GoesLaws.{goes_on}
use Rattle.vw_front.specs.declared.named.NamedNetlist.{NamedNetlist}
use Rattle.vw_courses.specs.Messages.{vocabulary}
use Rattle.vw_courses.specs.Kinds.{named_kind}
use Rattle.vw_courses.specs.Commands.{on_board_course, report_rest}
use Rattle.vw_files.specs.Ready.{by_of}
use Rattle.vw_top.proofs.report.write_report.Goals as goal

pub returns : goal.returns
returns g c =
    let files = c.args.files.now in
    goes_on g.S.Shelf.seen g.O.Sink.seen vocabulary Unmoved (named_kind files.probes.nets.now) files.design.now (λ (named : NamedNetlist). on_board_course files.board.now (by_of files.plan) (report_rest named.nets) named.ordered) c.in_ok-named.named
    (record { shelf = refl; out = refl }) refl c.in_ok-named.ensures c.report_on_board.ensures
