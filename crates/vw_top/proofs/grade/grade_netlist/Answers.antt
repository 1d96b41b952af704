use Rattle.std.proofs.Common.{List, ap, refl}
use Rattle.vw_course.specs.Goes.{Unmoved}
use Rattle.vw_design.specs.Paths.{Word}
use Rattle.vw_trace.proofs.StreamedTexts.{streams_as}
use Rattle.vw_courses.specs.Commands.{no_links, flat_grading, grading_of, no_check}
use Rattle.vw_courses.specs.Steps.Commands.{share_view}
use Rattle.vw_top.proofs.StreamedTraces.{goes_streaming, no_parts, without_links}
use Rattle.vw_top.proofs.grade.grade_netlist.Goals as goal

pub returns : goal.returns
returns g c =
    let mid = record c.args.outside.now { shelf = record c.args.outside.now.shelf { now = c.check_rows.new.shelf } } in
    let flat = c.args.named.ordered.flat in
    rw c.run_answer.ensures
    (goes_streaming g.S.Shelf.seen g.O.Sink.seen Unmoved c.args.stimulus.now flat.inputs no_check (grading_of (share_view c.args.settings) c.args.settings.unknown c.args.named) no_links c.args.outside.now mid (record { shelf = refl; out = refl }) refl
    _ _ no_parts _ c.grade_rows-graded.result (record { shelf = refl; out = refl }) c.in_ok-rows.ensures.judges c.in_ok-rows.ensures.starts (λ all counted. tt) (without_links (λ these. Unit {0})) refl refl
    (streams_as (λ these. ap (λ (names : List Word). flat_grading (share_view c.args.settings) names c.args.settings.unknown flat these) c.as_slice.ensures) (λ these done. tt) c.grade_rows-graded.ensures.streams))
