use Rattle.std.proofs.Common.{◌≡◌, ◌∙◌, List, Bool, length, Err, ap, subst}
use Rattle.std.specs.Prelude.{IfOk}
use Rattle.std.proofs.lemmas.Result.{err_from_is_err_and}
use Rattle.vw_net.specs.declared.flat.Flat.{Flat}
use Rattle.vw_net.specs.Cells.{start_values}
use Rattle.vw_net.proofs.Counts.{length-start_values}
use Rattle.vw_rows.specs.declared.fault.StimFault.{StimFault}
use Rattle.vw_trace.proofs.StreamedTexts.{nothing_streamed}
use Rattle.vw_courses.specs.Commands.{flat_grading, graded_text}
use Rattle.vw_courses.specs.Steps.Commands.{share_view}
use Rattle.vw_top.proofs.GradedRows.{no_rows, not_written, whole_written}
use Rattle.vw_top.proofs.grade.grade_rows.Given.{Over}
use Rattle.vw_top.proofs.grade.grade_rows.Goals.{In_ok-start}
use Rattle.vw_top.proofs.grade.grade_rows.Goals as goal

pub returns-in_err-start-clause-streams : goal.returns-in_err-start-clause-streams
returns-in_err-start-clause-streams g c =
    let p = err_from_is_err_and c.from_residual.result c.from_residual.ensures.1 in
    rw (p.1, p.2)
    (nothing_streamed c.args.again.now (flat_grading (share_view c.args.settings) c.args.names.now c.args.settings.unknown c.args.ordered.now.flat) (λ rows. Unit {0}) tt (g.O.Sink.seen c.args.out.now))

pub returns-in_err-rows-clause-streams : goal.returns-in_err-rows-clause-streams
returns-in_err-rows-clause-streams g c =
    let e = c.in_err-rows.ensures in
    let p = err_from_is_err_and c.from_residual-in_err-rows.result c.from_residual-in_err-rows.ensures.1 in
    rw (p.1, p.2)
    (no_rows c.args.again.now c.next_batch.new.self e.shelf (flat_grading (share_view c.args.settings) c.args.names.now c.args.settings.unknown c.args.ordered.now.flat) (g.O.Sink.seen c.args.out.now) c.in_err-rows.field-0.0
    (λ same. e.fault (ap (λ (fault : StimFault). Err fault) same)) (λ differs. e.kept (λ same. differs (let is = same in cc))) e.sure)

-- the state starts with the start values
starts : (g : Over) (c : In_ok-start g) → c.in_ok-start.start ≡ start_values c.args.settings.unknown c.args.ordered.now.flat.cells
starts g c = c.in_ok-start.ensures ∙ ap (λ (flat : Flat). start_values c.args.settings.unknown flat.cells) c.flat.ensures

pub graded_text-text-requires-clause-latches : goal.graded_text-text-requires-clause-latches
graded_text-text-requires-clause-latches g c κs within =
    let at = goal.at.graded_text-text-requires-clause-latches g c in
    ap (λ (bits : List Bool). length bits) (starts g at.In_ok-start) ∙ length-start_values c.args.settings.unknown c.args.ordered.now.flat.cells

pub returns-in_err-put_text-clause-streams : goal.returns-in_err-put_text-clause-streams
returns-in_err-put_text-clause-streams g c =
    let at = goal.at.returns-in_err-put_text-clause-streams g c in
    let p = err_from_is_err_and c.from_residual-in_err-put_text.result c.from_residual-in_err-put_text.ensures.1 in
    let names = c.args.names.now in
    let flat = c.args.ordered.now.flat in
    let rows = c.in_ok-rows.rows in
    let read = c.in_ok-rows.ensures in
    let text = flat_grading (share_view c.args.settings) names c.args.settings.unknown flat in
    let made = subst (λ (start : List Bool). IfOk c.graded_text-text.result (λ its. its.items ≡ graded_text (share_view c.args.settings) names flat start rows)) (starts g at.In_ok-start) c.graded_text-text.ensures in
    rw (p.1, p.2)
    (not_written c.args.again.now c.next_batch.new.self read.shelf text (g.O.Sink.seen c.args.out.now) rows 4294967295 c.args.again.now.stimulus.now.few (read.kept (λ wrong. let is = wrong in cc)) read.rows read.width read.count (g.O.Sink.seen c.put_text.new.out) c.in_err-put_text.field-0.0 (c.in_err-put_text.ensures (text rows) made))

pub returns-clause-streams : goal.returns-clause-streams
returns-clause-streams g c =
    let at = goal.at.returns-clause-streams g c in
    let names = c.args.names.now in
    let flat = c.args.ordered.now.flat in
    let rows = c.in_ok-rows.rows in
    let read = c.in_ok-rows.ensures in
    let text = flat_grading (share_view c.args.settings) names c.args.settings.unknown flat in
    let made = subst (λ (start : List Bool). IfOk c.graded_text-text.result (λ its. its.items ≡ graded_text (share_view c.args.settings) names flat start rows)) (starts g at.In_ok-start) c.graded_text-text.ensures in
    whole_written c.args.again.now c.next_batch.new.self read.shelf text (g.O.Sink.seen c.args.out.now) rows 4294967295 c.args.again.now.stimulus.now.few (read.kept (λ wrong. let is = wrong in cc)) read.rows read.width read.count (g.O.Sink.seen c.put_text.new.out) (c.in_ok-put_text.ensures (text rows) made)
