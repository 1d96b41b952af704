use Rattle.std.proofs.Common.{refl, sym, ◌∙◌}
use Rattle.std.proofs.lemmas.Result.{err_from_is_err_and}
use Rattle.vw_course.specs.Goes.{MovedFrom}
use Rattle.vw_net.specs.Cells.{start_values}
use Rattle.vw_plan.specs.PlannedBoard.{planned_board}
use Rattle.vw_trace.specs.FlatTrace.{flat_trace_until}
use Rattle.vw_courses.specs.Commands.{board_scripts, no_check}
use Rattle.vw_top.proofs.StreamedTraces.{goes_unchecked, goes_streaming, over_links}
use Rattle.vw_top.proofs.LinkTraffic.{parts_from}
use Rattle.vw_top.proofs.run.run_checked_together.Goals as goal

pub returns-in_err-rows-clause-goes : goal.returns-in_err-rows-clause-goes
returns-in_err-rows-clause-goes g c =
    let p = err_from_is_err_and c.from_residual.result c.from_residual.ensures.1 in
    let checked = c.args.checked in
    let ordered = checked.ordered in
    let links = g.F.Fabric.carried c.args.floor.now.fabric.now in
    rw (p.1, p.2)
    (goes_unchecked g.S.Shelf.seen g.O.Sink.seen (MovedFrom links links) c.args.stimulus.now ordered.flat.inputs no_check (flat_trace_until c.args.until c.args.probes c.args.unknown ordered.flat) (board_scripts c.args.until c.args.floor.now.workers c.args.unknown (planned_board ordered checked.board checked.plan))
    c.args.outside.now _ (record { shelf = refl; out = refl }) refl (λ before after moved. moved.1 ∙ sym moved.0) c.in_err-rows.field-0.0 c.in_err-rows.ensures.judges)

pub returns-clause-goes : goal.returns-clause-goes
returns-clause-goes g c =
    let checked = c.args.checked in
    let ordered = checked.ordered in
    let planned = planned_board ordered checked.board checked.plan in
    let workers = c.args.floor.now.workers in
    let mid = record c.args.outside.now { shelf = record c.args.outside.now.shelf { now = c.check_rows.new.shelf } } in
    let Moved = MovedFrom (g.F.Fabric.carried c.args.floor.now.fabric.now) (g.F.Fabric.carried c.run-ran.new.floor.fabric.now) in
    rw c.run_answer.ensures
    (goes_streaming g.S.Shelf.seen g.O.Sink.seen Moved c.args.stimulus.now ordered.flat.inputs no_check (flat_trace_until c.args.until c.args.probes c.args.unknown ordered.flat) (board_scripts c.args.until workers c.args.unknown planned) c.args.outside.now mid (record { shelf = refl; out = refl }) refl
    _ _ (parts_from planned 0 (start_values c.args.unknown ordered.flat.cells) c.args.until workers) _ c.run-ran.result (record { shelf = refl; out = refl }) c.in_ok-rows.ensures.judges c.in_ok-rows.ensures.starts (λ all counted. tt)
    (over_links (board_scripts c.args.until workers c.args.unknown planned)) refl refl c.run-ran.ensures.streams)
