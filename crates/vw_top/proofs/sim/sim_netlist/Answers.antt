use Rattle.std.proofs.Common.{refl}
use Rattle.std.proofs.lemmas.Result.{err_from_is_err_and}
use Rattle.vw_course.specs.Goes.{Unmoved}
use Rattle.vw_course.proofs.GoesLaws.{unmoved_still}
use Rattle.vw_courses.specs.Messages.{vocabulary}
use Rattle.vw_courses.specs.Commands.{no_links, no_check}
use Rattle.vw_trace.specs.FlatTrace.{flat_trace_until}
use Rattle.vw_top.proofs.StreamedTraces.{goes_unchecked, goes_streaming, no_parts, without_links}
use Rattle.vw_top.proofs.sim.sim_netlist.Goals as goal

pub returns-in_err-rows : goal.returns-in_err-rows
returns-in_err-rows g c =
    let p = err_from_is_err_and c.from_residual.result c.from_residual.ensures.1 in
    rw (p.1, p.2)
    (goes_unchecked g.S.Shelf.seen g.O.Sink.seen Unmoved c.args.stimulus.now c.args.ordered.flat.inputs no_check (flat_trace_until c.args.until c.args.probes c.args.unknown c.args.ordered.flat) no_links c.args.outside.now _ (record { shelf = refl; out = refl }) refl
    (unmoved_still vocabulary) c.in_err-rows.field-0.0 c.in_err-rows.ensures.judges)

pub returns : goal.returns
returns g c =
    let mid = record c.args.outside.now { shelf = record c.args.outside.now.shelf { now = c.check_rows.new.shelf } } in
    rw c.run_answer.ensures
    (goes_streaming g.S.Shelf.seen g.O.Sink.seen Unmoved c.args.stimulus.now c.args.ordered.flat.inputs no_check (flat_trace_until c.args.until c.args.probes c.args.unknown c.args.ordered.flat) no_links c.args.outside.now mid (record { shelf = refl; out = refl }) refl
    _ _ no_parts _ c.write_trace-written.result (record { shelf = refl; out = refl }) c.in_ok-rows.ensures.judges c.in_ok-rows.ensures.starts (λ all counted. tt) (without_links (λ these. Unit {0})) refl refl c.write_trace-written.ensures.streams)
