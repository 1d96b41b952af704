use Rattle.std.proofs.Common.{◌≡◌, ◌+◌, ◌≤◌, ◌<◌, ℕ, List, Bool, length, Err, refl, sym, ◌∙◌, ap, subst}
use Rattle.std.proofs.lemmas.Result.{err_from_is_err_and}
use Rattle.vw_course.specs.declared.unfinished.Unfinished.{Unfinished}
use Rattle.vw_course.specs.Goes.{GoesOver, MovedFrom}
use Rattle.vw_plan.specs.PlannedBoard.{planned_board}
use Rattle.vw_trace.specs.FlatTrace.{trace_until}
use Rattle.vw_resume.specs.declared.fault.StateFault.TheVariants.{TooManyClocks}
use Rattle.vw_rows.specs.declared.limits.TheConstants.{MOST_CLOCKS}
use Rattle.vw_courses.specs.declared.vocabulary.File.{File}
use Rattle.vw_courses.specs.declared.vocabulary.Reason.{Reason}
use Rattle.vw_courses.specs.declared.vocabulary.Reason.TheVariants as reasons
use Rattle.vw_courses.specs.Messages.{vocabulary}
use Rattle.vw_courses.specs.Kinds.{clocks_fit}
use Rattle.vw_courses.specs.Commands.{Scripts, RowCheck, check_by, scripts_from, state_course}
use Rattle.vw_top.proofs.StreamedTraces.{goes_unchecked, goes_failing, goes_streaming, over_links}
use Rattle.vw_top.proofs.LinkTraffic.{parts_from}
use Rattle.vw_top.proofs.resume.resume_state.Goals as goal

pub returns-in_err-rows-clause-goes : goal.returns-in_err-rows-clause-goes
returns-in_err-rows-clause-goes g c =
    let p = err_from_is_err_and c.from_residual.result c.from_residual.ensures.1 in
    let checked = c.args.checked in
    let planned = planned_board checked.ordered checked.board checked.plan in
    let flat = planned.ordered.flat in
    let state = c.args.state in
    let links = g.F.Fabric.carried c.args.floor.now.fabric.now in
    rw (p.1, p.2)
    (goes_unchecked g.S.Shelf.seen g.O.Sink.seen (MovedFrom links links) c.args.stimulus.now flat.inputs (check_by (clocks_fit state.clock)) (trace_until c.args.until c.args.probes state.clock state.latches flat) (scripts_from c.args.until c.args.floor.now.workers planned state.clock state.latches)
    c.args.outside.now _ (record { shelf = refl; out = refl }) refl (λ before after moved. moved.1 ∙ sym moved.0) c.in_err-rows.field-0.0 c.in_err-rows.ensures.judges)

-- there are too many clocks
pub returns-in_err-clocks_fit-clause-goes : goal.returns-in_err-clocks_fit-clause-goes
returns-in_err-clocks_fit-clause-goes g c =
    let p = err_from_is_err_and c.from_residual-in_err-clocks_fit.result c.from_residual-in_err-clocks_fit.ensures.1 in
    let checked = c.args.checked in
    let planned = planned_board checked.ordered checked.board checked.plan in
    let flat = planned.ordered.flat in
    let state = c.args.state in
    let links = g.F.Fabric.carried c.args.floor.now.fabric.now in
    let mid = record c.args.outside.now { shelf = record c.args.outside.now.shelf { now = c.check_rows.new.shelf } } in
    let e = c.in_err-clocks_fit.ensures in
    let reason : ℕ → Reason = λ clocks. reasons.State (TooManyClocks (state.clock + clocks)) in
    rw (p.1, p.2)
    (subst (λ (unfinished : Unfinished File Reason). GoesOver g.S.Shelf.seen g.O.Sink.seen vocabulary (MovedFrom links links) (state_course c.args.until c.args.probes c.args.stimulus.now c.args.floor.now.workers planned state) c.args.outside.now mid (Err unfinished)) (sym e.0)
    (goes_failing g.S.Shelf.seen g.O.Sink.seen (MovedFrom links links) c.args.stimulus.now flat.inputs (check_by (clocks_fit state.clock)) (trace_until c.args.until c.args.probes state.clock state.latches flat) (scripts_from c.args.until c.args.floor.now.workers planned state.clock state.latches)
    c.args.outside.now mid (record { shelf = refl; out = refl }) refl (λ before after moved. moved.1 ∙ sym moved.0) c.in_ok-rows.rows (reason c.clocks.result) c.in_ok-rows.ensures.judges c.in_ok-rows.ensures.starts
    (λ all counted.
    let same : c.clocks.result ≡ length all = c.clocks.ensures ∙ sym counted in
    (ap reason same, subst (λ (clocks : ℕ). MOST_CLOCKS < state.clock + clocks) same e.1))))

pub returns-clause-goes : goal.returns-clause-goes
returns-clause-goes g c =
    let checked = c.args.checked in
    let planned = planned_board checked.ordered checked.board checked.plan in
    let flat = planned.ordered.flat in
    let state = c.args.state in
    let workers = c.args.floor.now.workers in
    let check : RowCheck = check_by (clocks_fit state.clock) in
    let text : List (List Bool) → List ℕ = trace_until c.args.until c.args.probes state.clock state.latches flat in
    let scripts : ℕ → Scripts = λ count. scripts_from c.args.until count planned state.clock state.latches in
    let mid = record c.args.outside.now { shelf = record c.args.outside.now.shelf { now = c.check_rows.new.shelf } } in
    let first = g.F.Fabric.carried c.args.floor.now.fabric.now in
    let last = g.F.Fabric.carried c.run_watched_from-ran.new.floor.fabric.now in
    let Moved = MovedFrom first last in
    let fit = c.in_ok-clocks_fit.ensures in
    rw c.run_answer.ensures
    (goes_streaming g.S.Shelf.seen g.O.Sink.seen Moved c.args.stimulus.now flat.inputs check text (scripts workers) c.args.outside.now mid (record { shelf = refl; out = refl }) refl
    _ _ (parts_from planned state.clock state.latches c.args.until workers) _ c.run_watched_from-ran.result (record { shelf = refl; out = refl }) c.in_ok-rows.ensures.judges c.in_ok-rows.ensures.starts
    (λ all counted. subst (λ (clocks : ℕ). state.clock + clocks ≤ MOST_CLOCKS) (c.clocks.ensures ∙ sym counted) fit)
    (over_links (scripts workers)) refl refl c.run_watched_from-ran.ensures.streams)
