use Rattle.std.proofs.Common.{◌≡◌, ◌≤◌, ◌<◌, ◌∙◌, ℕ, Bool, List, length, Err, refl, sym, ap, subst}
use Rattle.std.proofs.lemmas.Result.{err_from_is_err_and}
use Rattle.vw_course.specs.declared.unfinished.Unfinished.{Unfinished}
use Rattle.vw_course.specs.Goes.{Goes, Unmoved}
use Rattle.vw_course.proofs.GoesLaws.{unmoved_still}
use Rattle.vw_resume.specs.declared.fault.StateFault.TheVariants.{TooFewClocks}
use Rattle.vw_courses.specs.declared.vocabulary.File.{File}
use Rattle.vw_courses.specs.declared.vocabulary.Reason.{Reason}
use Rattle.vw_courses.specs.declared.vocabulary.Reason.TheVariants as reasons
use Rattle.vw_courses.specs.Messages.{vocabulary}
use Rattle.vw_courses.specs.Kinds.{clocks_reach}
use Rattle.vw_courses.specs.Commands.{RowCheck, check_by, netlist_replayed_wave_until, no_links, reached_course}
use Rattle.vw_top.proofs.StreamedTraces.{goes_unchecked, goes_failing, goes_streaming, no_parts, without_links}
use Rattle.vw_top.proofs.replay_wave.wave_rows.Goals as goal

pub returns-in_err-rows : goal.returns-in_err-rows
returns-in_err-rows g c =
    let p = err_from_is_err_and c.from_residual.result c.from_residual.ensures.1 in
    let flat = c.args.ordered.now.flat in
    let state = c.args.state in
    rw (p.1, p.2)
    (goes_unchecked g.S.Shelf.seen g.O.Sink.seen Unmoved c.args.stimulus.now flat.inputs (check_by (clocks_reach state.clock)) (netlist_replayed_wave_until c.args.until c.args.names.now flat state) no_links
    c.args.outside.now _ (record { shelf = refl; out = refl }) refl (unmoved_still vocabulary) c.in_err-rows.field-0.0 c.in_err-rows.ensures.judges)

-- the stimulus doesn't reach the state's clock
pub returns-in_err-clocks_reach : goal.returns-in_err-clocks_reach
returns-in_err-clocks_reach g c =
    let p = err_from_is_err_and c.from_residual-in_err-clocks_reach.result c.from_residual-in_err-clocks_reach.ensures.1 in
    let flat = c.args.ordered.now.flat in
    let state = c.args.state in
    let mid = record c.args.outside.now { shelf = record c.args.outside.now.shelf { now = c.check_rows.new.shelf } } in
    let e = c.in_err-clocks_reach.ensures in
    let reason : ℕ → Reason = λ clocks. reasons.State (TooFewClocks clocks state.clock) in
    rw (p.1, p.2)
    (subst (λ (unfinished : Unfinished File Reason). Goes g.S.Shelf.seen g.O.Sink.seen vocabulary (reached_course c.args.stimulus.now flat.inputs (netlist_replayed_wave_until c.args.until c.args.names.now flat) state) c.args.outside.now mid (Err unfinished)) (sym e.0)
    (goes_failing g.S.Shelf.seen g.O.Sink.seen Unmoved c.args.stimulus.now flat.inputs (check_by (clocks_reach state.clock)) (netlist_replayed_wave_until c.args.until c.args.names.now flat state) no_links
    c.args.outside.now mid (record { shelf = refl; out = refl }) refl (unmoved_still vocabulary) c.in_ok-rows.rows (reason c.clocks.result) c.in_ok-rows.ensures.judges c.in_ok-rows.ensures.starts
    (λ all counted.
    let same : c.clocks.result ≡ length all = c.clocks.ensures ∙ sym counted in
    (ap reason same, subst (λ (clocks : ℕ). clocks < state.clock) same e.1))))

pub returns : goal.returns
returns g c =
    let flat = c.args.ordered.now.flat in
    let state = c.args.state in
    let check : RowCheck = check_by (clocks_reach state.clock) in
    let text : List (List Bool) → List ℕ = netlist_replayed_wave_until c.args.until c.args.names.now flat state in
    let mid = record c.args.outside.now { shelf = record c.args.outside.now.shelf { now = c.check_rows.new.shelf } } in
    rw c.run_answer.ensures
    (goes_streaming g.S.Shelf.seen g.O.Sink.seen Unmoved c.args.stimulus.now flat.inputs check text no_links c.args.outside.now mid (record { shelf = refl; out = refl }) refl
    _ _ no_parts _ c.replay_wave.result (record { shelf = refl; out = refl }) c.in_ok-rows.ensures.judges c.in_ok-rows.ensures.starts
    (λ all counted. subst (λ (clocks : ℕ). state.clock ≤ clocks) (c.clocks.ensures ∙ sym counted) c.in_ok-clocks_reach.ensures)
    (without_links (λ these. Unit {0})) refl refl c.replay_wave.ensures.streams)
