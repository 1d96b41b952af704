use Rattle.std.proofs.Common.{◌≡◌, ◌≤◌, ◌-◌, ℕ, Bool, List, Err, ap, arith}
use Rattle.std.proofs.lemmas.Result.{err_from_is_err_and}
use Rattle.vw_net.specs.declared.flat.Flat.{Flat}
use Rattle.vw_merge.specs.Same.{DoesTheSame}
use Rattle.vw_rows.specs.declared.fault.StimFault.{StimFault}
use Rattle.vw_trace.specs.FlatTrace.{trace_until}
use Rattle.vw_trace.specs.Streamed.{clocks_left}
use Rattle.vw_trace.proofs.MergedTraces.{same_shown}
use Rattle.vw_trace.proofs.StreamedTexts.{streams_as}
use Rattle.vw_resume.specs.Resumed.{replayed_trace_until}
use Rattle.vw_resume.proofs.PassedRows.{behind_passed, not_passed}
use Rattle.vw_resume.proofs.replaying.replay_trace.Goals as goal

-- a netlist that does the same has the same trace from any state on
same_from : (until : Bool) (probes clock : ℕ) (latches : List Bool) (flat other : Flat) (rows : List (List Bool)) → DoesTheSame flat other → trace_until until probes clock latches other rows ≡ trace_until until probes clock latches flat rows
same_from until probes clock latches flat other rows same = cc (same.outputs, same.latches, same_shown until flat other latches rows same)

pub returns-in_err-pass_over-clause-streams : goal.returns-in_err-pass_over-clause-streams
returns-in_err-pass_over-clause-streams g c =
    let p = err_from_is_err_and c.from_residual.result c.from_residual.ensures.1 in
    let e = c.in_err-pass_over.ensures in
    let out = g.O.Sink.seen c.args.out.now in
    rw (p.1, p.2)
    (not_passed (replayed_trace_until c.args.until c.args.probes c.args.ordered.now.flat c.args.state.clock c.args.state.latches) c.args.rows.now c.args.rows.now c.pass_over.new.rows out out c.in_err-pass_over.field-0.0 e.shelf
    (λ same. e.fault (ap (λ (fault : StimFault). Err fault) same)) (λ differs. e.kept (λ same. differs (let is = same in cc))) e.sure)

pub returns-in-Some-clause-streams : goal.returns-in-Some-clause-streams
returns-in-Some-clause-streams g c =
    let e = c.in_ok-pass_over.ensures in
    let flat = c.args.ordered.now.flat in
    let old = c.args.rows.now.stimulus.now in
    let few : c.args.state.clock ≤ clocks_left old = omega (arith, c.requires.clocks, c.requires.start) in
    behind_passed (trace_until c.args.until c.args.probes c.args.state.clock c.args.state.latches flat) c.args.rows.now c.pass_over.new.rows c.simulate_from.new.rows (g.O.Sink.seen c.args.out.now) (g.O.Sink.seen c.simulate_from.new.out)
    c.args.state.clock c.simulate_from.result few e.shelf (e.kept (λ wrong. let is = wrong in cc)) e.gave
    (streams_as (λ these. same_from c.args.until c.args.probes c.args.state.clock c.args.state.latches flat c.in-Some.merged.flat these c.in-Some.ensures) (λ these done. tt) c.simulate_from.ensures)

pub returns-in-None-clause-streams : goal.returns-in-None-clause-streams
returns-in-None-clause-streams g c =
    let e = c.in_ok-pass_over.ensures in
    let flat = c.args.ordered.now.flat in
    let old = c.args.rows.now.stimulus.now in
    let few : c.args.state.clock ≤ clocks_left old = omega (arith, c.requires.clocks, c.requires.start) in
    behind_passed (trace_until c.args.until c.args.probes c.args.state.clock c.args.state.latches flat) c.args.rows.now c.pass_over.new.rows c.simulate_from-in-None.new.rows (g.O.Sink.seen c.args.out.now) (g.O.Sink.seen c.simulate_from-in-None.new.out)
    c.args.state.clock c.simulate_from-in-None.result few e.shelf (e.kept (λ wrong. let is = wrong in cc)) e.gave c.simulate_from-in-None.ensures
