use Rattle.std.proofs.Common.{◌≡◌, ◌-◌, ◌++◌, ◌∙◌, ℕ, Bool, List, length, Err, refl, ap, subst}
use Rattle.std.proofs.lemmas.Result.{err_from_is_err_and}
use Rattle.vw_net.specs.declared.flat.Flat.{Flat}
use Rattle.vw_net.specs.Cells.{latch_count}
use Rattle.vw_outside.specs.Writes.{appended, WritesOut}
use Rattle.vw_rows.specs.Trace.{head_text, trace_lines_from}
use Rattle.vw_trace.specs.FlatTrace.{trace_until}
use Rattle.vw_trace.specs.Streamed.{shown_by}
use Rattle.vw_trace.specs.Triggers.{shown_count}
use Rattle.vw_trace.proofs.StreamedTexts.{headed, no_head}
use Rattle.vw_trace.proofs.trace.write_trace_by.Goals as goal

abbrev head_of : Bool → ℕ → Flat → List ℕ
head_of until probes flat = head_text (shown_count until (length flat.outputs) - probes) probes (latch_count flat.cells)

pub returns-in_err-write_head : goal.returns-in_err-write_head
returns-in_err-write_head g c =
    let seen = g.E.Engine.seen c.args.engine.now in
    let p = err_from_is_err_and c.from_residual.result c.from_residual.ensures.1 in
    let before = g.O.Sink.seen c.args.out.now in
    let after = g.O.Sink.seen c.write_head.new.out in
    let why = c.in_err-write_head.field-0.0 in
    rw (p.1, p.2)
    (no_head c.args.rows.now (trace_until c.args.until c.args.probes seen.clock seen.state seen.netlist) (λ these. Unit {0} × Unit {0}) (tt, tt) (head_of c.args.until c.args.probes seen.netlist) (λ these. trace_lines_from seen.clock (shown_by c.args.until seen these)) (λ these. refl) before after why
    (subst (λ (flat : Flat). WritesOut (head_of c.args.until c.args.probes flat) before after (Err why)) c.flat.ensures c.in_err-write_head.ensures))

-- the first line was written, and then what the recorder makes
pub returns : goal.returns
returns g c =
    let seen = g.E.Engine.seen c.args.engine.now in
    let before = g.O.Sink.seen c.args.out.now in
    let mid = g.O.Sink.seen c.write_head.new.out in
    let head = head_of c.args.until c.args.probes seen.netlist in
    let wrote : mid ≡ appended before head = c.in_ok-write_head.ensures ∙ ap (λ (flat : Flat). appended before (head_of c.args.until c.args.probes flat)) c.flat.ensures in
    headed head (trace_until c.args.until c.args.probes seen.clock seen.state seen.netlist) before wrote
    (λ these. ap (λ (first : ℕ). head ++ trace_lines_from first (shown_by c.args.until seen these)) (c.make-recorder.ensures.clocks ∙ c.clock.ensures))
    (λ these done. done) c.record_run.ensures
