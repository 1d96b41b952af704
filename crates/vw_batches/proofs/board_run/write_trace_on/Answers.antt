use Rattle.std.proofs.Common.{◌≡◌, ◌-◌, ◌++◌, ◌∙◌, ℕ, Bool, List, [], length, Err, refl, sym, ap, subst, arith}
use Rattle.std.proofs.lemmas.Result.{err_from_is_err_and}
use Rattle.vw_net.specs.declared.flat.Flat.{Flat}
use Rattle.vw_net.specs.Cells.{latch_count}
use Rattle.vw_outside.specs.Writes.{appended, WritesOut}
use Rattle.vw_prog.specs.Scripts.{planned_of}
use Rattle.vw_rows.specs.Trace.{head_text, trace_lines_from}
use Rattle.vw_trace.specs.FlatTrace.{trace_until}
use Rattle.vw_trace.specs.Streamed.{shown_by, worked_by}
use Rattle.vw_trace.specs.Triggers.{shown_count}
use Rattle.vw_trace.proofs.Triggered.{one_batch}
use Rattle.vw_trace.proofs.StreamedTexts.{headed, no_head}
use Rattle.vw_batches.specs.Runs.{engine_of}
use Rattle.vw_batches.specs.Traffic.{HaveCarried}
use Rattle.vw_batches.proofs.JoinedTraffic.{after_no_rows}
use Rattle.vw_batches.proofs.board_run.write_trace_on.Goals as goal

abbrev head_of : Bool → ℕ → Flat → List ℕ
head_of until probes flat = head_text (shown_count until (length flat.outputs) - probes) probes (latch_count flat.cells)

pub returns-in_err-write_head-clause-streams : goal.returns-in_err-write_head-clause-streams
returns-in_err-write_head-clause-streams g c =
    let job = c.args.board.now.job in
    let flat = job.checked.ordered.flat in
    let p = err_from_is_err_and c.from_residual.result c.from_residual.ensures.1 in
    let carried = g.F.Fabric.carried c.args.floor.now.fabric.now in
    let before = g.O.Sink.seen c.args.out.now in
    let after = g.O.Sink.seen c.write_head.new.out in
    let why = c.in_err-write_head.field-0.0 in
    rw (p.1, p.2)
    (no_head c.args.rows.now (trace_until c.args.until c.args.probes job.first job.start flat) (λ these. HaveCarried c.args.floor.now.workers (planned_of job) job.first job.start carried carried (worked_by c.args.until (engine_of job) these) × Unit {0})
    (subst (HaveCarried c.args.floor.now.workers (planned_of job) job.first job.start carried carried) (sym (one_batch flat job.start c.args.until [] (omega arith))) (after_no_rows (planned_of job) job.first job.start c.args.floor.now.workers carried), tt) (head_of c.args.until c.args.probes flat) (λ these. trace_lines_from job.first (shown_by c.args.until (engine_of job) these)) (λ these. refl) before after why
    (subst (λ (one : Flat). WritesOut (head_of c.args.until c.args.probes one) before after (Err why)) c.flat.ensures c.in_err-write_head.ensures))

-- the first line was written, and then what the recorder makes
pub returns-clause-streams : goal.returns-clause-streams
returns-clause-streams g c =
    let job = c.args.board.now.job in
    let flat = job.checked.ordered.flat in
    let before = g.O.Sink.seen c.args.out.now in
    let mid = g.O.Sink.seen c.write_head.new.out in
    let head = head_of c.args.until c.args.probes flat in
    let wrote : mid ≡ appended before head = c.in_ok-write_head.ensures ∙ ap (λ (one : Flat). appended before (head_of c.args.until c.args.probes one)) c.flat.ensures in
    headed head (trace_until c.args.until c.args.probes job.first job.start flat) before wrote
    (λ these. ap (λ (first : ℕ). head ++ trace_lines_from first (shown_by c.args.until (engine_of job) these)) (c.make-recorder.ensures.clocks ∙ c.clock.ensures))
    (λ these done. done) c.go_on.ensures.records
