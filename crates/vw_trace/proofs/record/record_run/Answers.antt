use Rattle.std.proofs.Common.{◌≡◌, ◌<◌, ◌-◌, ◌∙◌, ℕ, Bool, List, length, Ok, Err, sym, ap, subst, arith}
use Rattle.std.specs.List.{All}
use Rattle.std.proofs.lemmas.Bool.{ltb-false, ltb-true}
use Rattle.std.proofs.lemmas.Result.{err_from_is_err_and}
use Rattle.vw_rows.specs.declared.fault.StimFault.{StimFault}
use Rattle.vw_trace.specs.Batches.{WroteClocks}
use Rattle.vw_trace.specs.Recorded.{no_more_clocks}
use Rattle.vw_trace.proofs.RecordedBatches.{fits_run}
use Rattle.vw_trace.proofs.Streaming.{HasNext, all_recorded, begins, columns_then, ended, few_then, further, its_latches, no_end, not_worked, unread, unwritten_lines}
use Rattle.vw_trace.proofs.record.record_run.Given.{Over}
use Rattle.vw_trace.proofs.record.record_run.Goals as goal
use Rattle.vw_trace.proofs.record.record_run.Goals.{In_ok-next, In_ok-ends, After-loop-rows}

pub loop-rows-init : goal.loop-rows-init
loop-rows-init g c = begins c.args.until (λ these. Unit {0}) c.args.rows.now (g.E.Engine.seen c.args.engine.now) (g.R.Recorder.seen c.args.recorder.now) (g.O.Sink.seen c.args.out.now) c.requires.its tt

pub returns-in_err-next : goal.returns-in_err-next
returns-in_err-next g c =
    let p = err_from_is_err_and c.from_residual.result c.from_residual.ensures.1 in
    let e = c.in_err-next.ensures in
    rw (p.1, p.2)
    (unread c.loop-rows.invariant c.in_err-next.field-0.0 c.next_batch.new.self (g.E.Engine.seen c.loop-rows.engine) e.shelf
    (λ same. e.fault (ap (λ (fault : StimFault). Err fault) same)) (λ differs. e.kept (λ same. differs (let is = same in cc))) e.sure)

-- there are rows that weren't given
some_left : (g : Over) (c : In_ok-next g) → c.loop-rows.rows.stimulus.now.done < c.loop-rows.rows.stimulus.now.clocks
some_left g c = ltb-true c.loop-rows.rows.stimulus.now.done c.loop-rows.rows.stimulus.now.clocks (sym c.has_more.ensures ∙ c.loop-rows-test.true)

-- the next rows
next_read : (g : Over) (c : In_ok-next g) → HasNext c.loop-rows.rows c.next_batch.new.self c.in_ok-next.next
next_read g c = record {
  some = some_left g c;
  count = c.in_ok-next.ensures.count;
  same = c.in_ok-next.ensures.shelf;
  kept = c.in_ok-next.ensures.kept (λ wrong. let is = wrong in cc);
  wide = c.in_ok-next.ensures.width;
  are = c.in_ok-next.ensures.rows;
  gave = c.in_ok-next.ensures.gave;
}

pub work_out-requires-clause-columns : goal.work_out-requires-clause-columns
work_out-requires-clause-columns g c =
    subst (λ (n : ℕ). All (λ row. length row ≡ n) c.in_ok-next.next) (columns_then c.loop-rows.invariant c.requires.feeds) c.in_ok-next.ensures.width

pub work_out-requires-clause-few : goal.work_out-requires-clause-few
work_out-requires-clause-few g c = few_then c.loop-rows.invariant c.requires.feeds (length c.in_ok-next.next) c.in_ok-next.ensures.count

pub returns-in_err-batch : goal.returns-in_err-batch
returns-in_err-batch g c =
    let p = err_from_is_err_and c.from_residual-in_err-batch.result c.from_residual-in_err-batch.ensures.1 in
    let read = next_read g (goal.at.returns-in_err-batch g c).In_ok-next in
    rw (p.1, p.2) (not_worked c.loop-rows.invariant read (g.E.Engine.seen c.work_out.new.self) (λ these. Unit {0}) tt)

pub write_clocks-requires : goal.write_clocks-requires
write_clocks-requires g c =
    fits_run c.args.until c.state-behind.result.now c.in_ok-batch.ensures.worked c.loop-rows.invariant.its (few_then c.loop-rows.invariant c.requires.feeds (length c.in_ok-next.next) c.in_ok-next.ensures.count) c.state-behind.ensures.value

pub returns-in_err-ends : goal.returns-in_err-ends
returns-in_err-ends g c =
    let p = err_from_is_err_and c.from_residual-in_err-ends.result c.from_residual-in_err-ends.ensures.1 in
    let read = next_read g (goal.at.returns-in_err-ends g c).In_ok-next in
    let sink_after = g.O.Sink.seen c.write_clocks.new.out in
    let recorder_after = g.R.Recorder.seen c.write_clocks.new.recorder in
    rw (p.1, p.2)
    (unwritten_lines c.loop-rows.invariant read (c.histories_join.ensures (g.E.Engine.seen c.args.engine.now).netlist) c.in_ok-batch.ensures.worked c.in_err-ends.field-0.0
    recorder_after sink_after (λ these. Unit {0})
    (subst (λ (state : List Bool). WroteClocks c.args.until (g.R.Recorder.seen c.loop-rows.recorder) recorder_after c.in_ok-batch.batch state (g.O.Sink.seen c.loop-rows.out) sink_after (Err c.in_err-ends.field-0.0)) c.state-behind.ensures.value c.in_err-ends.ensures) tt)

-- what was written down of a batch
wrote : (g : Over) (c : In_ok-ends g) → WroteClocks c.args.until (g.R.Recorder.seen c.loop-rows.recorder) (g.R.Recorder.seen c.write_clocks.new.recorder) c.in_ok-batch.batch (g.E.Engine.seen c.work_out.new.self).state
    (g.O.Sink.seen c.loop-rows.out) (g.O.Sink.seen c.write_clocks.new.out) (Ok c.in_ok-ends.ends)
wrote g c =
    subst (λ (state : List Bool). WroteClocks c.args.until (g.R.Recorder.seen c.loop-rows.recorder) (g.R.Recorder.seen c.write_clocks.new.recorder) c.in_ok-batch.batch state
    (g.O.Sink.seen c.loop-rows.out) (g.O.Sink.seen c.write_clocks.new.out) (Ok c.in_ok-ends.ends)) c.state-behind.ensures.value c.in_ok-ends.ensures

pub returns-then-ends : goal.returns-then-ends
returns-then-ends g c =
    let at = goal.at.returns-then-ends g c in
    ended c.loop-rows.invariant (next_read g at.In_ok-next) (c.histories_join.ensures (g.E.Engine.seen c.args.engine.now).netlist) c.in_ok-batch.ensures.worked
    (g.R.Recorder.seen c.write_clocks.new.recorder) (g.O.Sink.seen c.write_clocks.new.out) (λ these. Unit {0}) c.in_ok-ends.ends c.if-ends.true (wrote g at.In_ok-ends) tt

pub loop-rows-smaller : goal.loop-rows-smaller
loop-rows-smaller g c =
    let gave = c.in_ok-next.ensures.gave in
    omega (arith, gave.clocks, gave.done, c.in_ok-next.ensures.count, ltb-true c.loop-rows.rows.stimulus.now.done c.loop-rows.rows.stimulus.now.clocks (sym c.has_more.ensures ∙ c.loop-rows-test.true))

pub loop-rows-preserved : goal.loop-rows-preserved
loop-rows-preserved g c =
    let at = goal.at.loop-rows-preserved g c in
    further c.loop-rows.invariant (next_read g at.In_ok-next) (c.histories_join.ensures (g.E.Engine.seen c.args.engine.now).netlist) c.in_ok-batch.ensures.worked
    (g.R.Recorder.seen c.write_clocks.new.recorder) (g.O.Sink.seen c.write_clocks.new.out) (λ these. Unit {0}) c.in_ok-ends.ends c.if-ends.false (wrote g at.In_ok-ends) tt

-- no row is left
none_left : (g : Over) (c : After-loop-rows g) → c.loop-rows.rows.stimulus.now.clocks - c.loop-rows.rows.stimulus.now.done ≡ 0
none_left g c = omega (arith, ltb-false c.loop-rows.rows.stimulus.now.done c.loop-rows.rows.stimulus.now.clocks (sym c.has_more.ensures ∙ c.loop-rows-test.false))

pub end-rest-requires : goal.end-rest-requires
end-rest-requires g c = its_latches c.loop-rows.invariant c.state-last.result.now c.state-last.ensures.value c.state-last.ensures.latches

pub returns-in_err-put_text : goal.returns-in_err-put_text
returns-in_err-put_text g c =
    let p = err_from_is_err_and c.from_residual-in_err-put_text.result c.from_residual-in_err-put_text.ensures.1 in
    let last = (g.R.Recorder.seen c.loop-rows.recorder).left (no_more_clocks c.state-last.result.now) in
    rw (p.1, p.2)
    (no_end c.loop-rows.invariant (none_left g (goal.at.returns-in_err-put_text g c).After-loop-rows) c.state-last.result.now c.state-last.ensures.value (g.O.Sink.seen c.put_text.new.out)
    c.in_err-put_text.field-0.0 (c.in_err-put_text.ensures last c.end-rest.ensures))

pub returns : goal.returns
returns g c =
    let last = (g.R.Recorder.seen c.loop-rows.recorder).left (no_more_clocks c.state-last.result.now) in
    all_recorded c.loop-rows.invariant (none_left g (goal.at.returns g c).After-loop-rows) c.state-last.result.now c.state-last.ensures.value (g.O.Sink.seen c.put_text.new.out) (c.in_ok-put_text.ensures last c.end-rest.ensures)
