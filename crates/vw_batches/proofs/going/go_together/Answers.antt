use Rattle.std.proofs.Common.{◌≡◌, ◌<◌, ◌-◌, ◌++◌, ◌∙◌, ℕ, Bool, List, length, Result, Ok, Err, refl, sym, ap, subst, arith}
use Rattle.std.specs.List.{All}
use Rattle.std.proofs.lemmas.Bool.{ltb-false, ltb-true}
use Rattle.std.proofs.lemmas.Result.{err_from_is_err_and}
use Rattle.vw_outside.specs.declared.unwritten.Unwritten.{Unwritten}
use Rattle.vw_rows.specs.declared.fault.StimFault.{StimFault}
use Rattle.vw_prog.specs.Scripts.{planned_of}
use Rattle.vw_trace.specs.Batches.{WroteClocks}
use Rattle.vw_trace.specs.Recorded.{no_more_clocks}
use Rattle.vw_trace.proofs.RecordedBatches.{fits_run}
use Rattle.vw_trace.proofs.Streaming.{HasNext, all_recorded, begins, columns_then, ended, few_then, further, its_latches, no_end, not_worked, unread, unwritten_lines}
use Rattle.vw_batches.specs.Runs.{engine_of}
use Rattle.vw_batches.specs.Traffic.{HaveCarried}
use Rattle.vw_batches.proofs.JoinedTraffic.{after_no_rows, carried_further}
use Rattle.vw_batches.proofs.going.go_together.Given.{Over}
use Rattle.vw_batches.proofs.going.go_together.Goals as goal
use Rattle.vw_batches.proofs.going.go_together.Goals.{In_ok-next, In_ok-batch, After-write_clocks, After-loop-rows}

pub loop-rows-init : goal.loop-rows-init
loop-rows-init g c =
    let job = c.args.board.now.job in
    let carried = g.F.Fabric.carried c.args.floor.now.fabric.now in
    record {
      fabric = refl;
      workers = refl;
      checked = refl;
      underway = begins c.args.until (HaveCarried c.args.floor.now.workers (planned_of job) job.first job.start carried carried) c.args.rows.now (engine_of job) (g.R.Recorder.seen c.args.recorder.now) (g.O.Sink.seen c.args.out.now) c.requires.its
          (after_no_rows (planned_of job) job.first job.start c.args.floor.now.workers carried);
    }

pub returns-in_err-next-clause-records : goal.returns-in_err-next-clause-records
returns-in_err-next-clause-records g c =
    let p = err_from_is_err_and c.from_residual.result c.from_residual.ensures.1 in
    let e = c.in_err-next.ensures in
    rw (p.1, p.2)
    (unread c.loop-rows.invariant.underway c.in_err-next.field-0.0 c.next_batch.new.self (engine_of c.loop-rows.board.job) e.shelf
    (λ same. e.fault (ap (λ (fault : StimFault). Err fault) same)) (λ differs. e.kept (λ same. differs (let is = same in cc))) e.sure)

-- there are rows that weren't given
some_left : (g : Over) (c : In_ok-next g) → c.loop-rows.rows.stimulus.now.done < c.loop-rows.rows.stimulus.now.clocks
some_left g c = ltb-true c.loop-rows.rows.stimulus.now.done c.loop-rows.rows.stimulus.now.clocks (sym c.has_more.ensures ∙ c.loop-rows-test.true)

-- the next rows
next_read : (g : Over) (c : In_ok-next g) → HasNext c.loop-rows.rows c.next_batch.new.self c.in_ok-next.next
next_read g c = record {
  some = some_left g c;
  count = c.in_ok-next.ensures.count;
  same = c.in_ok-next.ensures.shelf;
  kept = c.in_ok-next.ensures.kept (λ wrong. let is = wrong in cc);
  wide = c.in_ok-next.ensures.width;
  are = c.in_ok-next.ensures.rows;
  gave = c.in_ok-next.ensures.gave;
}

pub work_out-requires-clause-columns : goal.work_out-requires-clause-columns
work_out-requires-clause-columns g c κs within =
    subst (λ (n : ℕ). All (λ row. length row ≡ n) c.in_ok-next.next) (columns_then c.loop-rows.invariant.underway c.requires.feeds) c.in_ok-next.ensures.width

pub work_out-requires-clause-few : goal.work_out-requires-clause-few
work_out-requires-clause-few g c κs within = few_then c.loop-rows.invariant.underway c.requires.feeds (length c.in_ok-next.next) c.in_ok-next.ensures.count

-- no clock was worked out
pub returns-in_err-batch-clause-records : goal.returns-in_err-batch-clause-records
returns-in_err-batch-clause-records g c =
    let p = err_from_is_err_and c.from_residual-in_err-batch.result c.from_residual-in_err-batch.ensures.1 in
    let job = c.args.board.now.job in
    let read = next_read g (goal.at.returns-in_err-batch-clause-records g c).In_ok-next in
    let underway = c.loop-rows.invariant.underway in
    rw (p.1, p.2)
    (not_worked underway read (engine_of c.work_out.new.board.job)
    (HaveCarried c.args.floor.now.workers (planned_of job) job.first job.start (g.F.Fabric.carried c.args.floor.now.fabric.now) (g.F.Fabric.carried c.work_out.new.self.fabric.now))
    (c.in_err-batch.ensures.uncarried ∙ underway.meanwhile))

-- the words of the next rows were carried
further_words : (g : Over) (c : In_ok-batch g) → let job = c.args.board.now.job in
    HaveCarried c.args.floor.now.workers (planned_of job) job.first job.start (g.F.Fabric.carried c.args.floor.now.fabric.now) (g.F.Fabric.carried c.work_out.new.self.fabric.now)
    (c.loop-rows.invariant.underway.given ++ c.in_ok-next.next)
further_words g c =
    let kept = c.loop-rows.invariant in
    carried_further c.args.floor.now.workers c.loop-rows.floor.workers kept.workers c.args.board.now.job c.loop-rows.board.job kept.checked kept.underway.given c.in_ok-next.next kept.underway.stands
    (g.F.Fabric.carried c.args.floor.now.fabric.now) (g.F.Fabric.carried c.loop-rows.floor.fabric.now) (g.F.Fabric.carried c.work_out.new.self.fabric.now) kept.underway.meanwhile c.in_ok-batch.ensures.carried

pub write_clocks-requires : goal.write_clocks-requires
write_clocks-requires g c =
    let underway = c.loop-rows.invariant.underway in
    fits_run c.args.until c.state-behind.result.now c.in_ok-batch.ensures.worked underway.its (few_then underway c.requires.feeds (length c.in_ok-next.next) c.in_ok-next.ensures.count) c.state-behind.ensures.value

-- what was written down of a batch
abbrev WroteNow : (g : Over) (c : After-write_clocks g) → Result Bool Unwritten → List Bool → Type 0
WroteNow g c answer state =
    WroteClocks c.args.until (g.R.Recorder.seen c.loop-rows.recorder) (g.R.Recorder.seen c.write_clocks.new.recorder) c.in_ok-batch.batch state (g.O.Sink.seen c.loop-rows.out) (g.O.Sink.seen c.write_clocks.new.out) answer

wrote : (g : Over) (c : After-write_clocks g) (answer : Result Bool Unwritten) → WroteNow g c answer c.state-behind.result.now → WroteNow g c answer (engine_of c.work_out.new.board.job).state
wrote g c answer its = subst (WroteNow g c answer) c.state-behind.ensures.value its

-- the words that links have carried so far
abbrev CarriedNow : (g : Over) (c : In_ok-batch g) → List (List Bool) → Type 0
CarriedNow g c =
    let job = c.args.board.now.job in
    HaveCarried c.args.floor.now.workers (planned_of job) job.first job.start (g.F.Fabric.carried c.args.floor.now.fabric.now) (g.F.Fabric.carried c.work_out.new.self.fabric.now)

pub returns-in_err-ends-clause-records : goal.returns-in_err-ends-clause-records
returns-in_err-ends-clause-records g c =
    let p = err_from_is_err_and c.from_residual-in_err-ends.result c.from_residual-in_err-ends.ensures.1 in
    let at = goal.at.returns-in_err-ends-clause-records g c in
    rw (p.1, p.2)
    (unwritten_lines c.loop-rows.invariant.underway (next_read g at.In_ok-next) (c.histories_join.ensures c.args.board.now.job.checked.ordered.flat) c.in_ok-batch.ensures.worked c.in_err-ends.field-0.0
    (g.R.Recorder.seen c.write_clocks.new.recorder) (g.O.Sink.seen c.write_clocks.new.out) (CarriedNow g at.In_ok-batch)
    (wrote g at.After-write_clocks (Err c.in_err-ends.field-0.0) c.in_err-ends.ensures) (further_words g at.In_ok-batch))

-- the text ends in this batch
pub returns-then-ends-clause-records : goal.returns-then-ends-clause-records
returns-then-ends-clause-records g c =
    let at = goal.at.returns-then-ends-clause-records g c in
    ended c.loop-rows.invariant.underway (next_read g at.In_ok-next) (c.histories_join.ensures c.args.board.now.job.checked.ordered.flat) c.in_ok-batch.ensures.worked
    (g.R.Recorder.seen c.write_clocks.new.recorder) (g.O.Sink.seen c.write_clocks.new.out) (CarriedNow g at.In_ok-batch) c.in_ok-ends.ends c.if-ends.true
    (wrote g at.After-write_clocks (Ok c.in_ok-ends.ends) c.in_ok-ends.ensures) (further_words g at.In_ok-batch)

pub loop-rows-smaller : goal.loop-rows-smaller
loop-rows-smaller g c =
    let gave = c.in_ok-next.ensures.gave in
    omega (arith, gave.clocks, gave.done, c.in_ok-next.ensures.count, ltb-true c.loop-rows.rows.stimulus.now.done c.loop-rows.rows.stimulus.now.clocks (sym c.has_more.ensures ∙ c.loop-rows-test.true))

pub loop-rows-preserved : goal.loop-rows-preserved
loop-rows-preserved g c =
    let at = goal.at.loop-rows-preserved g c in
    let kept = c.loop-rows.invariant in
    record {
      fabric = c.work_out.ensures.fabric ∙ kept.fabric;
      workers = c.work_out.ensures.workers ∙ kept.workers;
      checked = c.work_out.ensures.checked ∙ kept.checked;
      underway = further kept.underway (next_read g at.In_ok-next) (c.histories_join.ensures c.args.board.now.job.checked.ordered.flat) c.in_ok-batch.ensures.worked
          (g.R.Recorder.seen c.write_clocks.new.recorder) (g.O.Sink.seen c.write_clocks.new.out) (CarriedNow g at.In_ok-batch) c.in_ok-ends.ends c.if-ends.false
          (wrote g at.After-write_clocks (Ok c.in_ok-ends.ends) c.in_ok-ends.ensures) (further_words g at.In_ok-batch);
    }

-- no row is left
none_left : (g : Over) (c : After-loop-rows g) → c.loop-rows.rows.stimulus.now.clocks - c.loop-rows.rows.stimulus.now.done ≡ 0
none_left g c = omega (arith, ltb-false c.loop-rows.rows.stimulus.now.done c.loop-rows.rows.stimulus.now.clocks (sym c.has_more.ensures ∙ c.loop-rows-test.false))

pub end-rest-requires : goal.end-rest-requires
end-rest-requires g c = its_latches c.loop-rows.invariant.underway c.state-last.result.now c.state-last.ensures.value c.state-last.ensures.latches

pub returns-in_err-put_text-clause-records : goal.returns-in_err-put_text-clause-records
returns-in_err-put_text-clause-records g c =
    let p = err_from_is_err_and c.from_residual-in_err-put_text.result c.from_residual-in_err-put_text.ensures.1 in
    let last = (g.R.Recorder.seen c.loop-rows.recorder).left (no_more_clocks c.state-last.result.now) in
    rw (p.1, p.2)
    (no_end c.loop-rows.invariant.underway (none_left g (goal.at.returns-in_err-put_text-clause-records g c).After-loop-rows) c.state-last.result.now c.state-last.ensures.value (g.O.Sink.seen c.put_text.new.out)
    c.in_err-put_text.field-0.0 (c.in_err-put_text.ensures last c.end-rest.ensures))

pub returns-clause-records : goal.returns-clause-records
returns-clause-records g c =
    let last = (g.R.Recorder.seen c.loop-rows.recorder).left (no_more_clocks c.state-last.result.now) in
    all_recorded c.loop-rows.invariant.underway (none_left g (goal.at.returns-clause-records g c).After-loop-rows) c.state-last.result.now c.state-last.ensures.value (g.O.Sink.seen c.put_text.new.out) (c.in_ok-put_text.ensures last c.end-rest.ensures)
