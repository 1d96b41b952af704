use Rattle.std.proofs.Common.{ap, refl, subst, Some}
use Rattle.vw_outside.specs.Memory.{seen_sink}
use Rattle.vw_outside.specs.Sure.{seen_sure}
use Rattle.vw_course.specs.Course.{Course}
use Rattle.vw_course.specs.Goes.{IsFollowed, Unmoved}
use Rattle.vw_courses.specs.Messages.{vocabulary}
use Rattle.vw_top.proofs.DemoRuns.{demo_followed, one_worker}
use Rattle.vw_top.proofs.demo.demo_by_one.Goals as goal

pub returns : goal.returns
returns g c = λ workers few. record {
  same = record { shelf = refl; out = refl };
  leads = demo_followed Unmoved c.args.size.cells workers c.in_ok-shelf.shelf.files.items c.run_texts_by_one-ran.new.shelf.files.items c.in_ok-shelf.ensures c.no_read_fault_over_a_sure_shelf.ensures
      (seen_sink c.in_ok-trace.trace) (seen_sink c.run_texts_by_one-ran.new.trace) (ap Some c.in_ok-trace.ensures) c.run_texts_by_one-ran.new.trace.written.items refl c.run_texts_by_one-ran.result c.write_summary.result
      (subst (λ (run : Course vocabulary). IsFollowed vocabulary Unmoved run (seen_sure c.in_ok-shelf.shelf.files.items) (seen_sink c.in_ok-trace.trace) (seen_sure c.run_texts_by_one-ran.new.shelf.files.items) (seen_sink c.run_texts_by_one-ran.new.trace) c.run_texts_by_one-ran.result) (one_worker workers few) c.run_texts_by_one-ran.ensures) (g.S.Shelf.seen c.args.outside.now.shelf.now) (g.O.Sink.seen c.args.outside.now.out.now) (g.O.Sink.seen c.write_summary.new.out) c.write_summary.ensures;
}
