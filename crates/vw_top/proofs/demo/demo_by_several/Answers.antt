use Rattle.std.proofs.Common.{ap, refl, Some}
use Rattle.vw_outside.specs.Memory.{seen_sink}
use Rattle.vw_course.specs.Goes.{MovedFrom}
use Rattle.vw_top.proofs.DemoRuns.{demo_followed}
use Rattle.vw_top.proofs.demo.demo_by_several.Goals as goal

pub returns-clause-goes : goal.returns-clause-goes
returns-clause-goes g c = record {
  same = record { shelf = refl; out = refl };
  leads = demo_followed (MovedFrom (g.F.Fabric.carried c.args.floor.now.fabric.now) (g.F.Fabric.carried c.run_texts_by_several-ran.new.floor.fabric.now)) c.args.size.cells c.args.floor.now.workers c.in_ok-shelf.shelf.files.items c.run_texts_by_several-ran.new.shelf.files.items c.in_ok-shelf.ensures c.no_read_fault_over_a_sure_shelf.ensures
      (seen_sink c.in_ok-trace.trace) (seen_sink c.run_texts_by_several-ran.new.trace) (ap Some c.in_ok-trace.ensures) c.run_texts_by_several-ran.new.trace.written.items refl c.run_texts_by_several-ran.result c.write_summary.result
      c.run_texts_by_several-ran.ensures.goes (g.S.Shelf.seen c.args.outside.now.shelf.now) (g.O.Sink.seen c.args.outside.now.out.now) (g.O.Sink.seen c.write_summary.new.out) c.write_summary.ensures;
}
