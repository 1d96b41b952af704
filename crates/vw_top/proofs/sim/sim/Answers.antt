use Rattle.std.proofs.Common.{◌≡◌, length, refl, ◌∙◌, ap, arith}
use Rattle.vw_course.specs.Goes.{Unmoved}
use Rattle.vw_course.proofs.GoesLaws.{goes_for_each}
use Rattle.vw_design.specs.Flattened.{IsFlatOf}
use Rattle.vw_front.specs.Designs.{WatchedDesign, IsNetlistOf}
use Rattle.vw_courses.specs.Messages.{vocabulary}
use Rattle.vw_courses.specs.Kinds.{design_kind}
use Rattle.vw_courses.specs.Commands.{trace_of_until, netlist_trace_until, design_course, no_links}
use Rattle.vw_courses.proofs.FlatTraces.{probes_counted, probes_fit, trace_until_same, with_trigger}
use Rattle.vw_top.proofs.StreamedTraces.{goes_of_design}
use Rattle.vw_top.proofs.WorkedRows.{shown_counted, shown_fit}
use Rattle.vw_top.proofs.sim.sim.Goals as goal

-- the probes are among the outputs
pub sim_netlist-requires : goal.sim_netlist-requires
sim_netlist-requires g c =
    let nets = c.args.probes.nets.now in
    let judged = c.in_ok-ordered.ensures in
    omega (
      arith,
      c.args.probes.few,
      c.count-shown.ensures,
      shown_fit c.args.probes.until nets (length c.in_ok-ordered.ordered.flat.outputs) c.args.probes.some (probes_fit nets judged.1 c.in_ok-ordered.ordered judged.3),
    )

pub returns : goal.returns
returns g c =
    let ordered = c.in_ok-ordered.ordered in
    let until = c.args.probes.until in
    let nets = c.args.probes.nets.now in
    let unknown = c.args.unknown in
    let text = trace_of_until until unknown in
    let counted : with_trigger until c.count-shown.result ≡ length nets =
    ap (with_trigger until) c.count-shown.ensures ∙ shown_counted until nets c.args.probes.some in
    goes_for_each g.S.Shelf.seen g.O.Sink.seen vocabulary Unmoved (design_kind nets) c.args.design.now (IsNetlistOf nets) (design_course c.args.stimulus.now text no_links)
    (λ (watched : WatchedDesign). IsFlatOf watched.design watched.nets ordered.flat × (length nets ≡ length watched.nets)) ordered (record { shelf = refl; out = refl }) refl c.in_ok-ordered.ensures
    (λ text is. (is.watched, is.is, (is.flat, probes_counted nets text is.watched is.is)))
    (λ watched is. goes_of_design g.S.Shelf.seen g.O.Sink.seen c.args.stimulus.now text (netlist_trace_until until c.count-shown.result unknown) no_links watched ordered is.0
    (trace_until_same until unknown c.count-shown.result watched ordered.flat is.0 (counted ∙ is.1)) c.sim_netlist.ensures)
