use Rattle.std.proofs.Common.{◌≡◌, length, refl, ◌∙◌, ap, arith}
use Rattle.vw_course.specs.Course.{Course}
use Rattle.vw_course.specs.Goes.{Goes, Unmoved}
use Rattle.vw_course.proofs.GoesLaws.{goes_for_each}
use Rattle.vw_design.specs.Flattened.{IsFlatOf}
use Rattle.vw_front.specs.Designs.{WatchedDesign, IsNetlistOf}
use Rattle.vw_courses.specs.Messages.{vocabulary}
use Rattle.vw_courses.specs.Kinds.{design_kind}
use Rattle.vw_courses.specs.Commands.{design_replay, netlist_replay_until, replayed_trace_of_until}
use Rattle.vw_courses.proofs.FlatTraces.{probes_counted, probes_fit, with_trigger}
use Rattle.vw_courses.proofs.ReplayTexts.{replay_of_design, replayed_trace_until_same}
use Rattle.vw_top.proofs.WorkedRows.{shown_counted, shown_fit}
use Rattle.vw_top.proofs.replay.replay.Goals as goal

-- the probes are among the outputs
pub replay_netlist-requires : goal.replay_netlist-requires
replay_netlist-requires g c =
    let nets = c.args.probes.nets.now in
    let judged = c.in_ok-ordered.ensures in
    omega (
      arith,
      c.args.probes.few,
      c.count-shown.ensures,
      shown_fit c.args.probes.until nets (length c.in_ok-ordered.ordered.flat.outputs) c.args.probes.some (probes_fit nets judged.1 c.in_ok-ordered.ordered judged.3),
    )

pub returns : goal.returns
returns g c =
    let ordered = c.in_ok-ordered.ordered in
    let until = c.args.probes.until in
    let nets = c.args.probes.nets.now in
    let text = replayed_trace_of_until until in
    let mid = record c.args.outside.now { shelf = record c.args.outside.now.shelf { now = c.read_design.new.shelf } } in
    let counted : with_trigger until c.count-shown.result ≡ length nets =
    ap (with_trigger until) c.count-shown.ensures ∙ shown_counted until nets c.args.probes.some in
    goes_for_each g.S.Shelf.seen g.O.Sink.seen vocabulary Unmoved (design_kind nets) c.args.design.now (IsNetlistOf nets) (design_replay c.args.state.now c.args.stimulus.now text)
    (λ (watched : WatchedDesign). IsFlatOf watched.design watched.nets ordered.flat × (length nets ≡ length watched.nets)) ordered (record { shelf = refl; out = refl }) refl c.in_ok-ordered.ensures
    (λ text is. (is.watched, is.is, (is.flat, probes_counted nets text is.watched is.is)))
    (λ watched is. replay_of_design watched ordered.flat is.0 (λ (course : Course vocabulary). Goes g.S.Shelf.seen g.O.Sink.seen vocabulary course mid c.replay_netlist.new.outside c.replay_netlist.result) c.args.state.now c.args.stimulus.now text
    (netlist_replay_until until c.count-shown.result ordered.flat) (replayed_trace_until_same watched ordered.flat is.0 until c.count-shown.result (counted ∙ is.1)) c.replay_netlist.ensures)
