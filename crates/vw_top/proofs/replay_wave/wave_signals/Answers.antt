use Rattle.std.proofs.Common.{◌+◌, List, length, refl, ◌∙◌, subst, ap}
use Rattle.std.proofs.lemmas.Result.{err_from_is_err_and}
use Rattle.vw_course.specs.Course.{Course}
use Rattle.vw_course.specs.Goes.{Goes, Unmoved}
use Rattle.vw_course.proofs.GoesLaws.{goes_not_on, unmoved_still}
use Rattle.vw_design.specs.Clocks.{columns}
use Rattle.vw_design.specs.Paths.{Word}
use Rattle.vw_design.specs.Preorder.{latches}
use Rattle.vw_net.specs.declared.ordered.Ordered.{Ordered}
use Rattle.vw_net.specs.Cells.{latch_count}
use Rattle.vw_front.specs.NamedNetlists.{without_names}
use Rattle.vw_front.specs.Names.{signal_names}
use Rattle.vw_courses.specs.Messages.{vocabulary}
use Rattle.vw_courses.specs.Kinds.{state_kind}
use Rattle.vw_courses.specs.Commands.{netlist_replayed_wave_until, reached_course, replay_rest, replayed_wave_of_until}
use Rattle.vw_courses.proofs.FlatTraces.{probes_fit}
use Rattle.vw_courses.proofs.ReplayTexts.{replay_of_design, replayed_wave_until_same}
use Rattle.vw_files.specs.Watched.{shown_words}
use Rattle.vw_top.proofs.WorkedRows.{signals_fit}
use Rattle.vw_top.proofs.replay_wave.wave_signals.Goals as goal

-- there is a name for each signal but the trigger
pub wave_netlist-requires : goal.wave_netlist-requires
wave_netlist-requires g c =
    let until = c.args.probes.until in
    let nets = c.args.probes.nets.now in
    let flat = c.args.named.now.ordered.flat in
    rw c.ordered.ensures
    (signals_fit until nets (length flat.outputs) (latch_count flat.cells) (length c.deref.result.now) c.args.probes.some (probes_fit nets c.requires.0 c.args.named.now.ordered (without_names nets c.requires.0 c.args.named.now c.requires.1))
    (ap (λ (words : List Word). length words + length nets) c.deref.ensures.value ∙ c.in_ok-names.ensures.count nets c.requires.0 c.requires.1
    ∙ ap (λ (words : List Word). length flat.outputs + length words + latch_count flat.cells) c.shown.ensures))

-- without memory for the names nothing more is read
pub returns-in_err-names : goal.returns-in_err-names
returns-in_err-names g c = λ text is.
    let p = err_from_is_err_and c.from_residual.result c.from_residual.ensures.1 in
    let shown = shown_words c.args.probes.until c.args.probes.nets.now in
    rw (p.1, p.2)
    (goes_not_on g.S.Shelf.seen g.O.Sink.seen vocabulary Unmoved (state_kind (length (latches is.watched.design))) c.args.state.now (reached_course c.args.stimulus.now (length (columns is.watched.design)) (λ from. replayed_wave_of_until c.args.probes.until shown from is.watched))
    (unmoved_still vocabulary) _ (record { shelf = refl; out = refl }) refl refl)

pub returns : goal.returns
returns g c = λ text is.
    let until = c.args.probes.until in
    let shown = shown_words until c.args.probes.nets.now in
    let flat = c.args.named.now.ordered.flat in
    replay_of_design is.watched flat is.flat (λ (course : Course vocabulary). Goes g.S.Shelf.seen g.O.Sink.seen vocabulary course c.args.outside.now c.wave_netlist.new.outside c.wave_netlist.result) c.args.state.now c.args.stimulus.now (replayed_wave_of_until until shown)
    (netlist_replayed_wave_until until (signal_names shown is.watched.design) flat) (replayed_wave_until_same is.watched flat is.flat until shown)
    (subst (λ (names : List Word). Goes g.S.Shelf.seen g.O.Sink.seen vocabulary (replay_rest (latch_count flat.cells) flat.inputs c.args.state.now c.args.stimulus.now (netlist_replayed_wave_until until names flat)) c.args.outside.now c.wave_netlist.new.outside c.wave_netlist.result)
    (c.deref.ensures.value ∙ c.in_ok-names.ensures.names c.args.probes.nets.now text is ∙ ap (λ (words : List Word). signal_names words is.watched.design) c.shown.ensures)
    (subst (λ (netlist : Ordered). Goes g.S.Shelf.seen g.O.Sink.seen vocabulary (replay_rest (latch_count netlist.flat.cells) netlist.flat.inputs c.args.state.now c.args.stimulus.now (netlist_replayed_wave_until until c.deref.result.now netlist.flat)) c.args.outside.now c.wave_netlist.new.outside c.wave_netlist.result)
    c.ordered.ensures c.wave_netlist.ensures))
