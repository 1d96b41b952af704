use Rattle.std.proofs.Common.{◌+◌, List, length, refl, ◌∙◌, subst, ap}
use Rattle.std.proofs.lemmas.Result.{err_from_is_err_and}
use Rattle.vw_course.specs.Goes.{Goes, Unmoved}
use Rattle.vw_course.proofs.GoesLaws.{unmoved_still}
use Rattle.vw_design.specs.Paths.{Word}
use Rattle.vw_net.specs.declared.ordered.Ordered.{Ordered}
use Rattle.vw_net.specs.Cells.{latch_count}
use Rattle.vw_front.specs.NamedNetlists.{without_names}
use Rattle.vw_front.specs.Names.{signal_names}
use Rattle.vw_courses.specs.Messages.{vocabulary}
use Rattle.vw_courses.specs.Commands.{netlist_course, netlist_wave_until, no_links, wave_of_until, no_check}
use Rattle.vw_courses.proofs.FlatTraces.{probes_fit, wave_until_same}
use Rattle.vw_files.specs.Watched.{shown_words}
use Rattle.vw_top.proofs.WorkedRows.{signals_fit}
use Rattle.vw_top.proofs.StreamedTraces.{goes_unchecked, goes_of_design}
use Rattle.vw_top.proofs.wave.wave_signals.Goals as goal

-- there is a name for each signal but the trigger
pub wave_netlist-requires : goal.wave_netlist-requires
wave_netlist-requires g c =
    let until = c.args.probes.until in
    let nets = c.args.probes.nets.now in
    rw c.into_ordered-ordered.ensures
    (signals_fit until nets (length c.args.named.ordered.flat.outputs) (latch_count c.args.named.ordered.flat.cells) (length c.deref.result.now) c.args.probes.some (probes_fit nets c.requires.0 c.args.named.ordered (without_names nets c.requires.0 c.args.named c.requires.1))
    (ap (λ (words : List Word). length words + length nets) c.deref.ensures.value ∙ c.in_ok-names.ensures.count nets c.requires.0 c.requires.1
    ∙ ap (λ (words : List Word). length c.args.named.ordered.flat.outputs + length words + latch_count c.args.named.ordered.flat.cells) c.shown.ensures))

-- without memory for the names nothing more is read
pub returns-in_err-names : goal.returns-in_err-names
returns-in_err-names g c = λ text is.
    let p = err_from_is_err_and c.from_residual.result c.from_residual.ensures.1 in
    rw (p.1, p.2)
    (goes_unchecked g.S.Shelf.seen g.O.Sink.seen Unmoved c.args.stimulus.now _ no_check (wave_of_until c.args.probes.until (shown_words c.args.probes.until c.args.probes.nets.now) c.args.unknown is.watched) no_links c.args.outside.now _ (record { shelf = refl; out = refl }) refl
    (unmoved_still vocabulary) _ refl)

pub returns : goal.returns
returns g c = λ text is.
    let until = c.args.probes.until in
    let shown = shown_words until c.args.probes.nets.now in
    let ordered = c.args.named.ordered in
    goes_of_design g.S.Shelf.seen g.O.Sink.seen c.args.stimulus.now (wave_of_until until shown c.args.unknown) (netlist_wave_until until (signal_names shown is.watched.design) c.args.unknown) no_links is.watched ordered is.flat
    (wave_until_same until shown c.args.unknown is.watched ordered is.flat)
    (subst (λ (names : List Word). Goes g.S.Shelf.seen g.O.Sink.seen vocabulary (netlist_course c.args.stimulus.now (netlist_wave_until until names c.args.unknown) no_links ordered) c.args.outside.now c.wave_netlist.new.outside c.wave_netlist.result)
    (c.deref.ensures.value ∙ c.in_ok-names.ensures.names c.args.probes.nets.now text is ∙ ap (λ (words : List Word). signal_names words is.watched.design) c.shown.ensures)
    (subst (λ (netlist : Ordered). Goes g.S.Shelf.seen g.O.Sink.seen vocabulary (netlist_course c.args.stimulus.now (netlist_wave_until until c.deref.result.now c.args.unknown) no_links netlist) c.args.outside.now c.wave_netlist.new.outside c.wave_netlist.result)
    c.into_ordered-ordered.ensures c.wave_netlist.ensures))
