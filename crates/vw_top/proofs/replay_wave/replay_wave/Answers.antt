use Rattle.std.proofs.Common.{◌≡◌, ℕ, List, refl, subst}
use Rattle.vw_course.specs.Goes.{Goes, Unmoved}
use Rattle.vw_course.proofs.GoesLaws.{goes_for_each}
use Rattle.vw_front.specs.Designs.{WatchedDesign}
use Rattle.vw_front.specs.NamedNetlists.{IsNamedNetlistOf}
use Rattle.vw_courses.specs.Messages.{vocabulary}
use Rattle.vw_courses.specs.Kinds.{design_kind}
use Rattle.vw_courses.specs.Commands.{design_replay, replayed_wave_of_until}
use Rattle.vw_files.specs.Watched.{shown_words}
use Rattle.vw_top.proofs.replay_wave.replay_wave.Goals as goal

pub wave_signals-requires : goal.wave_signals-requires
wave_signals-requires g c = let judged = c.in_ok-named.ensures in (judged.1, judged.3)

pub returns : goal.returns
returns g c =
    let named = c.in_ok-named.named in
    let probes = c.args.probes.nets.now in
    let next = design_replay c.args.state.now c.args.stimulus.now (replayed_wave_of_until c.args.probes.until (shown_words c.args.probes.until probes)) in
    let Is : WatchedDesign → Type 0 = λ watched. (text : List ℕ) × (is : IsNamedNetlistOf probes text named) × (is.watched ≡ watched) in
    goes_for_each g.S.Shelf.seen g.O.Sink.seen vocabulary Unmoved (design_kind probes) c.args.design.now (IsNamedNetlistOf probes) next Is named (record { shelf = refl; out = refl }) refl c.in_ok-named.ensures
    (λ text is. (is.watched, is.is, (text, is, refl)))
    (λ watched is. subst (λ (one : WatchedDesign). Goes g.S.Shelf.seen g.O.Sink.seen vocabulary (next one) _ c.wave_signals.new.outside c.wave_signals.result) is.2 (c.wave_signals.ensures is.0 is.1))
