use Rattle.std.proofs.Common.{◌≡◌, ◌∙◌, ℕ, Ok, Err, refl, ap, subst}
use Rattle.std.proofs.lemmas.Result.{err_from_is_err_and}
use Rattle.vw_net.specs.declared.flat.Flat.{Flat}
use Rattle.vw_net.specs.Cells.{latch_count}
use Rattle.vw_course.specs.Goes.{Unmoved}
use Rattle.vw_course.specs.Stages.{EndsStage}
use Rattle.vw_course.proofs.GoesLaws.{goes_on, goes_not_on, unmoved_still}
use Rattle.vw_courses.specs.declared.vocabulary.File.TheVariants as files
use Rattle.vw_courses.specs.Messages.{vocabulary}
use Rattle.vw_courses.specs.Kinds.{state_kind, IsStateOf, IsBadState}
use Rattle.vw_courses.specs.Commands.{netlist_replay_until, reached_course}
use Rattle.vw_top.proofs.replay.replay_netlist.Goals as goal

pub returns-in_err-state : goal.returns-in_err-state
returns-in_err-state g c =
    let p = err_from_is_err_and c.from_residual.result c.from_residual.ensures.1 in
    let flat = c.args.ordered.now.flat in
    let same : c.latch_count-latches.result ≡ latch_count flat.cells =
    c.latch_count-latches.ensures ∙ ap latch_count (c.cells.ensures ∙ ap (λ (one : Flat). one.cells) c.flat.ensures) in
    rw (p.1, p.2)
    (goes_not_on g.S.Shelf.seen g.O.Sink.seen vocabulary Unmoved (state_kind (latch_count flat.cells)) c.args.state.now (reached_course c.args.stimulus.now flat.inputs (netlist_replay_until c.args.until c.args.probes flat))
    (unmoved_still vocabulary) c.in_err-state.field-0.0 (record { shelf = refl; out = refl }) refl
    (subst (λ (latches : ℕ). EndsStage files.State c.args.state.now (IsStateOf latches) (IsBadState latches) (g.S.Shelf.seen c.args.outside.now.shelf.now) (g.S.Shelf.seen c.read_given_state.new.shelf) (Err c.in_err-state.field-0.0)) same c.in_err-state.ensures))

pub returns : goal.returns
returns g c =
    let flat = c.args.ordered.now.flat in
    let same : c.latch_count-latches.result ≡ latch_count flat.cells =
    c.latch_count-latches.ensures ∙ ap latch_count (c.cells.ensures ∙ ap (λ (one : Flat). one.cells) c.flat.ensures) in
    goes_on g.S.Shelf.seen g.O.Sink.seen vocabulary Unmoved (state_kind (latch_count flat.cells)) c.args.state.now (reached_course c.args.stimulus.now flat.inputs (netlist_replay_until c.args.until c.args.probes flat))
    c.in_ok-state.state (record { shelf = refl; out = refl }) refl
    (subst (λ (latches : ℕ). EndsStage files.State c.args.state.now (IsStateOf latches) (IsBadState latches) (g.S.Shelf.seen c.args.outside.now.shelf.now) (g.S.Shelf.seen c.read_given_state.new.shelf) (Ok c.in_ok-state.state)) same c.in_ok-state.ensures) c.replay_rows.ensures
