use Rattle.std.proofs.Common.{◌≡◌, ◌∙◌, ℕ, Ok, Err, refl, sym, ap, subst}
use Rattle.std.proofs.lemmas.Result.{err_from_is_err_and}
use Rattle.vw_net.specs.declared.flat.Flat.{Flat}
use Rattle.vw_net.specs.declared.ordered.Ordered.{Ordered}
use Rattle.vw_net.specs.Cells.{latch_count}
use Rattle.vw_course.specs.Goes.{MovedFrom}
use Rattle.vw_course.specs.Stages.{EndsStage}
use Rattle.vw_course.proofs.GoesLaws.{goes_on, goes_not_on}
use Rattle.vw_plan.specs.PlannedBoard.{planned_board}
use Rattle.vw_courses.specs.declared.vocabulary.File.TheVariants as files
use Rattle.vw_courses.specs.Messages.{vocabulary}
use Rattle.vw_courses.specs.Kinds.{state_kind, IsStateOf, IsBadState}
use Rattle.vw_courses.specs.Commands.{state_course}
use Rattle.vw_top.proofs.resume.resume_checked.Goals as goal

pub returns-in_err-state-clause-goes : goal.returns-in_err-state-clause-goes
returns-in_err-state-clause-goes g c =
    let p = err_from_is_err_and c.from_residual.result c.from_residual.ensures.1 in
    let checked = c.args.checked in
    let planned = planned_board checked.ordered checked.board checked.plan in
    let links = g.F.Fabric.carried c.args.floor.now.fabric.now in
    let same : c.latch_count-latches.result ≡ latch_count checked.ordered.flat.cells =
    c.latch_count-latches.ensures ∙ ap latch_count (c.cells.ensures ∙ ap (λ (flat : Flat). flat.cells) (c.flat.ensures ∙ ap (λ (one : Ordered). one.flat) c.ordered.ensures)) in
    rw (p.1, p.2)
    (goes_not_on g.S.Shelf.seen g.O.Sink.seen vocabulary (MovedFrom links links) (state_kind (latch_count checked.ordered.flat.cells)) c.args.state.now (state_course c.args.until c.args.probes c.args.stimulus.now c.args.floor.now.workers planned)
    (λ before after moved. moved.1 ∙ sym moved.0) c.in_err-state.field-0.0 (record { shelf = refl; out = refl }) refl
    (subst (λ (latches : ℕ). EndsStage files.State c.args.state.now (IsStateOf latches) (IsBadState latches) (g.S.Shelf.seen c.args.outside.now.shelf.now) (g.S.Shelf.seen c.read_state.new.shelf) (Err c.in_err-state.field-0.0)) same c.in_err-state.ensures))

pub returns-clause-goes : goal.returns-clause-goes
returns-clause-goes g c =
    let checked = c.args.checked in
    let planned = planned_board checked.ordered checked.board checked.plan in
    let Moved = MovedFrom (g.F.Fabric.carried c.args.floor.now.fabric.now) (g.F.Fabric.carried c.resume_state.new.floor.fabric.now) in
    let same : c.latch_count-latches.result ≡ latch_count checked.ordered.flat.cells =
    c.latch_count-latches.ensures ∙ ap latch_count (c.cells.ensures ∙ ap (λ (flat : Flat). flat.cells) (c.flat.ensures ∙ ap (λ (one : Ordered). one.flat) c.ordered.ensures)) in
    goes_on g.S.Shelf.seen g.O.Sink.seen vocabulary Moved (state_kind (latch_count checked.ordered.flat.cells)) c.args.state.now (state_course c.args.until c.args.probes c.args.stimulus.now c.args.floor.now.workers planned)
    c.in_ok-state.state (record { shelf = refl; out = refl }) refl
    (subst (λ (latches : ℕ). EndsStage files.State c.args.state.now (IsStateOf latches) (IsBadState latches) (g.S.Shelf.seen c.args.outside.now.shelf.now) (g.S.Shelf.seen c.read_state.new.shelf) (Ok c.in_ok-state.state)) same c.in_ok-state.ensures) c.resume_state.ensures.goes
