use Rattle.std.proofs.Common.{◌∙◌, ◌+◌, ℕ, List, Bool, [], length, sym, ap, ap₂, subst, arith}
use Rattle.std.proofs.lemmas.Result.{err_from_is_err_and}
use Rattle.vw_net.specs.declared.flat.Flat.{Flat}
use Rattle.vw_net.specs.Cells.{start_values}
use Rattle.vw_outside.proofs.PiecesWritten.{appended-nil}
use Rattle.vw_plan.specs.declared.checked.Checked.{Checked}
use Rattle.vw_plan.specs.PlannedBoard.{planned_board}
use Rattle.vw_trace.specs.Triggers.{shown_history, worked}
use Rattle.vw_trace.proofs.StreamedTexts.{headed, nothing_streamed}
use Rattle.vw_trace.proofs.Triggered.{one_batch}
use Rattle.vw_batches.specs.Runs.{engine_of}
use Rattle.vw_batches.specs.Traffic.{HaveCarried}
use Rattle.vw_batches.proofs.JoinedTraffic.{after_no_rows}
use Rattle.vw_batches.proofs.StartedBoards.{done_on}
use Rattle.vw_resume.specs.Saved.{counted_from_start, saved_text}
use Rattle.vw_resume.specs.States.{state_text}
use Rattle.vw_resume.proofs.SavedStates.{saved_shown}
use Rattle.vw_resume.proofs.saving.save.Goals as goal

-- there was no memory for the board
pub returns-in_err-board-clause-streams : goal.returns-in_err-board-clause-streams
returns-in_err-board-clause-streams g c =
    let checked = c.args.checked in
    let planned = planned_board checked.ordered checked.board checked.plan in
    let start = start_values c.args.unknown checked.ordered.flat.cells in
    let carried = g.F.Fabric.carried c.args.floor.now.fabric.now in
    let p = err_from_is_err_and c.from_residual.result c.from_residual.ensures.1 in
    rw (p.1, p.2)
    (nothing_streamed c.args.rows.now (λ these. saved_text c.args.unknown checked.ordered.flat (counted_from_start c.args.until c.args.unknown checked.ordered.flat these))
    (λ these. HaveCarried c.args.floor.now.workers planned 0 start carried carried (worked c.args.until checked.ordered.flat start these))
    (subst (HaveCarried c.args.floor.now.workers planned 0 start carried carried) (sym (one_batch checked.ordered.flat start c.args.until [] (omega arith))) (after_no_rows planned 0 start c.args.floor.now.workers carried)) (g.O.Sink.seen c.args.out.now))

pub returns-in_err-board-clause-silent : goal.returns-in_err-board-clause-silent
returns-in_err-board-clause-silent g c =
    let p = err_from_is_err_and c.from_residual.result c.from_residual.ensures.1 in
    rw (p.1, p.2) tt

-- the board has the plan, and stands before the first clock
pub returns-clause-streams : goal.returns-clause-streams
returns-clause-streams g c =
    let its = c.in_ok-board.ensures in
    let job = c.in_ok-board.board.job in
    let before = g.O.Sink.seen c.args.out.now in
    let start = start_values c.args.unknown c.args.checked.ordered.flat.cells in
    let text : ℕ → Flat → List Bool → List (List Bool) → List ℕ = λ clock flat state these. state_text (clock + length (shown_history c.args.until flat state these).outputs) (shown_history c.args.until flat state these).last in
    headed [] (λ these. saved_text c.args.unknown c.args.checked.ordered.flat (counted_from_start c.args.until c.args.unknown c.args.checked.ordered.flat these)) before (sym (appended-nil before))
    (λ these.
    ap (λ (clock : ℕ). text clock job.checked.ordered.flat job.start these) c.make-recorder.ensures.clocks
    ∙ ap₂ (λ (checked : Checked) (state : List Bool). text 0 checked.ordered.flat state these) its.checked its.state
    ∙ saved_shown c.args.until c.args.unknown c.args.checked.ordered.flat these)
    (λ these done. (done_on job its.checked its.clock its.state c.args.until c.args.floor.now.workers (g.F.Fabric.carried c.args.floor.now.fabric.now) (g.F.Fabric.carried c.go_on.new.floor.fabric.now)
    (engine_of c.go_on.new.board.job) c.go_on.result these done).0)
    c.go_on.ensures.records
