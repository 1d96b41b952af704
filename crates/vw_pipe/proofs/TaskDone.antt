-- One task more is done.
use Rattle.std.proofs.Common.{◌≡◌, ◌<◌, ◌+◌, ℕ, Bool, true, false, List, length, refl}
use Rattle.vw_net.specs.declared.ordered.Ordered.{Ordered}
use Rattle.vw_plan.specs.declared.board.Board.{Board}
use Rattle.vw_plan.specs.declared.need.Route.{Route}
use Rattle.vw_pipe.specs.declared.draft.Draft.{Draft}
use Rattle.vw_pipe.specs.declared.task.Task.{Task}
use Rattle.vw_pipe.specs.declared.turns.Turns.{Turns}
use Rattle.vw_pipe.specs.Steps.Drafts.{DoesTask}
use Rattle.vw_pipe.specs.Steps.Underway.{IsUnderway, task_at}
use Rattle.vw_pipe.proofs.DoneTasks.{IsAgenda}
use Rattle.vw_pipe.proofs.RouteSent.{sent_more}
use Rattle.vw_pipe.proofs.LeadWorked.{worked_more}

module _ {ordered : Ordered} {board : Board} {chip_of : List ℕ} {routes : List Route} {turns : Turns} {tasks : List Task}
    (agenda : IsAgenda ordered board chip_of routes turns tasks) {count : ℕ} (within : count < length tasks) {draft new : Draft} where
  pub done_more : IsUnderway ordered board chip_of routes tasks count draft
      → DoesTask ordered board chip_of routes (task_at tasks count).sends (task_at tasks count).place draft new
      → IsUnderway ordered board chip_of routes tasks (count + 1) new
  done_more way does = by (task_at tasks count).sends refl does where
    by : (sends : Bool) → (task_at tasks count).sends ≡ sends → DoesTask ordered board chip_of routes sends (task_at tasks count).place draft new
        → IsUnderway ordered board chip_of routes tasks (count + 1) new
    by false is has = worked_more agenda within way is has
    by true is has = sent_more agenda within way is has
