-- the tasks so far are done
use Rattle.vw_pipe.specs.Steps.Underway.{AreTasks, IsUnderway}
use Rattle.vw_pipe.proofs.drafting.drafted.Given as goal

abbrev pub invariant-loop-task : goal.invariant-loop-task
invariant-loop-task l = record {
  tasks : AreTasks l.given.ordered.now l.turns l.given.routes.now l.task-items;
  way : IsUnderway l.given.ordered.now l.given.board.now l.given.chip_of.now l.given.routes.now l.task-items l.task-index l.draft;
}
