use Rattle.std.proofs.Common.{sym, subst, arith}
use Rattle.vw_pipe.specs.Steps.Underway.{AreTasks}
use Rattle.vw_pipe.proofs.Agenda.{are_tasks}
use Rattle.vw_pipe.proofs.AllTasksDone.{finished}
use Rattle.vw_pipe.proofs.DoneTasks.{IsAgenda}
use Rattle.vw_pipe.proofs.NothingDone.{started}
use Rattle.vw_pipe.proofs.TaskDone.{done_more}
use Rattle.vw_pipe.proofs.TaskReady.{task_ready}
use Rattle.vw_pipe.proofs.drafting.drafted.Goals as goal
use Rattle.vw_pipe.proofs.drafting.drafted.Goals.{In-loop-task}

pub loop-task-init : goal.loop-task-init
loop-task-init c =
    let given = c.args.given.now in
    let ordered = given.ordered.now in
    let routes = given.routes.now in
    let turns = c.args.turns.now in
    let tasks = c.in_ok-tasks.tasks.items in
    let are = are_tasks ordered turns routes c.requires.turns.sent.long tasks c.in_ok-tasks.ensures.0 c.in_ok-tasks.ensures.1 in
    record {
      tasks = subst (AreTasks ordered turns routes) (sym c.as_slice-task-items.ensures.value) are;
      way = started ordered given.board.now given.chip_of.now routes c.as_slice-task-items.result.now c.in_ok-draft.draft c.in_ok-draft.ensures;
    }

-- what each task finds
agenda : (c : In-loop-task) → IsAgenda c.args.given.now.ordered.now c.args.given.now.board.now c.args.given.now.chip_of.now
    c.args.given.now.routes.now c.args.turns.now c.as_slice-task-items.result.now
agenda c = record {
  each = c.args.given.now.each;
  kept = c.requires.turns;
  tasks_are = c.loop-task.invariant.tasks;
  routes_are = c.requires.routes;
}

pub carry_out-requires : goal.carry_out-requires
carry_out-requires c = task_ready (agenda (goal.at.carry_out-requires c).In-loop-task) c.loop-task-test.true c.loop-task.invariant.way

pub loop-task-preserved : goal.loop-task-preserved
loop-task-preserved c = record {
  tasks = c.loop-task.invariant.tasks;
  way = done_more (agenda (goal.at.loop-task-preserved c).In-loop-task) c.loop-task-test.true c.loop-task.invariant.way c.in_ok-carry_out.ensures;
}

pub returns : goal.returns
returns c =
    let given = c.args.given.now in
    let turns = c.args.turns.now in
    let tasks = c.as_slice-task-items.result.now in
    finished given.ordered.now given.board.now given.chip_of.now given.routes.now turns tasks c.loop-task.task-index c.loop-task.draft
    c.requires.routes c.loop-task.invariant.tasks (omega arith) c.loop-task.invariant.way
