-- the tasks so far, and those of the rest
use Rattle.std.proofs.Common.{◌≡◌, ◌++◌, drop, true}
use Rattle.vw_pipe.specs.Steps.Tasks.{tasks_from}
use Rattle.vw_pipe.proofs.task.list_sends.Given as goal

abbrev pub invariant-loop-number : goal.invariant-loop-number
invariant-loop-number l =
    l.tasks.items ++ tasks_from (λ turn. turn) true l.number (drop l.number l.turns) ≡ l.fn.tasks.items ++ tasks_from (λ turn. turn) true 0 l.turns
