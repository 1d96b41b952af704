-- the tasks so far, and those of the rest
use Rattle.std.proofs.Common.{◌≡◌, ◌+◌, ◌++◌, drop, false, slice_index, ℕ}
use Rattle.vw_pipe.specs.Steps.Tasks.{tasks_from}
use Rattle.vw_pipe.proofs.task.list_leads.Given as goal

abbrev pub invariant-loop-place : goal.invariant-loop-place
invariant-loop-place l =
    let turn_of = λ (number : ℕ). slice_index l.turns (l.ordered.flat.inputs + number) in
    l.tasks.items ++ tasks_from turn_of false l.place (drop l.place l.ordered.order) ≡ l.fn.tasks.items ++ tasks_from turn_of false 0 l.ordered.order
