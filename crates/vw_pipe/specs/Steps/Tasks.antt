-- What is done for a schedule, in which order. Source: this project.
use Rattle.std.specs.Prelude.{◌≡◌, ◌≤◌, ◌+◌, ◌++◌, ℕ, suc, Bool, true, false, List, [], ◌∷◌, slice_index}
use Rattle.std.specs.List.{AllPairs}
use Rattle.vw_net.specs.declared.ordered.Ordered.{Ordered}
use Rattle.vw_pipe.specs.declared.task.Task.{Task}
use Rattle.vw_pipe.specs.declared.turns.Turns.{Turns}

-- a task for each of some things, which are numbered from a number on
abbrev pub tasks_from : {X : Type 0} → (X → ℕ) → Bool → ℕ → List X → List Task
tasks_from turn_of sends place [] = []
tasks_from turn_of sends place (x ∷ xs) = record { turn = turn_of x; sends = sends; place = place } ∷ tasks_from turn_of sends (suc place) xs

-- the lead of each gate, and the hops of each route
abbrev pub all_tasks : Ordered → Turns → List Task
all_tasks ordered turns =
    tasks_from (λ number. slice_index turns.nets.items (ordered.flat.inputs + number)) false 0 ordered.order
    ++ tasks_from (λ turn. turn) true 0 turns.routes.items

-- leads come before hops
abbrev pub task_rank : Bool → ℕ
task_rank false = 0
task_rank true = 1

-- a task comes before another, or is the same
pub record IsAtMost (task other : Task) : Type 0 where
  pub turns : task.turn ≤ other.turn
  pub kinds : task.turn ≡ other.turn → task_rank task.sends ≤ task_rank other.sends
  pub places : task.turn ≡ other.turn → task_rank task.sends ≡ task_rank other.sends → task.place ≤ other.place

-- each task comes before all later ones
abbrev pub AreRising : List Task → Type 0
AreRising tasks = AllPairs IsAtMost tasks
