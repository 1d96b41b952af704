-- A world as contracts see it. Source: this project.
use Rattle.std.specs.Prelude.{◌≡◌, ◌<◌, ℕ, length}
use Rattle.vw_prog.specs.declared.job.Job.{Job}
use Rattle.vw_world.specs.Worlds.{WorldState, node_at, start_world}

-- its job, and the states of its nodes with the words on its links
pub record SeenWorld : Type 0 where
  pub job : Job
  pub state : WorldState

-- the world of a job at the start
abbrev pub start_of : Job → SeenWorld
start_of job = record { job = job; state = start_world job }

-- all nodes have finished all clocks
abbrev pub AreAllDone : SeenWorld → Type 0
AreAllDone world = (node : ℕ) → node < length world.state.nodes → (node_at world.state node).clock ≡ length world.job.rows
