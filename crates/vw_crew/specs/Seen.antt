-- A crew as contracts see it. Source: this project.
use Rattle.std.specs.Prelude.{◌≡◌, ◌<◌, ◌%◌, ℕ, Bool, List, length, min, slice_get, Some}
use Rattle.std.specs.List.{Contains}
use Rattle.vw_prog.specs.declared.job.Job.{Job}

-- its job, the number of each of its groups, the one that its bursts are to tell the gate, the numbers of the nodes of each group,
-- whether its receiving ends keep the words that they take, and whether all nodes were brought to the end
pub record SeenCrew : Type 0 where
  pub job : Job
  pub numbers : List ℕ
  pub groups : List (List ℕ)
  pub keeps : Bool
  pub done : Bool

-- so many nodes in groups: there are as many groups as workers, or as nodes if they are fewer; each node is in the group whose
-- number is the rest of its own by the count of groups, and in no other
pub record AreDealt (workers nodes : ℕ) (groups : List (List ℕ)) : Type 0 where
  pub count : length groups ≡ min workers nodes
  pub each : (node : ℕ) → node < nodes → (group : List ℕ) × (slice_get groups (node % length groups) ≡ Some group) × Contains group node
  pub only : (number node : ℕ) (group : List ℕ) → slice_get groups number ≡ Some group → Contains group node → (node < nodes) × (node % length groups ≡ number)
