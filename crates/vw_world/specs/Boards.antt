-- The nodes and links of a world that runs. No public clause cites it.
use Rattle.std.specs.Prelude.{◌≡◌, ◌<◌, ◌+◌, ℕ, suc, true, List, [], ◌∷◌, length, map, slice_get, Some}
use Rattle.vw_prog.specs.declared.job.Job.{Job}
use Rattle.vw_prog.specs.Ends.{SeenEnds}
use Rattle.vw_node.specs.declared.node.Node.{Node}
use Rattle.vw_node.specs.Fits.{FitsJob, state_of}
use Rattle.vw_node.specs.Left.{left}
use Rattle.vw_node.specs.Lists.{tabulate}
use Rattle.vw_node.specs.States.{NodeState, start_state}
use Rattle.vw_world.specs.Kept.{IsKept, sent_at, taken_at}
use Rattle.vw_world.specs.Lanes.{SeenLanes, ends_of, lane_words}
use Rattle.vw_world.specs.Worlds.{WorldState, capacity, link_at}

-- the ends of a node's links are those of a world, and tell all
pub record AreEnds (job : Job) (world : WorldState) (node : ℕ) (ends : SeenEnds) : Type 0 where
  pub same_job : ends.job ≡ job
  pub same_node : ends.node ≡ node
  pub told : ends.told ≡ true
  pub sent : (link : ℕ) → link < length world.links → ends.sent link ≡ sent_at job world link
  pub taken : (link : ℕ) → link < length world.links → ends.taken link ≡ taken_at job world link
  pub room : (link : ℕ) → link < length world.links → ends.room link ≡ capacity (link_at job link)

-- the world of some nodes and links in memory
abbrev pub world_of : List Node → SeenLanes → WorldState
world_of nodes all = record { nodes = map state_of nodes; links = lane_words all.lanes }

-- each node is the one with its number, and has what it needs; the links stand where the nodes do
pub record IsBoard (job : Job) (nodes : List Node) (all : SeenLanes) : Type 0 where
  pub same : all.job ≡ job
  pub numbers : (node : ℕ) (there : Node) → slice_get nodes node ≡ Some there → there.share.node ≡ node
  pub fits : (node : ℕ) (there : Node) → slice_get nodes node ≡ Some there → FitsJob job there
  pub kept : IsKept job (world_of nodes all)
  pub ends : AreEnds job (world_of nodes all) all.node (ends_of all)

-- how many actions are to come, of nodes from a number on
abbrev pub lefts : Job → ℕ → List NodeState → ℕ
lefts job first [] = 0
lefts job first (state ∷ states) = left job first state + lefts job (suc first) states

-- so many nodes of a job, before their first actions
pub record AreNodes (job : Job) (count : ℕ) (nodes : List Node) : Type 0 where
  pub numbers : (node : ℕ) (there : Node) → slice_get nodes node ≡ Some there → there.share.node ≡ node
  pub fits : (node : ℕ) (there : Node) → slice_get nodes node ≡ Some there → FitsJob job there
  pub states : map state_of nodes ≡ tabulate (start_state job) count
