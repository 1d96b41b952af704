-- Groups of nodes with the ends of their links. No public clause cites it, but the view of a crew does.
use Rattle.std.specs.Prelude.{◌≡◌, ◌<◌, ◌+◌, ◌*◌, ◌/◌, ◌%◌, ◌==◌, ℕ, suc, Bool, List, length, map, slice_get, slice_set, Option, Some, option_map, if◌then◌else◌}
use Rattle.std.specs.Option.{option_and_then}
use Rattle.vw_prog.specs.declared.job.Job.{Job}
use Rattle.vw_prog.specs.declared.job.Share.{Share}
use Rattle.vw_prog.specs.Fabric.{SeenPutEnd, SeenTakeEnd}
use Rattle.vw_node.specs.declared.node.Node.{Node}
use Rattle.vw_node.specs.Fits.{FitsJob, state_of}
use Rattle.vw_node.specs.Positions.{Agrees}
use Rattle.vw_node.specs.States.{start_state}
use Rattle.vw_crew.specs.Ends.{SeenOwn, ends_of, keeps_of, take_at}

-- the number of a group, its nodes, and the ends of each
pub record SeenGroup : Type 0 where
  pub number : ℕ
  pub nodes : List Node
  pub ends : List SeenOwn

-- the number of a node
abbrev pub node_number : Node → ℕ
node_number node = node.share.node

-- for each group the numbers of its nodes
abbrev pub node_numbers : List SeenGroup → List (List ℕ)
node_numbers groups = map (λ group. map node_number group.nodes) groups

-- the number of each group
abbrev pub group_numbers : List SeenGroup → List ℕ
group_numbers groups = map (λ group. group.number) groups

-- of some groups, the one with the rest of a node's number has the node, at the place that the division gives
abbrev pub group_node : List SeenGroup → ℕ → Option Node
group_node groups node = option_and_then (λ group. slice_get group.nodes (node / length groups)) (slice_get groups (node % length groups))

abbrev pub own_at : List SeenGroup → ℕ → Option SeenOwn
own_at groups node = option_and_then (λ group. slice_get group.ends (node / length groups)) (slice_get groups (node % length groups))

-- ---- at work

-- a node that has what it needs, and stands where its ends do
pub record IsAtWork (node : Node) (own : SeenOwn) : Type 0 where
  pub fits : FitsJob own.job node
  pub agrees : Agrees own.job node.share.node (state_of node) (ends_of own)

-- each node of a group is such a one
abbrev pub AreAtWork : SeenGroup → Type 0
AreAtWork group = (place : ℕ) (node : Node) (own : SeenOwn) → slice_get group.nodes place ≡ Some node → slice_get group.ends place ≡ Some own → IsAtWork node own

-- what no action changes of a node's ends: the job, the node, and which of them keep their words
pub record Marks : Type 0 where
  pub job : Job
  pub node : ℕ
  pub keeps : ℕ → Bool

abbrev pub own_marks : SeenOwn → Marks
own_marks own = record { job = own.job; node = own.node; keeps = λ link. keeps_of (take_at own link) }

-- what a node may see of the job
abbrev pub share_of : Node → Share
share_of node = node.share

-- the group has the number and the nodes that it had, with the same links
pub record Stays (old new : SeenGroup) : Type 0 where
  pub number : new.number ≡ old.number
  pub shares : map share_of new.nodes ≡ map share_of old.nodes
  pub marks : map own_marks new.ends ≡ map own_marks old.ends

-- ---- before any action

-- a node of a job that stands before its first action
pub record IsUnstarted (job : Job) (number : ℕ) (node : Node) : Type 0 where
  pub inside : number < suc job.checked.board.chips
  pub number_is : node.share.node ≡ number
  pub fits : FitsJob job node
  pub state : state_of node ≡ start_state job number

-- the ends of a node, in a place for each link of the job
pub record IsOwnOf (job : Job) (number : ℕ) (own : SeenOwn) : Type 0 where
  pub same_job : own.job ≡ job
  pub same_node : own.node ≡ number
  pub puts : length own.puts ≡ length job.checked.board.links
  pub takes : length own.takes ≡ length job.checked.board.links

-- the group with a number, of so many groups: it has that number, and the nodes whose numbers have that rest, each once and in order
pub record IsFirstGroup (job : Job) (groups number : ℕ) (group : SeenGroup) : Type 0 where
  pub number_is : group.number ≡ number
  pub nodes : (place : ℕ) (node : Node) → slice_get group.nodes place ≡ Some node → IsUnstarted job (place * groups + number) node
  pub ends : (place : ℕ) (own : SeenOwn) → slice_get group.ends place ≡ Some own → IsOwnOf job (place * groups + number) own
  pub full : (place : ℕ) → place * groups + number < suc job.checked.board.chips → (place < length group.nodes) × (place < length group.ends)

-- ---- the ends of one link have changed

-- there is a node with ends for a job
abbrev pub HasOwn : Job → List SeenGroup → ℕ → Type 0
HasOwn job groups node = (own : SeenOwn) × (own_at groups node ≡ Some own) × (own.job ≡ job)

-- places with another one for a link, at the node whose place it is
abbrev pub placed : {A : Type 0} → Bool → ℕ → Option A → List (Option A) → List (Option A)
placed here link new places = if here then slice_set places link new else places

-- the ends of a node as they were, but for a link's at one node
abbrev pub relaid : ℕ → ℕ → Option SeenPutEnd → Option SeenTakeEnd → ℕ → SeenOwn → SeenOwn
relaid node link put take other own = record own {
  puts = placed (other == node) link put own.puts;
  takes = placed (other == node) link take own.takes;
}

-- a node has other ends of a link, and all else is as it was
pub record Changes (node link : ℕ) (put : Option SeenPutEnd) (take : Option SeenTakeEnd) (old new : List SeenGroup) : Type 0 where
  pub count : length new ≡ length old
  pub numbers : group_numbers new ≡ group_numbers old
  pub nodes : (other : ℕ) → group_node new other ≡ group_node old other
  pub ends : (other : ℕ) → own_at new other ≡ option_map (relaid node link put take other) (own_at old other)

-- ---- all groups

abbrev pub AllAtWork : List SeenGroup → Type 0
AllAtWork groups = (number : ℕ) (group : SeenGroup) → slice_get groups number ≡ Some group → AreAtWork group

-- the groups have the numbers and the nodes that they had, with the same links
pub record AllStay (old new : List SeenGroup) : Type 0 where
  pub numbers : group_numbers new ≡ group_numbers old
  pub shares : map (λ group. map share_of group.nodes) new ≡ map (λ group. map share_of group.nodes) old
  pub marks : map (λ group. map own_marks group.ends) new ≡ map (λ group. map own_marks group.ends) old
