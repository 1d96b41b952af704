-- Links that are laid and lifted, and what a fabric tells of them. No public clause cites it, but what a crew keeps does.
use Rattle.std.specs.Prelude.{◌≡◌, ◌<◌, ◌≤◌, ℕ, suc, Bool, true, List, ◌++◌, length, take, slice_get, nat_lt, Some, option_map, if◌then◌else◌}
use Rattle.std.specs.Option.{is_some}
use Rattle.vw_plan.specs.declared.link.Link.{Link}
use Rattle.vw_prog.specs.declared.job.Job.{Job}
use Rattle.vw_prog.specs.Fabric.{Carried, SeenPutEnd, SeenTakeEnd}
use Rattle.vw_prog.specs.Scripts.{script}
use Rattle.vw_node.specs.declared.node.Node.{Node}
use Rattle.vw_crew.specs.Ends.{SeenOwn, put_at, take_at}
use Rattle.vw_crew.specs.Groups.{AllAtWork, HasOwn, IsUnstarted, IsOwnOf, Marks, SeenGroup, own_marks, group_node, own_at}

-- a link that is laid, and over which so many words were sent and taken: the node that it leaves has the one end, and the node
-- that it reaches the other, which keeps its words or doesn't
pub record IsHung (job : Job) (keeps : Bool) (groups : List SeenGroup) (link moved from to : ℕ) : Type 0 where
  pub putter : HasOwn job groups from
  pub put_end : SeenPutEnd
  pub put_is : put_at putter.0 link ≡ Some put_end
  pub sent : put_end.sent ≡ moved
  pub taker : HasOwn job groups to
  pub take_end : SeenTakeEnd
  pub take_is : take_at taker.0 link ≡ Some take_end
  pub taken : take_end.taken ≡ moved
  pub kept : take_end.keeps ≡ keeps

-- those of the links from one number on, below another, are laid
abbrev pub AreHung : Job → Bool → ℕ → ℕ → (ℕ → ℕ) → List SeenGroup → Type 0
AreHung job keeps first end moved groups = (number : ℕ) (link : Link) → first ≤ number → number < end → slice_get job.checked.board.links number ≡ Some link → IsHung job keeps groups number (moved number) link.from link.to

-- the first links are laid, and words are kept where the fabric tells them
abbrev pub CanLift : Job → Carried → ℕ → (ℕ → ℕ) → List SeenGroup → Type 0
CanLift job carried count moved groups = (keeps : Bool) × (is_some carried ≡ true → keeps ≡ true) × AreHung job keeps 0 count moved groups

-- what a fabric has carried, once so many links of a job are lifted, from which so many words were taken
abbrev pub carried_on : Job → ℕ → (ℕ → ℕ) → Carried → Carried
carried_on job count taken carried = option_map (λ words number. if nat_lt number count then words number ++ take (taken number) (script job number) else words number) carried

-- ---- crews

-- the nodes of a job in their groups, before any action and without ends
pub record IsBare (job : Job) (groups : List SeenGroup) : Type 0 where
  pub some : 0 < length groups
  pub nodes : (number : ℕ) (node : Node) → group_node groups number ≡ Some node → IsUnstarted job number node
  pub ends : (number : ℕ) (own : SeenOwn) → own_at groups number ≡ Some own → IsOwnOf job number own
  pub all : (number : ℕ) → number < suc job.checked.board.chips → ((node : Node) × (group_node groups number ≡ Some node)) × ((own : SeenOwn) × (own_at groups number ≡ Some own))

-- the ends of a node: those of the links that reach it keep their words exactly where they are told
pub record IsMarked (job : Job) (told : Bool) (number : ℕ) (marks : Marks) : Type 0 where
  pub same_job : marks.job ≡ job
  pub same_node : marks.node ≡ number
  pub kept : (place : ℕ) (link : Link) → slice_get job.checked.board.links place ≡ Some link → link.to ≡ number → marks.keeps place ≡ told

-- the nodes of a job in their groups, at work: there is each node of the board, and no other, and each has the ends of its links,
-- which keep their words exactly where they are told
pub record IsCrew (job : Job) (told : Bool) (groups : List SeenGroup) : Type 0 where
  pub some : 0 < length groups
  pub work : AllAtWork groups
  pub nodes : (number : ℕ) (node : Node) → group_node groups number ≡ Some node → (number < suc job.checked.board.chips) × (node.share.node ≡ number)
  pub ends : (number : ℕ) (own : SeenOwn) → own_at groups number ≡ Some own → IsMarked job told number (own_marks own)
  pub all : (number : ℕ) → number < suc job.checked.board.chips → ((node : Node) × (group_node groups number ≡ Some node)) × ((own : SeenOwn) × (own_at groups number ≡ Some own))

-- all nodes have finished all clocks
abbrev pub AreThrough : Job → List SeenGroup → Type 0
AreThrough job groups = (number : ℕ) (node : Node) → group_node groups number ≡ Some node → node.clock ≡ length job.rows

-- the nodes are as they were
abbrev pub HasSameNodes : List SeenGroup → List SeenGroup → Type 0
HasSameNodes old new = (number : ℕ) → group_node new number ≡ group_node old number
