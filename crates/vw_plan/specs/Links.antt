-- What the links of a board keep. Source: this project.
use Rattle.std.specs.Prelude.{◌≡◌, ◌≢◌, ◌≤◌, ℕ, List}
use Rattle.std.specs.List.{All, AllPairs}
use Rattle.vw_plan.specs.declared.link.Link.{Link}
use Rattle.vw_plan.specs.Walks.{IsReachable}

-- both lead from one node to one other
abbrev pub HaveSameEnds : Link → Link → Type 0
HaveSameEnds link other = (link.from ≡ other.from) × (link.to ≡ other.to)

-- what links keep but for walks; the nodes are 0, the host, and 1 to the number of chips
pub record AreSeparate (chips : ℕ) (links : List Link) : Type 0 where
  -- the ends of a link are nodes
  pub ends : All (λ link. (link.from ≤ chips) × (link.to ≤ chips)) links
  -- no link joins a node to itself
  pub apart : All (λ link. link.from ≢ link.to) links
  -- no two links lead from one node to one other
  pub once : AllPairs (λ link other. ¬ (HaveSameEnds link other)) links
  -- a link has 1 to 64 pins
  pub wide : All (λ link. (1 ≤ link.width) × (link.width ≤ 64)) links
  -- a bit takes 1 to 16 microcycles over a link
  pub timely : All (λ link. (1 ≤ link.delay) × (link.delay ≤ 16)) links

-- and each node has a walk to each other
pub record AreLinks (chips : ℕ) (links : List Link) : Type 0 where
  pub separate : AreSeparate chips links
  pub joined : (from to : ℕ) → from ≤ chips → to ≤ chips → IsReachable links from to
