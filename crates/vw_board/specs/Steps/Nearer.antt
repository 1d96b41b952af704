-- Nodes that are one link nearer, by a list of distances.
use Rattle.std.specs.Prelude.{◌≡◌, ◌<◌, ◌+◌, ℕ, List, length, slice_index, IsTrue}
use Rattle.vw_plan.specs.declared.link.Link.{Link}
use Rattle.vw_plan.specs.Walks.{has_link}

-- a link leads to the node, and its distance is one less
abbrev pub IsNearer : List Link → List ℕ → ℕ → ℕ → Type 0
IsNearer links distances from node = IsTrue (has_link links from node) × (slice_index distances node + 1 ≡ slice_index distances from)

-- no node before a place is nearer
abbrev pub HasNoneNearer : List Link → List ℕ → ℕ → ℕ → Type 0
HasNoneNearer links distances from place = (node : ℕ) → node < place → ¬ (IsNearer links distances from node)

-- a node is nearer, and none before it is
pub record IsFirstNearer (links : List Link) (distances : List ℕ) (from node : ℕ) : Type 0 where
  pub within : node < length distances
  pub nearer : IsNearer links distances from node
  pub first : HasNoneNearer links distances from node
