-- Walks over links. Source: this project.
use Rattle.std.specs.Prelude.{◌≡◌, ◌==◌, ℕ, Bool, ◌&&◌, List, [], ◌∷◌, IsTrue}
use Rattle.std.specs.List.{list_any}
use Rattle.vw_plan.specs.declared.link.Link.{Link}

-- whether a link leads from one node to another
abbrev pub has_link : List Link → ℕ → ℕ → Bool
has_link links from to = list_any (λ link. link.from == from && link.to == to) links

-- a walk: a link leads from the node to the first of these nodes, and from each of them to the next; the last of them
-- is the node where the walk ends. It has as many links as nodes are listed
abbrev pub IsWalk : List Link → ℕ → List ℕ → ℕ → Type 0
IsWalk links from [] to = from ≡ to
IsWalk links from (node ∷ nodes) to = IsTrue (has_link links from node) × IsWalk links node nodes to

-- some walk leads from one node to another
abbrev pub IsReachable : List Link → ℕ → ℕ → Type 0
IsReachable links from to = ∥ ((nodes : List ℕ) × IsWalk links from nodes to) ∥₁
