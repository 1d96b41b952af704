-- How many microcycles a bit takes from one node to another. Source: this project.
use Rattle.std.specs.Prelude.{◌≡◌, ◌≤◌, ◌==◌, ◌+◌, ◌*◌, ℕ, zero, suc, List, [], ◌∷◌, min, sum_by, slice_get, Some, if◌then◌else◌}
use Rattle.vw_plan.specs.declared.link.Link.{Link}
use Rattle.vw_plan.specs.declared.board.Board.{Board}

-- a walk by its links: the first leaves the node where the walk begins, and each other one the node that the one before
-- it reaches
abbrev pub IsPath : List Link → ℕ → List Link → ℕ → Type 0
IsPath links from [] to = from ≡ to
IsPath links from (link ∷ path) to = ((number : ℕ) × (slice_get links number ≡ Some link)) × (link.from ≡ from) × IsPath links link.to path to

-- how many microcycles a bit takes along it
abbrev pub path_delay : List Link → ℕ
path_delay path = sum_by (λ link. link.delay) path

-- a walk takes this many microcycles, and none takes fewer
pub record IsLeastDelay (links : List Link) (from to number : ℕ) : Type 0 where
  pub path : List Link
  pub leads : IsPath links from path to
  pub takes : path_delay path ≡ number
  pub least : (other : List Link) → IsPath links from other to → number ≤ path_delay other

-- the least that a link from a node gives, by its delay and a number of the node that it reaches; at most a limit
abbrev pub nearest : ℕ → List Link → (ℕ → ℕ) → ℕ → ℕ
nearest limit [] number_of from = limit
nearest limit (link ∷ links) number_of from = min (if link.from == from then link.delay + number_of link.to else limit) (nearest limit links number_of from)

-- the least delay from a node to another, counted up to a limit
abbrev pub level_delay : ℕ → List Link → ℕ → ℕ → ℕ
level_delay zero links from to = 0
level_delay (suc limit) links from to = if from == to then 0 else nearest (suc limit) links (λ node. level_delay limit links node to) from

-- the least delay from a node to another. No shortest walk has more links than there are chips, and no link a delay above 16
unfoldable pub least_delay : Board → ℕ → ℕ → ℕ
least_delay board from to = level_delay (16 * board.chips + 1) board.links from to
