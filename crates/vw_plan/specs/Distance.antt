-- How far a node is from another: the least number of links of a walk. Source: this project.
use Rattle.std.specs.Prelude.{◌≡◌, ◌≤◌, ◌==◌, ℕ, zero, suc, Bool, ◌&&◌, List, length, if◌then◌else◌}
use Rattle.std.specs.List.{list_any}
use Rattle.vw_plan.specs.declared.link.Link.{Link}
use Rattle.vw_plan.specs.declared.board.Board.{Board}
use Rattle.vw_plan.specs.Walks.{IsWalk}

-- a walk has this many links, and none has fewer
pub record IsDistance (links : List Link) (from to number : ℕ) : Type 0 where
  pub nodes : List ℕ
  pub walk : IsWalk links from nodes to
  pub count : length nodes ≡ number
  pub least : (others : List ℕ) → IsWalk links from others to → number ≤ length others

-- whether a walk of this many links leads from a node to another
abbrev pub has_walk : List Link → ℕ → ℕ → ℕ → Bool
has_walk links zero from to = from == to
has_walk links (suc count) from to = list_any (λ link. link.from == from && has_walk links count link.to to) links

-- the least number that passes a test, of those below a limit; where none does, the limit
abbrev pub least : (ℕ → Bool) → ℕ → ℕ
least test zero = 0
least test (suc limit) = if test 0 then 0 else suc (least (λ number. test (suc number)) limit)

-- no walk needs more links than there are chips
unfoldable pub distance : Board → ℕ → ℕ → ℕ
distance board from to = least (λ count. has_walk board.links count from to) board.chips
