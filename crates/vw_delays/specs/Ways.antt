-- Numbers of microcycles that no walk undercuts. Source: a potential, as in searches for shortest paths.
use Rattle.std.specs.Prelude.{◌≡◌, ◌≤◌, ◌+◌, ℕ, List}
use Rattle.std.specs.List.{All}
use Rattle.vw_plan.specs.declared.link.Link.{Link}

-- a number for each two nodes: 0 from a node to itself, and over a link at most its delay more than from the node that
-- it reaches
pub record AreWays (links : List Link) (way : ℕ → ℕ → ℕ) : Type 0 where
  pub own : (node : ℕ) → way node node ≡ 0
  pub further : (to : ℕ) → All (λ link. way link.from to ≤ link.delay + way link.to to) links
