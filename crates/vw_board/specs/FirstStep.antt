-- The first step of a shortest walk. Source: this project.
use Rattle.std.specs.Prelude.{◌≡◌, ◌≤◌, ◌+◌, ℕ, IsTrue}
use Rattle.vw_plan.specs.declared.board.Board.{Board}
use Rattle.vw_plan.specs.Walks.{has_link}
use Rattle.vw_plan.specs.Distance.{distance}

-- a link leads to the node, it is one link nearer, and it is the least such node
pub record IsFirstStep (board : Board) (from to node : ℕ) : Type 0 where
  pub linked : IsTrue (has_link board.links from node)
  pub nearer : distance board node to + 1 ≡ distance board from to
  pub least : (other : ℕ) → IsTrue (has_link board.links from other) → distance board other to + 1 ≡ distance board from to → node ≤ other
