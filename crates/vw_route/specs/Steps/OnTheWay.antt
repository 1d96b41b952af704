-- A walk that is under way. Source: this project.
use Rattle.std.specs.Prelude.{◌≡◌, ◌≤◌, ℕ, List, ◌∷◌}
use Rattle.vw_plan.specs.declared.board.Board.{Board}
use Rattle.vw_route.specs.Routes.{GoByFirstSteps}

-- the nodes so far lead by first steps to a node
pub record IsOnTheWay (board : Board) (from to node : ℕ) (nodes : List ℕ) : Type 0 where
  pub rest : List ℕ
  pub begins : nodes ≡ from ∷ rest
  pub steps : GoByFirstSteps board to from rest node
  pub on_board : node ≤ board.chips
