-- The walks that wires take. Source: this project.
use Rattle.std.specs.Prelude.{◌≡◌, ℕ, List, [], ◌∷◌, length}
use Rattle.vw_plan.specs.declared.board.Board.{Board}
use Rattle.vw_plan.specs.Walks.{IsWalk}
use Rattle.vw_plan.specs.Distance.{distance}
use Rattle.vw_board.specs.FirstStep.{IsFirstStep}

-- each of the nodes, behind a node, is the first step from the one before it towards a node; the last of them is the end
abbrev pub GoByFirstSteps : Board → ℕ → ℕ → List ℕ → ℕ → Type 0
GoByFirstSteps board to from [] end = from ≡ end
GoByFirstSteps board to from (node ∷ nodes) end = IsFirstStep board from to node × GoByFirstSteps board to node nodes end

-- the nodes of a walk from a node to another, both included, with the least number of links
pub record IsLeastWalk (board : Board) (from to : ℕ) (nodes : List ℕ) : Type 0 where
  pub rest : List ℕ
  pub begins : nodes ≡ from ∷ rest
  pub walk : IsWalk board.links from rest to
  pub count : length rest ≡ distance board from to

-- the nodes of a walk from a node to another, both included. It has the least number of links, and goes by first steps
pub record IsRouteBySteps (board : Board) (from to : ℕ) (nodes : List ℕ) : Type 0 where
  pub rest : List ℕ
  pub begins : nodes ≡ from ∷ rest
  pub walk : IsWalk board.links from rest to
  pub count : length rest ≡ distance board from to
  pub steps : GoByFirstSteps board to from rest to
