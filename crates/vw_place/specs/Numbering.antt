-- Numbering the chips of a placement anew. Source: this project.
use Rattle.std.specs.Prelude.{◌≡◌, ◌≤◌, ℕ, List, map}
use Rattle.vw_plan.specs.declared.board.Board.{Board}

-- each node has another number, one to one, and there is a way back; the host, node 0, keeps its number
pub record IsNumbering (chips : ℕ) (to from : ℕ → ℕ) : Type 0 where
  pub host : to 0 ≡ 0
  pub there : (node : ℕ) → from (to node) ≡ node
  pub back : (node : ℕ) → to (from node) ≡ node
  -- nodes of the board become nodes of the board, on the way back too
  pub nodes : (node : ℕ) → node ≤ chips → to node ≤ chips
  pub old_nodes : (node : ℕ) → node ≤ chips → from node ≤ chips

-- a placement is another one with its chips numbered anew
pub record IsRenumbered (board : Board) (chip_of new : List ℕ) : Type 0 where
  pub to : ℕ → ℕ
  pub from : ℕ → ℕ
  pub numbering : IsNumbering board.chips to from
  pub moved : new ≡ map to chip_of
