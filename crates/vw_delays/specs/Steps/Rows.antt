-- For each node, its delay to a node.
use Rattle.std.specs.Prelude.{◌≡◌, ◌≤◌, ◌<◌, ◌+◌, ℕ, List, [], length, slice_index, slice_index_or}
use Rattle.std.specs.List.{All}
use Rattle.vw_plan.specs.declared.link.Link.{Link}
use Rattle.vw_plan.specs.declared.board.Board.{Board}
use Rattle.vw_delays.specs.Delays.{level_delay, least_delay}

-- each link leads to a node, and takes at most 16 microcycles
abbrev pub AreShortLinks : ℕ → List Link → Type 0
AreShortLinks nodes links = All (λ link. (link.to < nodes) × (link.delay ≤ 16)) links

-- the delays of the nodes before one, counted up to a limit
pub record DelaysSoFar (links : List Link) (limit to place : ℕ) (row : List ℕ) : Type 0 where
  pub each : length row ≡ place
  pub number : (from : ℕ) → from < place → slice_index row from ≡ level_delay limit links from to

-- for each node, its least delay to a node
pub record AreLeastDelays (board : Board) (to : ℕ) (row : List ℕ) : Type 0 where
  pub each : length row ≡ board.chips + 1
  pub number : (from : ℕ) → from ≤ board.chips → slice_index row from ≡ least_delay board from to

-- one row for each node that is led to
pub record AreDelayRows (board : Board) (rows : List (List ℕ)) : Type 0 where
  pub each : length rows ≡ board.chips + 1
  pub row : (to : ℕ) → to ≤ board.chips → AreLeastDelays board to (slice_index_or rows to [])

-- the rows of the nodes before one
pub record RowsSoFar (board : Board) (place : ℕ) (rows : List (List ℕ)) : Type 0 where
  pub each : length rows ≡ place
  pub row : (to : ℕ) → to < place → AreLeastDelays board to (slice_index_or rows to [])
