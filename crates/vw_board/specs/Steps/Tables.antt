-- Tables of walks and distances.
use Rattle.std.specs.Prelude.{◌≡◌, ◌≢◌, ◌≤◌, ◌<◌, ◌+◌, ℕ, zero, suc, Bool, false, ◌&&◌, ◌==◌, List, [], length, slice_index, slice_index_or, Option, Some, None, if◌then◌else◌}
use Rattle.std.specs.List.{All, list_any}
use Rattle.std.specs.Option.{option_or}
use Rattle.vw_plan.specs.declared.link.Link.{Link}
use Rattle.vw_plan.specs.declared.board.Board.{Board}
use Rattle.vw_plan.specs.Distance.{distance, has_walk}
use Rattle.vw_board.specs.FirstStep.{IsFirstStep}

-- the first number below a limit that passes a test
abbrev pub first_below : (ℕ → Bool) → ℕ → Option ℕ
first_below test zero = None
first_below test (suc limit) = option_or (first_below test limit) (if test limit then Some limit else None)

-- each link leads from a node to a node
abbrev pub AreNodeLinks : ℕ → List Link → Type 0
AreNodeLinks nodes links = All (λ link. (link.from < nodes) × (link.to < nodes)) links

-- for each node, whether a link leads from it to one of these nodes
pub record IsOneLinkMore (links : List Link) (nodes more : List Bool) : Type 0 where
  pub each : length more ≡ length nodes
  pub leads : (from : ℕ) → from < length nodes → slice_index_or more from false ≡ list_any (λ link. link.from == from && slice_index_or nodes link.to false) links

-- a number of links is noted at each of these nodes that has none yet
pub record Notes (old : List (Option ℕ)) (nodes : List Bool) (count : ℕ) (new : List (Option ℕ)) : Type 0 where
  pub each : length new ≡ length old
  pub noted : (node : ℕ) → node < length old → slice_index_or new node None ≡ option_or (slice_index_or old node None) (if slice_index_or nodes node false then Some count else None)

-- the same at the nodes before one, and no change from it on
pub record NotesBefore (old : List (Option ℕ)) (nodes : List Bool) (count place : ℕ) (new : List (Option ℕ)) : Type 0 where
  pub each : length new ≡ length old
  pub noted : (node : ℕ) → node < place → node < length old → slice_index_or new node None ≡ option_or (slice_index_or old node None) (if slice_index_or nodes node false then Some count else None)
  pub kept : (node : ℕ) → place ≤ node → slice_index_or new node None ≡ slice_index_or old node None

-- for each node, whether a walk of this many links leads from it to a node
pub record HaveWalks (links : List Link) (nodes count to : ℕ) (walks : List Bool) : Type 0 where
  pub each : length walks ≡ nodes
  pub walk : (from : ℕ) → from < nodes → slice_index_or walks from false ≡ has_walk links count from to

-- for each node, the least number of links below a limit of a walk that leads from it to a node
pub record HaveLeast (links : List Link) (nodes limit to : ℕ) (least : List (Option ℕ)) : Type 0 where
  pub each : length least ≡ nodes
  pub number : (from : ℕ) → from < nodes → slice_index_or least from None ≡ first_below (λ count. has_walk links count from to) limit

-- one list for each node that is led to
pub record AreLeast (links : List Link) (nodes : ℕ) (lists : List (List (Option ℕ))) : Type 0 where
  pub each : length lists ≡ nodes
  pub least : (to : ℕ) → to < nodes → HaveLeast links nodes nodes to (slice_index_or lists to [])

-- the lists of the nodes before one
pub record AreLeastSoFar (links : List Link) (chips place : ℕ) (lists : List (List (Option ℕ))) : Type 0 where
  pub each : length lists ≡ place
  pub least : (to : ℕ) → to < place → HaveLeast links (chips + 1) (chips + 1) to (slice_index_or lists to [])

-- for each node, its distance to a node
pub record AreDistances (board : Board) (to : ℕ) (distances : List ℕ) : Type 0 where
  pub each : length distances ≡ board.chips + 1
  pub number : (from : ℕ) → from ≤ board.chips → slice_index distances from ≡ distance board from to

-- the distances of the nodes before one
pub record DistancesSoFar (board : Board) (to place : ℕ) (distances : List ℕ) : Type 0 where
  pub each : length distances ≡ place
  pub number : (from : ℕ) → from < place → slice_index distances from ≡ distance board from to

-- for each node but this one, the first step to it
pub record AreFirstSteps (board : Board) (to : ℕ) (steps : List ℕ) : Type 0 where
  pub each : length steps ≡ board.chips + 1
  pub step : (from : ℕ) → from ≤ board.chips → from ≢ to → IsFirstStep board from to (slice_index steps from)

-- the steps of the nodes before one
pub record StepsSoFar (board : Board) (to place : ℕ) (steps : List ℕ) : Type 0 where
  pub each : length steps ≡ place
  pub step : (from : ℕ) → from < place → from ≢ to → IsFirstStep board from to (slice_index steps from)

-- one list for each node that is led to
pub record AreDistanceTables (board : Board) (distances steps : List (List ℕ)) : Type 0 where
  pub distance_lists : length distances ≡ board.chips + 1
  pub step_lists : length steps ≡ board.chips + 1
  pub are_distances : (to : ℕ) → to ≤ board.chips → AreDistances board to (slice_index_or distances to [])
  pub are_steps : (to : ℕ) → to ≤ board.chips → AreFirstSteps board to (slice_index_or steps to [])

-- the lists of the nodes before one
pub record TableSoFar (board : Board) (place : ℕ) (distances steps : List (List ℕ)) : Type 0 where
  pub distance_lists : length distances ≡ place
  pub step_lists : length steps ≡ place
  pub are_distances : (to : ℕ) → to < place → AreDistances board to (slice_index_or distances to [])
  pub are_steps : (to : ℕ) → to < place → AreFirstSteps board to (slice_index_or steps to [])
