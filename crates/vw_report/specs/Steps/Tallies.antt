-- How often numbers stand in a list.
use Rattle.std.specs.Prelude.{◌≡◌, ◌==◌, ◌<◌, ℕ, List, length, count_by, slice_index}
use Rattle.vw_plan.specs.PlannedBoard.{PlannedBoard}
use Rattle.vw_report.specs.Counts.{hops_over}

-- it has for each number below a limit how often it stands in a list
pub record AreTallies (numbers : List ℕ) (limit : ℕ) (counts : List ℕ) : Type 0 where
  pub each : length counts ≡ limit
  pub often : (number : ℕ) → number < limit → slice_index counts number ≡ count_by (λ one. one == number) numbers

-- it has the hops over each link
pub record AreHopCounts (planned : PlannedBoard) (counts : List ℕ) : Type 0 where
  pub each : length counts ≡ length planned.board.links
  pub hops : (number : ℕ) → number < length planned.board.links → slice_index counts number ≡ hops_over planned number
