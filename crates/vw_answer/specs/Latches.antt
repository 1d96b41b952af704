-- Rows of all latches, filled by the nodes of the latches one after the other. Source: this project.
use Rattle.std.specs.Prelude.{◌≡◌, ◌<◌, ℕ, List, Bool, false, [], ◌∷◌, length, slice_index_or, slice_set, IsTrue}
use Rattle.vw_net.specs.Cells.{latch_count}
use Rattle.vw_net.specs.Order.{is_latch}
use Rattle.vw_plan.specs.Nets.{driving_cell}
use Rattle.vw_plan.specs.PlannedBoard.{home}
use Rattle.vw_prog.specs.declared.job.Job.{Job}
use Rattle.vw_prog.specs.Scripts.{planned_of, value_at}
use Rattle.vw_node.specs.States.{latch_number}

-- a row with these bits at these numbers
abbrev pub with_latches : List ℕ → List Bool → List Bool → List Bool
with_latches [] bits row = row
with_latches (number ∷ numbers) [] row = row
with_latches (number ∷ numbers) (bit ∷ bits) row = with_latches numbers bits (slice_set row number bit)

-- the value of each latch of a clock stands in a row, as far as the latch's node is below a number. The clock behind the last
-- one is the end of the job
pub record HasLatches (job : Job) (clock done : ℕ) (row : List Bool) : Type 0 where
  pub wide : length row ≡ latch_count job.checked.ordered.flat.cells
  pub right : (net : ℕ) → IsTrue (is_latch (driving_cell job.checked.ordered.flat net)) → home (planned_of job) net < done → slice_index_or row (latch_number job net) false ≡ value_at job clock net

-- the same in the row of each clock
pub record HaveLatches (job : Job) (done : ℕ) (rows : List (List Bool)) : Type 0 where
  pub count : length rows ≡ length job.rows
  pub each : (clock : ℕ) → clock < length rows → HasLatches job clock done (slice_index_or rows clock [])
