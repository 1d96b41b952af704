-- What the state of a node keeps, after any of its actions: slots that are due have the values of the netlist. Source: this
-- project.
use Rattle.std.specs.Prelude.{◌≡◌, ◌<◌, ◌≤◌, ◌+◌, ℕ, length, map, take, IsTrue}
use Rattle.vw_prog.specs.declared.job.Job.{Job}
use Rattle.vw_prog.specs.Due.{is_due, is_source, recorded}
use Rattle.vw_prog.specs.Scripts.{planned_of, value_at}
use Rattle.vw_prog.specs.Timetable.{entries_at, timetable}
use Rattle.vw_node.specs.Lists.{tabulate}
use Rattle.vw_node.specs.States.{NodeState, slot}

pub record HoldsValues (job : Job) (node : ℕ) (state : NodeState) : Type 0 where
  -- it has finished no more clocks than there are, and made no action of a clock that isn't there
  pub within : state.clock ≤ length job.rows
  pub under : state.made ≤ length (entries_at node (timetable (planned_of job)))
  pub ended : state.clock ≡ length job.rows → state.made ≡ 0
  -- a bit for each net
  pub size : length state.slots ≡ job.checked.ordered.flat.inputs + length job.checked.ordered.flat.cells
  -- a slot that is due has the value of its net in the present clock
  pub due : state.clock < length job.rows → (net : ℕ) → IsTrue (is_due (planned_of job) node (take state.made (entries_at node (timetable (planned_of job)))) net) → slot state net ≡ value_at job state.clock net
  -- the slot of a latch of the node has its value at any time, also after the last clock
  pub latched : (net : ℕ) → job.checked.ordered.flat.inputs ≤ net → IsTrue (is_source (planned_of job) node net) → slot state net ≡ value_at job state.clock net
  -- for each clock finished it has the values of what it records
  pub told : state.rows ≡ tabulate (λ clock. map (value_at job clock) (recorded (planned_of job) node)) state.clock
