-- What nodes that are done have told, on the way to the answer of their job. Source: this project.
use Rattle.std.specs.Prelude.{◌≡◌, ℕ, suc, List, length, map, slice_get, Some}
use Rattle.vw_prog.specs.declared.job.Job.{Job}
use Rattle.vw_prog.specs.Due.{own_latches, recorded}
use Rattle.vw_prog.specs.Scripts.{planned_of, value_at}
use Rattle.vw_node.specs.declared.node.Node.{Node}
use Rattle.vw_node.specs.Fits.{FitsJob, bit_at_slot, state_of}
use Rattle.vw_node.specs.Holding.{HoldsValues}
use Rattle.vw_node.specs.Lists.{tabulate}
use Rattle.vw_node.specs.States.{latch_number}
use Rattle.vw_answer.specs.declared.room.Room.{Room}
use Rattle.vw_answer.specs.Latches.{HasLatches, HaveLatches}

-- a node that has what it needs, keeps what a node keeps over its actions, and has finished all clocks
pub record IsFinished (job : Job) (there : Node) : Type 0 where
  pub fits : FitsJob job there
  pub holds : HoldsValues job there.share.node (state_of there)
  pub clock : there.clock ≡ length job.rows

-- all nodes of a job, by their numbers, each of which is such a one
pub record AreFinished (job : Job) (nodes : List Node) : Type 0 where
  pub count : length nodes ≡ suc job.checked.board.chips
  pub numbers : (node : ℕ) (there : Node) → slice_get nodes node ≡ Some there → there.share.node ≡ node
  pub each : (node : ℕ) (there : Node) → slice_get nodes node ≡ Some there → IsFinished job there

-- the latches of the chips below a number are told
pub record HasTold (job : Job) (done : ℕ) (room : Room) : Type 0 where
  pub latches : HaveLatches job done room.latches
  pub last : HasLatches job (length job.rows) done room.last

-- what a node that is done has: the numbers of its latches, what it had to record, and the last bits of its latches
pub record IsDoneNode (job : Job) (node : ℕ) (there : Node) : Type 0 where
  pub numbers : there.code.now.numbers.items ≡ map (latch_number job) (own_latches (planned_of job) node)
  pub rows : there.rows ≡ tabulate (λ clock. map (value_at job clock) (recorded (planned_of job) node)) (length job.rows)
  pub last : map (bit_at_slot there.slots.items) there.code.now.latches.items ≡ map (value_at job (length job.rows)) (own_latches (planned_of job) node)
