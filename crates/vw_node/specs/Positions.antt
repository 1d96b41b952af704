-- How many words of a link were sent or taken by a node, by its position. Source: this project.
use Rattle.std.specs.Prelude.{◌≡◌, ◌+◌, ℕ, Some, length, take, slice_get}
use Rattle.std.specs.List.{count_by}
use Rattle.vw_plan.specs.declared.link.Link.{Link}
use Rattle.vw_prog.specs.declared.job.Job.{Job}
use Rattle.vw_prog.specs.Ends.{SeenEnds}
use Rattle.vw_prog.specs.Scripts.{planned_of, script_before}
use Rattle.vw_prog.specs.Timetable.{entries_at, is_sent, is_taken, timetable}
use Rattle.vw_node.specs.Holding.{HoldsValues}
use Rattle.vw_node.specs.States.{NodeState}

-- the words of the clocks finished, and those of the actions made in the present one
abbrev pub sent_by : Job → ℕ → ℕ → NodeState → ℕ
sent_by job link node state = length (script_before job link state.clock) + count_by (is_sent link) (take state.made (entries_at node (timetable (planned_of job))))

abbrev pub taken_by : Job → ℕ → ℕ → NodeState → ℕ
taken_by job link node state = length (script_before job link state.clock) + count_by (is_taken link) (take state.made (entries_at node (timetable (planned_of job))))

-- the ends of a node's links stand where the node does, and its state keeps what it has to
pub record Agrees (job : Job) (node : ℕ) (state : NodeState) (ends : SeenEnds) : Type 0 where
  pub same_job : ends.job ≡ job
  pub same_node : ends.node ≡ node
  pub sent : (number : ℕ) (link : Link) → slice_get job.checked.board.links number ≡ Some link → link.from ≡ node → ends.sent number ≡ sent_by job number node state
  pub taken : (number : ℕ) (link : Link) → slice_get job.checked.board.links number ≡ Some link → link.to ≡ node → ends.taken number ≡ taken_by job number node state
  pub holds : HoldsValues job node state
