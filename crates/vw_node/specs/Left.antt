-- How many actions a node has to come. Source: this project.
use Rattle.std.specs.Prelude.{◌-◌, ◌*◌, ℕ, length}
use Rattle.vw_prog.specs.declared.job.Job.{Job}
use Rattle.vw_prog.specs.Actions.{actions}
use Rattle.vw_prog.specs.Scripts.{planned_of}
use Rattle.vw_node.specs.States.{NodeState}

-- those of the clocks to come, and of the present one those that aren't made
abbrev pub left : Job → ℕ → NodeState → ℕ
left job node state = (length job.rows - state.clock) * length (actions (planned_of job) node) - state.made
