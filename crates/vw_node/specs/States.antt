-- The state of a node, and what each action makes of it. Its bits come from its slots and from words, and never from the
-- values that the netlist has. Source: this project.
use Rattle.std.specs.Prelude.{◌+◌, ◌-◌, ◌==◌, ℕ, Bool, false, List, [], ◌∷◌, ◌++◌, length, map, take, slice_get, slice_index_or, slice_set, nat_lt, Option, Some, None, if◌then◌else◌}
use Rattle.vw_net.specs.declared.cell.Cell.{Cell}
use Rattle.vw_net.specs.declared.cell.Cell.TheVariants.{Gate, Latch}
use Rattle.vw_net.specs.Cover.{cover_value}
use Rattle.vw_net.specs.Cells.{latch_count}
use Rattle.vw_plan.specs.Nets.{driving_cell}
use Rattle.vw_plan.specs.PlannedBoard.{PlannedBoard, home}
use Rattle.vw_prog.specs.declared.action.Action.{Action}
use Rattle.vw_prog.specs.declared.job.Job.{Job}
use Rattle.vw_prog.specs.Actions.{actions}
use Rattle.vw_prog.specs.Due.{recorded}
use Rattle.vw_prog.specs.Scripts.{planned_of}
use Rattle.vw_node.specs.Lists.{tabulate}

-- the clocks that it has finished, the actions that it has made in the present one, a bit for each net, and what it has
-- recorded
pub record NodeState : Type 0 where
  pub clock : ℕ
  pub made : ℕ
  pub slots : List Bool
  pub rows : List (List Bool)

-- the bit of a net
abbrev pub slot : NodeState → ℕ → Bool
slot state net = slice_index_or state.slots net false

-- ---- actions

-- an action that changes no slot
abbrev pub moved_on : NodeState → NodeState
moved_on state = record state { made = state.made + 1 }

-- an action that puts a bit into the slot of a net
abbrev pub written : NodeState → ℕ → Bool → NodeState
written state net bit = record state { made = state.made + 1; slots = slice_set state.slots net bit }

-- what a cell makes of these bits: a gate its table's value
abbrev pub gate_bit : (ℕ → Bool) → Option Cell → Bool
gate_bit bits None = false
gate_bit bits (Some (Gate ins cover)) = cover_value cover (map bits ins)
gate_bit bits (Some (Latch d init)) = false

-- a gate is worked out from the node's own slots
abbrev pub evaluated : PlannedBoard → ℕ → NodeState → NodeState
evaluated planned gate state = written state (planned.ordered.flat.inputs + gate) (gate_bit (slot state) (slice_get planned.ordered.flat.cells gate))

-- what a latch takes: the bit of its input
abbrev pub latch_bit : (ℕ → Bool) → Bool → Option Cell → Bool
latch_bit bits own None = own
latch_bit bits own (Some (Gate ins cover)) = own
latch_bit bits own (Some (Latch d init)) = bits d

-- an input takes its bit of the next row, where there is one
abbrev pub input_bit : Option (List Bool) → ℕ → Bool → Bool
input_bit None net own = own
input_bit (Some row) net own = slice_index_or row net false

-- the bit of a net after a step: the host's inputs go on to the next row, and a chip's latches take the bits of their inputs
abbrev pub stepped_bit : Job → ℕ → NodeState → ℕ → Bool
stepped_bit job node state net =
    let planned = planned_of job in
    if home planned net == node
    then (if nat_lt net planned.ordered.flat.inputs then input_bit (slice_get job.rows (state.clock + 1)) net (slot state net) else latch_bit (slot state) (slot state net) (driving_cell planned.ordered.flat net))
    else slot state net

-- a step records, and changes all these slots together
abbrev pub stepped : Job → ℕ → NodeState → NodeState
stepped job node state = record {
  clock = state.clock + 1;
  made = 0;
  slots = tabulate (stepped_bit job node state) (length state.slots);
  rows = state.rows ++ map (slot state) (recorded (planned_of job) node) ∷ [];
}

-- ---- the start, and what comes next

-- the number of a latch among the latches, by its net
abbrev pub latch_number : Job → ℕ → ℕ
latch_number job net = latch_count (take (net - job.checked.ordered.flat.inputs) job.checked.ordered.flat.cells)

-- the start bit of a latch, and no bit of what is none
abbrev pub kept_bit : List Bool → ℕ → Option Cell → Bool
kept_bit start number None = false
kept_bit start number (Some (Gate ins cover)) = false
kept_bit start number (Some (Latch d init)) = slice_index_or start number false

-- at the start the host's inputs have the first row, a chip's latches have their start bits, and all other slots are 0
abbrev pub start_bit : Job → ℕ → ℕ → Bool
start_bit job node net =
    let flat = job.checked.ordered.flat in
    if home (planned_of job) net == node
    then (if nat_lt net flat.inputs then input_bit (slice_get job.rows 0) net false else kept_bit job.start (latch_number job net) (driving_cell flat net))
    else false

abbrev pub start_state : Job → ℕ → NodeState
start_state job node = record {
  clock = 0;
  made = 0;
  slots = tabulate (start_bit job node) (job.checked.ordered.flat.inputs + length job.checked.ordered.flat.cells);
  rows = [];
}

-- the next action of a node, where it isn't done
abbrev pub next_action : Job → ℕ → NodeState → Option Action
next_action job node state = if nat_lt state.clock (length job.rows) then slice_get (actions (planned_of job) node) state.made else None
