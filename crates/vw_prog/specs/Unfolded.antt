-- The actions that a code stands for. Source: this project.
use Rattle.std.specs.Prelude.{◌==◌, ◌-◌, ℕ, suc, List, [], ◌∷◌, ◌++◌, slice_get, slice_index_or, Option, Some, None, if◌then◌else◌}
use Rattle.vw_prog.specs.declared.action.Action.{Action}
use Rattle.vw_prog.specs.declared.action.Action.TheVariants as action
use Rattle.vw_prog.specs.declared.code.Code.{Code}
use Rattle.vw_prog.specs.declared.code.Op.{Op}
use Rattle.vw_prog.specs.declared.code.Op.TheVariants as op
use Rattle.vw_prog.specs.declared.code.WideGate.{WideGate}
use Rattle.vw_prog.specs.declared.shift.ShiftLoop.{ShiftLoop}
use Rattle.vw_prog.specs.Loops.{loop_nets}

-- how often ops turn a loop
abbrev pub turns_of : ℕ → List Op → ℕ
turns_of place [] = 0
turns_of place (op.Run first end slot ∷ ops) = turns_of place ops
turns_of place (op.Wide gate ∷ ops) = turns_of place ops
turns_of place (op.Send own ∷ ops) = if own == place then suc (turns_of place ops) else turns_of place ops
turns_of place (op.Take link pin slot ∷ ops) = turns_of place ops
turns_of place (op.Step ∷ ops) = turns_of place ops

-- the net at a place of a loop, and net 0 past the end
abbrev pub loop_net : ShiftLoop → ℕ → ℕ
loop_net one place = slice_index_or (loop_nets one) place 0

-- the send of a loop that was turned so often
abbrev pub send_of : Option ShiftLoop → ℕ → Action
send_of None turns = action.Step
send_of (Some one) turns = action.Send one.link one.pin (loop_net one turns)

-- the cell number of a wide gate
abbrev pub wide_number : Option WideGate → ℕ
wide_number None = 0
wide_number (Some gate) = gate.number

-- the action of an op behind others, in a netlist with so many inputs. The net of a gate is that of its slot.
abbrev pub action_by : ℕ → Code → List Op → Op → Action
action_by inputs code before (op.Run first end slot) = action.Evaluate (slice_index_or code.nets.items slot 0 - inputs)
action_by inputs code before (op.Wide place) = action.Evaluate (wide_number (slice_get code.wide.items place))
action_by inputs code before (op.Send place) = send_of (slice_get code.loops.items place) (turns_of place before)
action_by inputs code before (op.Take link pin slot) = action.Take link pin (slice_index_or code.nets.items slot 0)
action_by inputs code before op.Step = action.Step

-- the actions of ops behind others
abbrev pub actions_from : ℕ → Code → List Op → List Op → List Action
actions_from inputs code before [] = []
actions_from inputs code before (one ∷ ops) = action_by inputs code before one ∷ actions_from inputs code (before ++ one ∷ []) ops

-- the actions of a code for one clock
abbrev pub unfolded : ℕ → Code → List Action
unfolded inputs code = actions_from inputs code [] code.ops.items
