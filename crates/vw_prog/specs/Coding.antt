-- How the code of a node is made, step by step. No public clause cites it.
use Rattle.std.specs.Prelude.{◌≡◌, ◌<◌, ◌-◌, ◌+◌, ◌^◌, ◌==◌, ◌&&◌, ◌≤◌, ℕ, not, List, [], ◌∷◌, ◌++◌, length, map, min, take, slice_get, slice_index_or, slice_set, nat_le, nat_lt, unwrap_or, count_by, Option, Some, None, IsTrue, true, if◌then◌else◌}
use Rattle.std.specs.Global.{Vec}
use Rattle.std.specs.List.{range_with_len}
use Rattle.std.specs.Option.{is_some}
use Rattle.vw_net.specs.declared.cell.Cell.{Cell}
use Rattle.vw_net.specs.declared.cell.Cell.TheVariants.{Gate, Latch}
use Rattle.vw_net.specs.declared.flat.Flat.{Flat}
use Rattle.vw_net.specs.Cells.{latch_count}
use Rattle.vw_net.specs.TruthTable.{truth_table as truth_table_of}
use Rattle.vw_plan.specs.Nets.{driving_cell}
use Rattle.vw_prog.specs.declared.action.Action.{Action}
use Rattle.vw_prog.specs.declared.action.Action.TheVariants as action
use Rattle.vw_prog.specs.declared.code.Code.{Code}
use Rattle.vw_prog.specs.declared.code.Op.{Op}
use Rattle.vw_prog.specs.declared.code.Op.TheVariants as op
use Rattle.vw_prog.specs.declared.gates.PaddedGate.{PaddedGate}
use Rattle.vw_prog.specs.declared.code.WideGate.{WideGate}
use Rattle.vw_prog.specs.declared.entry.Entry.{Entry}
use Rattle.vw_prog.specs.declared.owners.OwnLatch.{OwnLatch}
use Rattle.vw_prog.specs.declared.shift.LoopNet.{LoopNet}
use Rattle.vw_prog.specs.declared.shift.ShiftLoop.{ShiftLoop}
use Rattle.vw_prog.specs.Actions.{action_of}
use Rattle.vw_prog.specs.Codes.{net_slot, taken_net}
use Rattle.vw_prog.specs.Loops.{is_of, loop_place}
use Rattle.vw_prog.specs.SeenGates.{AreNarrowed}

-- ---- slots

-- what a table has for a net without a slot
abbrev pub no_slot : ℕ
no_slot = 4294967295

-- a net below a count gets the next slot, where it has none
abbrev pub named : ℕ → List ℕ → ℕ → List ℕ
named count nets net = if nat_lt net count && not (is_some (net_slot nets net)) then nets ++ net ∷ [] else nets

abbrev pub named_all : ℕ → List ℕ → List ℕ → List ℕ
named_all count nets [] = nets
named_all count nets (net ∷ more) = named_all count (named count nets net) more

-- a table has the slot of each net, and so many places are free
pub record IsTable (nets table : List ℕ) : Type 0 where
  pub slots : (net : ℕ) → net < length table → slice_index_or table net 0 ≡ unwrap_or (net_slot nets net) no_slot
  pub free : length nets + count_by (λ slot. slot == no_slot) table ≡ length table

-- a table without the slots of some nets
abbrev pub cleared : List ℕ → List ℕ → List ℕ
cleared [] table = table
cleared (net ∷ nets) table = cleared nets (if nat_lt net (length table) then slice_set table net no_slot else table)

abbrev pub slot_in : List ℕ → ℕ → ℕ
slot_in table net = slice_index_or table net 0

-- the nets that the actions of a node give their values
abbrev pub gate_nets : ℕ → List Action → List ℕ
gate_nets inputs [] = []
gate_nets inputs (action.Evaluate number ∷ actions) = min (inputs + number) (2 ^ 32 - 1) ∷ gate_nets inputs actions
gate_nets inputs (action.Send link pin net ∷ actions) = gate_nets inputs actions
gate_nets inputs (action.Take link pin net ∷ actions) = gate_nets inputs actions
gate_nets inputs (action.Step ∷ actions) = gate_nets inputs actions

abbrev pub take_nets : List Action → List ℕ
take_nets [] = []
take_nets (action.Evaluate number ∷ actions) = take_nets actions
take_nets (action.Send link pin net ∷ actions) = take_nets actions
take_nets (action.Take link pin net ∷ actions) = net ∷ take_nets actions
take_nets (action.Step ∷ actions) = take_nets actions

-- ---- gates

-- the slot of the net at a place, and 0 past the end
abbrev pub read_at : List ℕ → Option ℕ → ℕ
read_at table None = 0
read_at table (Some net) = slot_in table net

abbrev pub table_gate : List ℕ → List ℕ → ℕ → ℕ → PaddedGate
table_gate table ins inputs truth_table = record {
  reads = read_at table (slice_get ins 0) ∷ read_at table (slice_get ins 1) ∷ read_at table (slice_get ins 2) ∷ read_at table (slice_get ins 3) ∷ read_at table (slice_get ins 4) ∷ read_at table (slice_get ins 5) ∷ [];
  inputs = inputs;
  truth_table = truth_table;
}

abbrev pub wide_gate : List ℕ → ℕ → ℕ → List ℕ → WideGate
wide_gate table number net ins = record { number = number; reads = map (slot_in table) ins; target = slot_in table net }

-- what a cell adds to the gates of a code, and the op for it
abbrev pub cell_gates : ℕ → List ℕ → ℕ → Option Cell → List PaddedGate
cell_gates inputs table number None = []
cell_gates inputs table number (Some (Gate ins cover)) = if nat_le cover.inputs 6 then table_gate table ins cover.inputs (truth_table_of cover) ∷ [] else []
cell_gates inputs table number (Some (Latch d init)) = []

abbrev pub cell_wide : ℕ → List ℕ → ℕ → Option Cell → List WideGate
cell_wide inputs table number None = []
cell_wide inputs table number (Some (Gate ins cover)) = if nat_le cover.inputs 6 then [] else wide_gate table number (inputs + number) ins ∷ []
cell_wide inputs table number (Some (Latch d init)) = []

abbrev pub cell_op : ℕ → ℕ → ℕ → Option Cell → Op
cell_op slot first place None = op.Step
cell_op slot first place (Some (Gate ins cover)) = if nat_le cover.inputs 6 then op.Run first (first + 1) slot else op.Wide place
cell_op slot first place (Some (Latch d init)) = op.Step

-- ---- loops

-- loops with a net more, behind those of its pin
abbrev pub with_net : ℕ → ℕ → LoopNet → List ShiftLoop → List ShiftLoop
with_net link pin item [] = record { link = link; pin = pin; nets = item ∷ [] } ∷ []
with_net link pin item (one ∷ loops) = if is_of link pin one then record one { nets = one.nets ++ item ∷ [] } ∷ loops else one ∷ with_net link pin item loops

-- loops with the net of an action more, and with those of actions
abbrev pub action_loops : List ℕ → Action → List ShiftLoop → List ShiftLoop
action_loops table (action.Evaluate number) loops = loops
action_loops table (action.Send link pin net) loops = with_net link pin (record { net = net; slot = slot_in table net }) loops
action_loops table (action.Take link pin net) loops = loops
action_loops table action.Step loops = loops

abbrev pub all_loops : List ℕ → List ShiftLoop → List Action → List ShiftLoop
all_loops table loops [] = loops
all_loops table loops (one ∷ actions) = all_loops table (action_loops table one loops) actions

-- ---- actions

-- the actions of entries, and then a step
abbrev pub program_of : ℕ → List Entry → List Action
program_of inputs entries = map (action_of inputs) entries ++ action.Step ∷ []

abbrev pub action_gates : Flat → List ℕ → Action → List PaddedGate
action_gates flat table (action.Evaluate number) = cell_gates flat.inputs table number (slice_get flat.cells number)
action_gates flat table (action.Send link pin net) = []
action_gates flat table (action.Take link pin net) = []
action_gates flat table action.Step = []

abbrev pub action_wide : Flat → List ℕ → Action → List WideGate
action_wide flat table (action.Evaluate number) = cell_wide flat.inputs table number (slice_get flat.cells number)
action_wide flat table (action.Send link pin net) = []
action_wide flat table (action.Take link pin net) = []
action_wide flat table action.Step = []

abbrev pub action_op : Flat → List ℕ → ℕ → ℕ → List ShiftLoop → Action → Op
action_op flat table first place loops (action.Evaluate number) = cell_op (slot_in table (min (flat.inputs + number) (2 ^ 32 - 1))) first place (slice_get flat.cells number)
action_op flat table first place loops (action.Send link pin net) = op.Send (loop_place link pin loops)
action_op flat table first place loops (action.Take link pin net) = op.Take link pin (slot_in table net)
action_op flat table first place loops action.Step = op.Step

-- the gates and the ops of actions, behind so many gates, and with these loops before
abbrev pub all_gates : Flat → List ℕ → List Action → List PaddedGate
all_gates flat table [] = []
all_gates flat table (one ∷ actions) = action_gates flat table one ++ all_gates flat table actions

abbrev pub all_wide : Flat → List ℕ → List Action → List WideGate
all_wide flat table [] = []
all_wide flat table (one ∷ actions) = action_wide flat table one ++ all_wide flat table actions

abbrev pub all_ops : Flat → List ℕ → ℕ → ℕ → List ShiftLoop → List Action → List Op
all_ops flat table first place loops [] = []
all_ops flat table first place loops (one ∷ actions) = action_op flat table first place loops one ∷ all_ops flat table (first + length (action_gates flat table one)) (place + length (action_wide flat table one)) (action_loops table one loops) actions

-- a run that goes on with the next one
abbrev pub joined_op : Op → Option Op → Op
joined_op one None = one
joined_op (op.Run first end slot) (Some (op.Run next last its)) = if next == end then (if its == slot + 1 then op.Run first last slot else op.Run first end slot) else op.Run first end slot
joined_op one (Some other) = one

abbrev pub joined_ops : List Op → List Op
joined_ops [] = []
joined_ops (one ∷ ops) = let rest = joined_ops ops in joined_op one (slice_get rest 0) ∷ rest

-- ---- latches

-- a latch, what it takes and its number, by its net
abbrev pub own_latch : Flat → ℕ → OwnLatch
own_latch flat net = record { net = net; taken = taken_net (driving_cell flat net); number = latch_count (take (net - flat.inputs) flat.cells) }

abbrev pub owned_of : List (Vec OwnLatch) → List (List OwnLatch)
owned_of lists = map (λ list. list.items) lists

-- ---- codes

-- the nets that a node knows: the inputs where it is the host, its latches, its gates in order, and what it takes
abbrev pub known_nets : ℕ → ℕ → List OwnLatch → List Action → List ℕ
known_nets inputs node own actions =
    (if node == 0 then range_with_len 0 inputs else []) ++ map (λ latch. latch.net) own ++ gate_nets inputs actions ++ take_nets actions

abbrev pub record_slots : Flat → ℕ → List OwnLatch → List ℕ → List ℕ
record_slots flat node own table = if node == 0 then map (slot_in table) flat.outputs else map (λ latch. slot_in table latch.net) own

-- a code that was made for the entries and latches of a node, in a netlist with so many nets
pub record IsCodeOf (flat : Flat) (node : ℕ) (own : List OwnLatch) (entries : List Entry) (count : ℕ) (code : Code) : Type 0 where
  pub table : List ℕ
  pub is : IsTable code.nets.items table
  pub long : length table ≡ count
  pub nets : code.nets.items ≡ named_all count [] (known_nets flat.inputs node own (program_of flat.inputs entries))
  pub ops : code.ops.items ≡ joined_ops (all_ops flat table 0 0 [] (program_of flat.inputs entries))
  pub loops : code.loops.items ≡ all_loops table [] (program_of flat.inputs entries)
  pub gates : AreNarrowed (all_gates flat table (program_of flat.inputs entries)) code.gates
  pub wide : code.wide.items ≡ all_wide flat table (program_of flat.inputs entries)
  pub records : code.records.items ≡ record_slots flat node own table
  pub latches : code.latches.items ≡ map (λ latch. slot_in table latch.net) own
  pub inputs : code.inputs.items ≡ map (λ latch. slot_in table latch.taken) own
  pub numbers : code.numbers.items ≡ map (λ latch. latch.number) own
