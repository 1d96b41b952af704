-- The form in which the actions of a node run: the bits of nets are in slots, and each gate has the slots that it reads.
-- Source: this project.
use Rattle.std.specs.Prelude.{◌≡◌, ◌<◌, ◌≤◌, ◌-◌, ◌+◌, ℕ, suc, true, List, [], ◌∷◌, ◌++◌, length, map, take, slice_get, Option, Some, None, option_map, IsTrue, if◌then◌else◌, ◌==◌}
use Rattle.std.specs.List.{All}
use Rattle.vw_net.specs.declared.cell.Cell.{Cell}
use Rattle.vw_net.specs.declared.cell.Cell.TheVariants.{Gate, Latch}
use Rattle.vw_net.specs.declared.cover.Cover.{Cover}
use Rattle.vw_net.specs.declared.flat.Flat.{Flat}
use Rattle.vw_net.specs.Cells.{latch_count}
use Rattle.vw_net.specs.TruthTable.{truth_table as truth_table_of}
use Rattle.vw_plan.specs.Nets.{driving_cell}
use Rattle.vw_plan.specs.PlannedBoard.{PlannedBoard}
use Rattle.vw_prog.specs.declared.action.Action.{Action}
use Rattle.vw_prog.specs.declared.action.Action.TheVariants as action
use Rattle.vw_prog.specs.declared.code.Code.{Code}
use Rattle.vw_prog.specs.declared.code.Op.{Op}
use Rattle.vw_prog.specs.declared.code.Op.TheVariants as op
use Rattle.vw_prog.specs.declared.code.WideGate.{WideGate}
use Rattle.vw_prog.specs.declared.shift.ShiftLoop.{ShiftLoop}
use Rattle.vw_prog.specs.Due.{is_source, own_latches, recorded}
use Rattle.vw_prog.specs.Loops.{AreLoops}
use Rattle.vw_prog.specs.SeenGates.{SeenGate, seen_gates}

-- the slot of a net: its first place among the nets of slots
abbrev pub net_slot : List ℕ → ℕ → Option ℕ
net_slot [] net = None
net_slot (first ∷ nets) net = if first == net then Some 0 else option_map suc (net_slot nets net)

abbrev pub HasSlot : List ℕ → ℕ → Type 0
HasSlot nets net = (slot : ℕ) × (net_slot nets net ≡ Some slot)

-- the gate with a cell number by its truth table, with the slots of its inputs, and then any others that there are; and its own slot
pub record IsTableGate (flat : Flat) (nets : List ℕ) (number : ℕ) (gate : SeenGate) (slot : ℕ) : Type 0 where
  pub ins : List ℕ
  pub cover : Cover
  pub cell : slice_get flat.cells number ≡ Some (Gate ins cover)
  pub own : List ℕ
  pub more : List ℕ
  pub few : length gate.reads ≤ 6
  pub reads : gate.reads ≡ own ++ more
  pub slots : map (net_slot nets) ins ≡ map Some own
  pub within : All (λ read. read < length nets) gate.reads
  pub truth_table : gate.truth_table ≡ truth_table_of cover
  pub target : net_slot nets (flat.inputs + number) ≡ Some slot

-- the gate with a cell number by its rows, with the slots of its inputs
pub record IsWideGate (flat : Flat) (nets : List ℕ) (number : ℕ) (gate : WideGate) : Type 0 where
  pub ins : List ℕ
  pub cover : Cover
  pub cell : slice_get flat.cells number ≡ Some (Gate ins cover)
  pub same : gate.number ≡ number
  pub slots : map (net_slot nets) ins ≡ map Some gate.reads
  pub target : net_slot nets (flat.inputs + number) ≡ Some gate.target

-- an op does this action first
abbrev pub BeginsWithAction : Flat → Code → Action → Op → Type 0
BeginsWithAction flat code (action.Evaluate number) (op.Run first end slot) = (first < end) × (gate : SeenGate) × (slice_get (seen_gates code.gates) first ≡ Some gate) × IsTableGate flat code.nets.items number gate slot
BeginsWithAction flat code (action.Evaluate number) (op.Wide place) = (gate : WideGate) × (slice_get code.wide.items place ≡ Some gate) × IsWideGate flat code.nets.items number gate
BeginsWithAction flat code (action.Send link pin net) (op.Send place) = (one : ShiftLoop) × (slice_get code.loops.items place ≡ Some one) × (one.link ≡ link) × (one.pin ≡ pin)
BeginsWithAction flat code (action.Take link pin net) (op.Take its_link its_pin slot) = (its_link ≡ link) × (its_pin ≡ pin) × (net_slot code.nets.items net ≡ Some slot)
BeginsWithAction flat code action.Step op.Step = IsTrue true
BeginsWithAction flat code one other = ⊥

-- the net that a latch takes its next bit from
abbrev pub taken_net : Option Cell → ℕ
taken_net None = 0
taken_net (Some (Gate ins cover)) = 0
taken_net (Some (Latch d init)) = d

-- a code for the actions of a node
pub record IsCode (planned : PlannedBoard) (node : ℕ) (program : List Action) (code : Code) : Type 0 where
  -- an op for each action
  pub count : length code.ops.items ≡ length program
  pub begins : (place : ℕ) (action : Action) → slice_get program place ≡ Some action
      → (one : Op) × (slice_get code.ops.items place ≡ Some one) × BeginsWithAction planned.ordered.flat code action one
  -- a run of more gates than one goes on at the next action and the next slot
  pub runs : (place first end slot : ℕ) → slice_get code.ops.items place ≡ Some (op.Run first end slot) → first + 1 < end → slice_get code.ops.items (place + 1) ≡ Some (op.Run (first + 1) end (slot + 1))
  -- a loop for each pin that is sent over; and the slots of its nets
  pub loops : AreLoops program code.loops.items
  pub sends : (place : ℕ) (one : ShiftLoop) → slice_get code.loops.items place ≡ Some one → All (λ item. net_slot code.nets.items item.net ≡ Some item.slot) one.nets
  -- the inputs and latches of the node have slots, and the host's inputs the first ones
  pub sources : (net : ℕ) → IsTrue (is_source planned node net) → HasSlot code.nets.items net
  pub host : node ≡ 0 → (net : ℕ) → net < planned.ordered.flat.inputs → net_slot code.nets.items net ≡ Some net
  -- the slots of what it records, of its latches, and of what these take; and the numbers of these
  pub records : map (net_slot code.nets.items) (recorded planned node) ≡ map Some code.records.items
  pub latches : map (net_slot code.nets.items) (own_latches planned node) ≡ map Some code.latches.items
  pub inputs : map (λ net. net_slot code.nets.items (taken_net (driving_cell planned.ordered.flat net))) (own_latches planned node) ≡ map Some code.inputs.items
  pub numbers : code.numbers.items ≡ map (λ net. latch_count (take (net - planned.ordered.flat.inputs) planned.ordered.flat.cells)) (own_latches planned node)
