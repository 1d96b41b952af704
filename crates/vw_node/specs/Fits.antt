-- What a node has of its job. Source: this project.
use Rattle.std.specs.Prelude.{◌≡◌, ◌==◌, ℕ, Bool, List, length, take, Option, Some, None, option_map, slice_index_or, false, if◌then◌else◌}
use Rattle.std.specs.List.{All}
use Rattle.vw_prog.specs.declared.job.Job.{Job}
use Rattle.vw_prog.specs.declared.job.Share.{Share}
use Rattle.vw_prog.specs.Actions.{actions}
use Rattle.vw_prog.specs.Codes.{IsCode, net_slot}
use Rattle.vw_prog.specs.Loops.{Stand}
use Rattle.vw_prog.specs.Scripts.{planned_of}
use Rattle.vw_node.specs.declared.node.Node.{Node}
use Rattle.vw_node.specs.Lists.{tabulate}
use Rattle.vw_node.specs.Starts.{net_count}
use Rattle.vw_node.specs.States.{NodeState}

-- a share is that of a job, for its node: the host has the rows
pub record IsShare (job : Job) (share : Share) : Type 0 where
  pub first : share.first ≡ job.first
  pub clocks : share.clocks ≡ length job.rows
  pub checked : share.checked.now ≡ job.checked
  pub start : share.start.now ≡ job.start
  pub rows : option_map (λ rows. rows.now) share.rows ≡ (if share.node == 0 then Some job.rows else None)

-- the bit of a slot in a list
abbrev pub bit_at_slot : List Bool → ℕ → Bool
bit_at_slot bits slot = slice_index_or bits slot false

-- the bit of a slot, where there is one
abbrev pub slot_bit : List Bool → Option ℕ → Bool
slot_bit bits None = false
slot_bit bits (Some slot) = bit_at_slot bits slot

-- the bit of a net, where these are the nets of slots: 0 where it has none
abbrev pub bit_by : List ℕ → List Bool → ℕ → Bool
bit_by nets bits net = slot_bit bits (net_slot nets net)

-- the state of a node: it has written the rows of the clocks that it has finished
abbrev pub state_of : Node → NodeState
state_of node = record { clock = node.clock; made = node.made; slots = tabulate (bit_by node.code.now.nets.items node.slots.items) (net_count node.share); rows = take node.clock node.rows }

-- a node has what it needs for its job: its code, whose shift loops stand as the actions so far have turned them, a slot for each net that it knows, and a row for each clock
pub record FitsJob (job : Job) (node : Node) : Type 0 where
  pub share : IsShare job node.share
  pub code : IsCode (planned_of job) node.share.node (actions (planned_of job) node.share.node) node.code.now
  pub loops : Stand (actions (planned_of job) node.share.node) node.code.now.loops.items node.made node.places.items
  pub slots : length node.slots.items ≡ length node.code.now.nets.items
  pub next : length node.next.items ≡ length node.code.now.latches.items
  pub count : length node.rows ≡ length job.rows
  pub wide : All (λ row. length row ≡ length node.code.now.records.items) node.rows
