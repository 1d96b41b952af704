-- The items of each node of an emitted board, in their order. Source: this project.
use Rattle.std.specs.Prelude.{◌==◌, ◌-◌, ◌&&◌, ℕ, zero, suc, Bool, true, List, [], ◌∷◌, ◌++◌, length, map, slice_index, if◌then◌else◌}
use Rattle.vw_net.specs.Gathered.{gather, listed}
use Rattle.vw_net.specs.declared.cell.Cell.{Cell}
use Rattle.vw_net.specs.declared.cell.Cell.TheVariants.{Gate, Latch}
use Rattle.vw_net.specs.declared.cell.Init.TheVariants.{One as StartsAtOne, Zero as StartsAtZero}
use Rattle.vw_plan.specs.Lead.{arrival, carries}
use Rattle.vw_plan.specs.PlannedBoard.{PlannedBoard}
use Rattle.vw_plan.specs.declared.link.Link.{Link}
use Rattle.vw_plan.specs.declared.wire.Hop.{Hop}
use Rattle.vw_plan.specs.declared.wire.Wire.{Wire}
use Rattle.vw_emit_hardware.specs.Locals.{Local, LocalItem, caught, coming, delayed, gate, held, kept, moment, pin_in, pin_out, register, result, sent, table}
use Rattle.vw_emit_hardware.specs.Names.{name_at, sent_name}
use Rattle.vw_emit_hardware.specs.Tables.{both, both_or, choice, cover_table, pass}

-- ---- the sequencer: a ring_stage for each microcycle from 0 to the period, in a ring, and the first one starts at 1

abbrev pub ring_stage : ℕ → LocalItem
ring_stage before = register (moment before) (moment (suc before)) StartsAtZero

abbrev pub sequencer : ℕ → List LocalItem
sequencer period = register (moment period) (moment 0) StartsAtOne ∷ gather (λ before. ring_stage before ∷ []) period

-- ---- cells

-- a gate
abbrev pub gate_items : PlannedBoard → ℕ → ℕ → Cell → List LocalItem
gate_items planned node cell (Gate ins cover) = cover_table (map (name_at planned node) ins) (gate cell) cover ∷ []
gate_items planned node cell (Latch d init) = []

-- a latch: in the last microcycle it takes the value of the net that it reads, else it keeps its own
abbrev pub latch_items : PlannedBoard → ℕ → ℕ → Cell → List LocalItem
latch_items planned node cell (Gate ins cover) = []
latch_items planned node cell (Latch d init) =
    table (moment planned.plan.period ∷ name_at planned node d ∷ kept cell ∷ []) (coming cell) true choice
    ∷ register (coming cell) (kept cell) init ∷ []

-- those of the cells of a node
abbrev pub cell_items : (ℕ → ℕ → Cell → List LocalItem) → PlannedBoard → ℕ → List LocalItem
cell_items items planned node =
    listed (λ cell is. if slice_index planned.plan.chip_of cell == node then items node cell is else []) 0
    planned.ordered.flat.cells

-- ---- hops that reach a node

-- over a link, by its number: the register takes the pin's bit in the microcycle of the arrival, else it keeps its own
abbrev pub catch_items : PlannedBoard → ℕ → ℕ → Hop → ℕ → Link → List LocalItem
catch_items planned wire number hop at link =
    if carries hop link then
    table
    (moment (arrival planned.board.links hop) ∷ pin_in at hop.pin ∷ held wire number ∷ []) (caught wire number) true choice
    ∷ register (caught wire number) (held wire number) StartsAtZero ∷ []
    else []

-- over the link that carries the hop
abbrev pub hop_items : PlannedBoard → ℕ → ℕ → Hop → List LocalItem
hop_items planned wire number hop = listed (catch_items planned wire number hop) 0 planned.board.links

-- those of a wire, and of all wires
abbrev pub wire_items : PlannedBoard → ℕ → ℕ → Wire → List LocalItem
wire_items planned node wire is =
    listed (λ number hop. if hop.to == node then hop_items planned wire number hop else []) 0 is.hops

abbrev pub hops_to : PlannedBoard → ℕ → List LocalItem
hops_to planned node = listed (wire_items planned node) 0 planned.plan.wires

-- ---- hops that leave a node, by pins

-- a hop that uses a pin: the microcycle in which it is sent, and what it sends
pub record User : Type 0 where
  pub at : ℕ
  pub name : Local

-- whether a hop is sent over a link by a pin in a microcycle
abbrev pub leaves_by : Link → ℕ → ℕ → Hop → Bool
leaves_by link pin at hop = carries hop link && (hop.pin == pin && hop.at == at)

-- the hops of a wire that use a pin in a microcycle, and those of all wires; a sound plan has one of them at most
abbrev pub wire_users : PlannedBoard → Link → ℕ → ℕ → ℕ → Wire → List User
wire_users planned link pin at wire is =
    listed (λ number hop.
    if leaves_by link pin at hop then record { at = at; name = sent_name planned wire is number hop } ∷ [] else []) 0 is.hops

abbrev pub users_at : PlannedBoard → Link → ℕ → ℕ → List User
users_at planned link pin at = listed (wire_users planned link pin at) 0 planned.plan.wires

-- those of a pin, by microcycle
abbrev pub users : PlannedBoard → Link → ℕ → List User
users planned link pin = gather (users_at planned link pin) planned.plan.period

-- in the microcycle of a user its bit goes out, else what the users before it give, which is 0 where there is none
abbrev pub send_item : ℕ → ℕ → ℕ → User → LocalItem
send_item at pin zero user = table (moment user.at ∷ user.name ∷ []) (sent at pin 0) true both
send_item at pin (suc before) user =
    table (moment user.at ∷ user.name ∷ sent at pin before ∷ []) (sent at pin (suc before)) true both_or

-- what the last user of a pin gives, so many microcycles later
abbrev pub late_name : ℕ → ℕ → ℕ → ℕ → Local
late_name at pin last zero = sent at pin last
late_name at pin last (suc before) = delayed at pin before

-- a register that a bit is in while it is under way
abbrev pub delay_item : ℕ → ℕ → ℕ → ℕ → LocalItem
delay_item at pin last later = register (late_name at pin last later) (delayed at pin later) StartsAtZero

-- a pin with its users: what they send, the delay of the link but for one microcycle, and the pin's port
abbrev pub pin_items : ℕ → ℕ → ℕ → List User → List LocalItem
pin_items at pin lag [] = []
pin_items at pin lag (user ∷ others) =
    listed (λ number one. send_item at pin number one ∷ []) 0 (user ∷ others)
    ++ (gather (λ later. delay_item at pin (length others) later ∷ []) lag
    ++ table (late_name at pin (length others) lag ∷ []) (pin_out at pin) true pass ∷ [])

-- those of the pins of a link, and of the links that leave a node
abbrev pub link_items : PlannedBoard → ℕ → ℕ → Link → List LocalItem
link_items planned node at link =
    if link.from == node then gather (λ pin. pin_items at pin (link.delay - 1) (users planned link pin)) link.width else []

abbrev pub pins_from : PlannedBoard → ℕ → List LocalItem
pins_from planned node = listed (link_items planned node) 0 planned.board.links

-- ---- outputs, at the host

abbrev pub results : PlannedBoard → ℕ → List LocalItem
results planned node =
    if node == 0 then
    listed (λ output net. table (name_at planned 0 net ∷ []) (result output) true pass ∷ []) 0 planned.ordered.flat.outputs
    else []

-- ---- all of them

abbrev pub node_items : PlannedBoard → ℕ → List LocalItem
node_items planned node =
    sequencer planned.plan.period
    ++ (cell_items (gate_items planned) planned node
    ++ (cell_items (latch_items planned) planned node
    ++ (hops_to planned node
    ++ (pins_from planned node
    ++ results planned node))))
