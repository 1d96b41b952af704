-- What is written piece by piece: the print of the board's models, as it is made from the hops of a plan, by their numbers and
-- in order. It is the writer's own; no public clause speaks of it.
use Rattle.std.specs.Prelude.{◌+◌, ◌-◌, ◌==◌, ◌&&◌, ℕ, suc, true, List, [], ◌∷◌, ◌++◌, Option, Some, None, length, map, replicate, codes, slice_get, slice_index, slice_index_or, sum_by, if◌then◌else◌}
use Rattle.std.specs.List.{flat_map, range_with_len}
use Rattle.std.specs.Option.{option_map_or}
use Rattle.vw_net.specs.Gathered.{listed}
use Rattle.vw_net.specs.declared.cell.Cell.{Cell}
use Rattle.vw_net.specs.declared.cell.Cell.TheVariants.{Gate as AGate, Latch as ALatch}
use Rattle.vw_net.specs.declared.cell.Init.TheVariants.{Zero as StartsAtZero}
use Rattle.vw_net.specs.declared.cover.Cover.{Cover}
use Rattle.vw_net.specs.declared.cover.Mark.{Mark}
use Rattle.vw_net.specs.declared.cover.Mark.TheVariants.{Any}
use Rattle.vw_net.specs.declared.cover.Row.{Row}
use Rattle.vw_text.specs.PlainLines.{plain_text}
use Rattle.vw_design.specs.Paths.{Word}
use Rattle.vw_blif.specs.Printed.{head_lines, item_lines, mark_byte}
use Rattle.vw_plan.specs.PlannedBoard.{PlannedBoard, planned_board}
use Rattle.vw_plan.specs.declared.wire.Wire.{Wire}
use Rattle.vw_emit_hardware.specs.Locals.{Local, LocalItem, caught, column, coming, delayed, gate, held, kept, moment, pin_in, pin_out, register, result, sent, table}
use Rattle.vw_emit_hardware.specs.Names.{name_at}
use Rattle.vw_emit_hardware.specs.Tables.{both, both_or, choice, pass}
use Rattle.vw_emit_names.specs.Boards.{Joined, PlainItem, PlainModel, spelled_item}
use Rattle.vw_emit_names.specs.Spelled.{pin_net, shown_net, spelled}
use Rattle.vw_emit_text.specs.declared.emitter.Emitter.{Emitter}
use Rattle.vw_emit_text.specs.declared.items.Item.{Item}
use Rattle.vw_emit_text.specs.declared.items.Item.TheVariants.{Pass, Both, Choice, BothOr, Register}
use Rattle.vw_emit_text.specs.declared.names.Name.{Name}
use Rattle.vw_emit_text.specs.declared.names.Name.TheVariants.{Column, Moment, Gate, Kept, Coming, Held, Caught, Sent, Delayed, PinIn, PinOut, Output}
use Rattle.vw_emit_text.specs.declared.names.Net.{Net}
use Rattle.vw_emit_text.specs.declared.names.Net.TheVariants.{Own, Pin, Shown}
use Rattle.vw_emit_text.specs.declared.numbered_hop.NumberedHop.{NumberedHop}
use Rattle.vw_emit_text.specs.declared.outlet.Outlet.{Outlet}
use Rattle.vw_emit_text.specs.declared.ports.Listing.{Listing}
use Rattle.vw_emit_text.specs.declared.ports.Listing.TheVariants.{Ports, Bindings}
use Rattle.vw_emit_text.specs.declared.ports.Kind.{Kind}
use Rattle.vw_emit_text.specs.declared.ports.Kind.TheVariants.{Columns, Results, Shown as ShownLatches}
use Rattle.vw_emit_text.specs.Numbered.{emitting, on_line, with_items}
use Rattle.vw_emit_text.specs.Outlets.{outlets}

-- the planned board
abbrev pub planned_by : Emitter → PlannedBoard
planned_by emitter = planned_board emitter.ordered.now emitter.board.now emitter.plan.now

-- ---- names

-- the net of a node that a name is of
abbrev pub local_of : Name → Local
local_of (Column number) = column number
local_of (Moment microcycle) = moment microcycle
local_of (Gate cell) = gate cell
local_of (Kept cell) = kept cell
local_of (Coming cell) = coming cell
local_of (Held wire hop) = held wire hop
local_of (Caught wire hop) = caught wire hop
local_of (Sent link pin number) = sent link pin number
local_of (Delayed link pin number) = delayed link pin number
local_of (PinIn link pin) = pin_in link pin
local_of (PinOut link pin) = pin_out link pin
local_of (Output output) = result output

-- a net of the board
abbrev pub net_word : Net → Word
net_word (Own name) = spelled (local_of name)
net_word (Pin link pin) = pin_net link pin
net_word (Shown latch) = shown_net latch

-- the register of the last hop of a wire, by the number of the wire
abbrev pub last_hop : List Wire → ℕ → ℕ
last_hop wires number = option_map_or (λ wire. length wire.hops - 1) (slice_get wires number) 0

abbrev pub last_held : Option ℕ → List Wire → Local
last_held None wires = held 0 0
last_held (Some number) wires = held number (last_hop wires number)

-- what a hop sends, by its numbers
abbrev pub local_sent : PlannedBoard → NumberedHop → Local
local_sent planned hop = if hop.hop == 0 then name_at planned hop.from hop.net else held hop.wire (hop.hop - 1)

-- ---- items in print, which are the same on any line

abbrev pub plain_item_text : PlainItem → List ℕ
plain_item_text item = plain_text (item_lines emitting (on_line 0 item))

abbrev pub item_text : LocalItem → List ℕ
item_text item = plain_item_text (spelled_item item)

abbrev pub items_text : List LocalItem → List ℕ
items_text items = flat_map item_text items

-- an item of the code
abbrev pub item_of : Item → LocalItem
item_of (Pass from out) = table (local_of from ∷ []) (local_of out) true pass
item_of (Both one other out) = table (local_of one ∷ local_of other ∷ []) (local_of out) true both
item_of (Choice test one other out) = table (local_of test ∷ local_of one ∷ local_of other ∷ []) (local_of out) true choice
item_of (BothOr one other third out) = table (local_of one ∷ local_of other ∷ local_of third ∷ []) (local_of out) true both_or
item_of (Register next own init) = register (local_of next) (local_of own) init

-- the first line of a table with three inputs, without its end
abbrev pub three_names : Local → Local → Local → Local → List ℕ
three_names one other third out =
    codes ".names" ++ ((32 ∷ spelled one) ++ ((32 ∷ spelled other) ++ ((32 ∷ spelled third) ++ (32 ∷ spelled out))))

-- names of nets at a node, each behind a space
abbrev pub names_text : PlannedBoard → ℕ → List ℕ → List ℕ
names_text planned node nets = flat_map (λ net. 32 ∷ spelled (name_at planned node net)) nets

-- ---- the rows of tables

-- marks as they stand in a row
abbrev pub marks_text : List Mark → List ℕ
marks_text marks = map mark_byte marks

-- the marks of a row, by its number
abbrev pub row_marks : Cover → ℕ → List Mark
row_marks cover row = (slice_index_or cover.rows row (record { marks = [] })).marks

-- a row with its value; without inputs it is the value alone
abbrev pub row_line : List Mark → List ℕ → List ℕ
row_line [] value = value
row_line (mark ∷ marks) value = map mark_byte (mark ∷ marks) ++ 32 ∷ value

abbrev pub row_lines : List Row → List ℕ → List (List ℕ)
row_lines rows value = map (λ row. row_line row.marks value) rows

-- the rows of an off-set; without rows the value is always 1
abbrev pub off_lines : ℕ → List Row → List (List ℕ)
off_lines inputs [] = row_line (replicate inputs Any) (codes "1") ∷ []
off_lines inputs (row ∷ rows) = row_lines (row ∷ rows) (codes "0")

abbrev pub cover_lines : Cover → List (List ℕ)
cover_lines cover = if cover.on then row_lines cover.rows (codes "1") else off_lines cover.inputs cover.rows

-- ---- items by tables of the plan

-- so many stages of a sequencer, each of which reads the one before it
abbrev pub stages_from : ℕ → ℕ → List LocalItem
stages_from first count = map (λ before. register (moment before) (moment (before + 1)) StartsAtZero) (range_with_len first count)

-- what the cells of a node give, from a cell on
abbrev pub of_cells : (ℕ → Cell → List LocalItem) → List ℕ → ℕ → ℕ → List Cell → List LocalItem
of_cells items chip_of node number cells =
    listed (λ cell is. if slice_index chip_of cell == node then items cell is else []) number cells

-- the outputs, from a number on
abbrev pub results_from : PlannedBoard → ℕ → List ℕ → List LocalItem
results_from planned number nets = listed (λ output net. table (name_at planned 0 net ∷ []) (result output) true pass ∷ []) number nets

-- the items of a hop that reaches a node
abbrev pub caught_items : NumberedHop → List LocalItem
caught_items hop =
    table (moment hop.arrival ∷ pin_in hop.link hop.pin ∷ held hop.wire hop.hop ∷ []) (caught hop.wire hop.hop) true choice
    ∷ register (caught hop.wire hop.hop) (held hop.wire hop.hop) StartsAtZero ∷ []

abbrev pub registers : ℕ → List NumberedHop → List LocalItem
registers node hops = flat_map (λ hop. if hop.to == node then caught_items hop else []) hops

-- what chooses the bit of a hop in its microcycle, else what the hops of its pin before it give
abbrev pub choosing : PlannedBoard → Outlet → LocalItem
choosing planned outlet =
    let hop = outlet.hop in
    if outlet.number == 0 then table (moment hop.at ∷ local_sent planned hop ∷ []) (sent hop.link hop.pin outlet.number) true both
    else
    table (moment hop.at ∷ local_sent planned hop ∷ sent hop.link hop.pin (outlet.number - 1) ∷ []) (sent hop.link hop.pin outlet.number) true both_or

-- what the last hop of a pin gives, so many microcycles later
abbrev pub late : Outlet → ℕ → Local
late outlet later =
    if later == 0 then sent outlet.hop.link outlet.hop.pin outlet.number else delayed outlet.hop.link outlet.hop.pin (later - 1)

-- a register that a bit is in while it is under way, and so many of them
abbrev pub delayed_item : Outlet → ℕ → LocalItem
delayed_item outlet later = register (late outlet later) (delayed outlet.hop.link outlet.hop.pin later) StartsAtZero

abbrev pub delayed_items : Outlet → ℕ → ℕ → List LocalItem
delayed_items outlet first count = map (delayed_item outlet) (range_with_len first count)

-- what stands behind the last hop of a pin
abbrev pub end_items : Outlet → List LocalItem
end_items outlet =
    let lag = outlet.hop.arrival - outlet.hop.at in
    delayed_items outlet 0 lag ++ table (late outlet lag ∷ []) (pin_out outlet.hop.link outlet.hop.pin) true pass ∷ []

abbrev pub outlet_items : PlannedBoard → Outlet → List LocalItem
outlet_items planned outlet = choosing planned outlet ∷ (if outlet.is_last then end_items outlet else [])

abbrev pub sender_items : PlannedBoard → ℕ → Outlet → List LocalItem
sender_items planned node outlet = if outlet.hop.from == node then outlet_items planned outlet else []

abbrev pub sent_items : PlannedBoard → ℕ → List Outlet → List LocalItem
sent_items planned node list = flat_map (sender_items planned node) list

-- ---- ports

-- a port behind a space, in the list of a model's ports or joined to its net
abbrev pub port_text : Listing → Joined → List ℕ
port_text Ports port = 32 ∷ port.formal
port_text Bindings port = 32 ∷ (port.formal ++ 61 ∷ port.actual)

abbrev pub ports_text : Listing → List Joined → List ℕ
ports_text listing ports = flat_map (port_text listing) ports

-- ports that have the names of their nets, by number
abbrev pub numbered_net : Kind → ℕ → Word
numbered_net Columns number = spelled (column number)
numbered_net Results number = spelled (result number)
numbered_net ShownLatches number = shown_net number

abbrev pub numbered_ports : Kind → ℕ → ℕ → List Joined
numbered_ports kind first count =
    map (λ number. record { formal = numbered_net kind number; actual = numbered_net kind number }) (range_with_len first count)

-- a pin at either end; each has one port, by its first hop
abbrev pub port_in : NumberedHop → Joined
port_in hop = record { formal = spelled (pin_in hop.link hop.pin); actual = pin_net hop.link hop.pin }

abbrev pub port_out : NumberedHop → Joined
port_out hop = record { formal = spelled (pin_out hop.link hop.pin); actual = pin_net hop.link hop.pin }

abbrev pub ports_in : ℕ → List Outlet → List Joined
ports_in node list = flat_map (λ outlet. if outlet.number == 0 && outlet.hop.to == node then port_in outlet.hop ∷ [] else []) list

abbrev pub ports_out : ℕ → List Outlet → List Joined
ports_out node list = flat_map (λ outlet. if outlet.number == 0 && outlet.hop.from == node then port_out outlet.hop ∷ [] else []) list

-- a latch, by the number of its cell and its number among latches
abbrev pub latch_port : ℕ → ℕ → Joined
latch_port cell latch = record { formal = spelled (kept cell); actual = shown_net latch }

-- the latches of a chip, from a cell on, before which there are so many latches
abbrev pub latch_ports : List ℕ → ℕ → ℕ → ℕ → List Cell → List Joined
latch_ports chip_of node cell latch [] = []
latch_ports chip_of node cell latch (AGate ins cover ∷ cells) = latch_ports chip_of node (suc cell) latch cells
latch_ports chip_of node cell latch (ALatch d init ∷ cells) =
    (if slice_index chip_of cell == node then latch_port cell latch ∷ [] else [])
    ++ latch_ports chip_of node (suc cell) (suc latch) cells

abbrev pub inputs_of : PlannedBoard → ℕ → List Joined
inputs_of planned node = (if node == 0 then numbered_ports Columns 0 planned.ordered.flat.inputs else []) ++ ports_in node (outlets planned)

abbrev pub outputs_of : PlannedBoard → ℕ → List Joined
outputs_of planned node =
    ports_out node (outlets planned)
    ++ (if node == 0 then numbered_ports Results 0 (length planned.ordered.flat.outputs)
    else latch_ports planned.plan.chip_of node 0 0 planned.ordered.flat.cells)

-- the cells of pins, which are counted at the first hop of each
abbrev pub outlet_cells : List Outlet → ℕ
outlet_cells list = sum_by (λ outlet. if outlet.number == 0 then outlet.hop.arrival - outlet.hop.at + 1 else 0) list

-- ---- models in print

abbrev pub model_text : PlainModel → List ℕ
model_text model = plain_text (head_lines emitting (with_items model [])) ++ (flat_map plain_item_text model.items ++ codes ".end\n")
