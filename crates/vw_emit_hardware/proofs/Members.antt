-- The items that each node of an emitted board has.
use Rattle.std.proofs.Common.{◌≡◌, ◌<◌, ◌≤◌, ◌+◌, ◌-◌, ◌++◌, ◌==◌, ◌∙◌, ℕ, suc, true, List, [], ◌∷◌, length, map, slice_get, slice_index, Some, if◌then◌else◌, ap, refl, arith, eq-eqb}
use Rattle.vw_net.specs.Gathered.{gather, listed}
use Rattle.vw_net.specs.declared.cell.Cell.{Cell}
use Rattle.vw_net.specs.declared.cell.Cell.TheVariants.{Gate, Latch}
use Rattle.vw_net.specs.declared.cell.Init.{Init}
use Rattle.vw_net.specs.declared.cell.Init.TheVariants.{One as StartsAtOne, Zero as StartsAtZero}
use Rattle.vw_net.specs.declared.cover.Cover.{Cover}
use Rattle.vw_net.proofs.ListedLists.{StandsIn, has_gather, has_listed, has_when, stands_left, stands_right}
use Rattle.vw_plan.specs.Lead.{arrival, carries}
use Rattle.vw_plan.specs.PlannedBoard.{PlannedBoard}
use Rattle.vw_plan.specs.declared.link.Link.{Link}
use Rattle.vw_plan.specs.declared.wire.Hop.{Hop}
use Rattle.vw_plan.specs.declared.wire.Wire.{Wire}
use Rattle.vw_emit_hardware.specs.Items.{User, catch_items, cell_items, delay_item, gate_items, hop_items, hops_to, late_name, latch_items, link_items, node_items, pin_items, pins_from, results, send_item, sequencer, ring_stage, users, wire_items}
use Rattle.vw_emit_hardware.specs.Locals.{Local, LocalItem, caught, coming, gate, held, kept, moment, pin_in, pin_out, register, result, table}
use Rattle.vw_emit_hardware.specs.Names.{name_at}
use Rattle.vw_emit_hardware.specs.Run.{IsItem}
use Rattle.vw_emit_hardware.specs.Tables.{choice, cover_table, pass}

module _ (planned : PlannedBoard) (node : ℕ) (among : node ≤ planned.board.chips) where
  -- the items of a node, section by section
  abbrev gates : List LocalItem
  gates = cell_items (gate_items planned) planned node

  abbrev latches : List LocalItem
  latches = cell_items (latch_items planned) planned node

  abbrev behind_hops : List LocalItem
  behind_hops = pins_from planned node ++ results planned node

  abbrev behind_latches : List LocalItem
  behind_latches = hops_to planned node ++ behind_hops

  abbrev behind_gates : List LocalItem
  behind_gates = latches ++ behind_latches

  abbrev behind_stages : List LocalItem
  behind_stages = gates ++ behind_gates

  is_item : (item : LocalItem) → StandsIn item (node_items planned node) → IsItem planned node item
  is_item item stands = record { among = among; place = stands.0; stands = stands.1 }

  -- one of a section
  in_stages : (item : LocalItem) → StandsIn item (sequencer planned.plan.period) → IsItem planned node item
  in_stages item stands = is_item item (stands_left item (sequencer planned.plan.period) behind_stages stands)

  past_stages : (item : LocalItem) → StandsIn item behind_stages → IsItem planned node item
  past_stages item stands = is_item item (stands_right item (sequencer planned.plan.period) behind_stages stands)

  past_gates : (item : LocalItem) → StandsIn item behind_gates → IsItem planned node item
  past_gates item stands = past_stages item (stands_right item gates behind_gates stands)

  past_latches : (item : LocalItem) → StandsIn item behind_latches → IsItem planned node item
  past_latches item stands = past_gates item (stands_right item latches behind_latches stands)

  past_hops : (item : LocalItem) → StandsIn item behind_hops → IsItem planned node item
  past_hops item stands = past_latches item (stands_right item (hops_to planned node) behind_hops stands)

  -- ---- the sequencer

  pub has_first_stage : IsItem planned node (register (moment planned.plan.period) (moment 0) StartsAtOne)
  has_first_stage = in_stages (register (moment planned.plan.period) (moment 0) StartsAtOne) (0, refl)

  pub has_stage : (before : ℕ) → before < planned.plan.period → IsItem planned node (ring_stage before)
  has_stage before below =
      let stands = has_gather (ring_stage before) (λ one. ring_stage one ∷ []) planned.plan.period before below (0, refl) in
      in_stages (ring_stage before) (suc stands.0, stands.1)

  -- ---- cells

  in_cells : (items : ℕ → ℕ → Cell → List LocalItem) (item : LocalItem) (cell : ℕ) (is : Cell)
      → slice_get planned.ordered.flat.cells cell ≡ Some is → slice_index planned.plan.chip_of cell ≡ node
      → StandsIn item (items node cell is) → StandsIn item (cell_items items planned node)
  in_cells items item cell is at chip stands =
      let each = λ (number : ℕ) (one : Cell). if slice_index planned.plan.chip_of number == node then items node number one else [] in
      let none : 0 + cell ≡ cell = omega arith in
      let here : StandsIn item (each (0 + cell) is) = rw none (has_when (slice_index planned.plan.chip_of cell == node) item (items node cell is) (eq-eqb (slice_index planned.plan.chip_of cell) node chip) stands) in
      has_listed item each 0 planned.ordered.flat.cells cell is at here

  pub has_gate : (cell : ℕ) (ins : List ℕ) (cover : Cover) → slice_get planned.ordered.flat.cells cell ≡ Some (Gate ins cover)
      → slice_index planned.plan.chip_of cell ≡ node
      → IsItem planned node (cover_table (map (name_at planned node) ins) (gate cell) cover)
  has_gate cell ins cover at chip =
      let item = cover_table (map (name_at planned node) ins) (gate cell) cover in
      past_stages item (stands_left item gates behind_gates (in_cells (gate_items planned) item cell (Gate ins cover) at chip (0, refl)))

  abbrev pub latch_table : ℕ → ℕ → LocalItem
  latch_table cell d = table (moment planned.plan.period ∷ name_at planned node d ∷ kept cell ∷ []) (coming cell) true choice

  in_latches : (item : LocalItem) (cell d : ℕ) (init : Init) → slice_get planned.ordered.flat.cells cell ≡ Some (Latch d init)
      → slice_index planned.plan.chip_of cell ≡ node
      → StandsIn item (latch_items planned node cell (Latch d init)) → IsItem planned node item
  in_latches item cell d init at chip stands = past_gates item (stands_left item latches behind_latches (in_cells (latch_items planned) item cell (Latch d init) at chip stands))

  pub has_latch_table : (cell d : ℕ) (init : Init) → slice_get planned.ordered.flat.cells cell ≡ Some (Latch d init)
      → slice_index planned.plan.chip_of cell ≡ node → IsItem planned node (latch_table cell d)
  has_latch_table cell d init at chip = in_latches (latch_table cell d) cell d init at chip (0, refl)

  pub has_latch_register : (cell d : ℕ) (init : Init) → slice_get planned.ordered.flat.cells cell ≡ Some (Latch d init)
      → slice_index planned.plan.chip_of cell ≡ node → IsItem planned node (register (coming cell) (kept cell) init)
  has_latch_register cell d init at chip = in_latches (register (coming cell) (kept cell) init) cell d init at chip (1, refl)

  -- ---- a hop that reaches the node, over a link

  module _ (wire place : ℕ) (is : Wire) (hop : Hop) (there : slice_get planned.plan.wires wire ≡ Some is) (stands_there : slice_get is.hops place ≡ Some hop) (reaches : hop.to ≡ node)
      (at : ℕ) (link : Link) (linked : slice_get planned.board.links at ≡ Some link) (carried : carries hop link ≡ true) where
    in_hops : (item : LocalItem) → StandsIn item (catch_items planned wire place hop at link) → IsItem planned node item
    in_hops item stands =
        let own = λ (number : ℕ) (one : Hop). if one.to == node then hop_items planned wire number one else [] in
        let none_at : 0 + at ≡ at = omega arith in
        let none_place : 0 + place ≡ place = omega arith in
        let none_wire : 0 + wire ≡ wire = omega arith in
        let over : StandsIn item (catch_items planned wire place hop (0 + at) link) = rw none_at stands in
        let of_hop : StandsIn item (hop_items planned wire place hop) = has_listed item (catch_items planned wire place hop) 0 planned.board.links at link linked over in
        let of_own : StandsIn item (own (0 + place) hop) = rw none_place (has_when (hop.to == node) item (hop_items planned wire place hop) (eq-eqb hop.to node reaches) of_hop) in
        let of_wire : StandsIn item (wire_items planned node (0 + wire) is) = rw none_wire (has_listed item own 0 is.hops place hop stands_there of_own) in
        let of_all : StandsIn item (hops_to planned node) = has_listed item (wire_items planned node) 0 planned.plan.wires wire is there of_wire in
        past_latches item (stands_left item (hops_to planned node) behind_hops of_all)

    abbrev pub catch_table : LocalItem
    catch_table = table (moment (arrival planned.board.links hop) ∷ pin_in at hop.pin ∷ held wire place ∷ []) (caught wire place) true choice

    pub has_catch_table : IsItem planned node catch_table
    has_catch_table = in_hops catch_table (has_when (carries hop link) catch_table (catch_table ∷ register (caught wire place) (held wire place) StartsAtZero ∷ []) carried (0, refl))

    pub has_catch_register : IsItem planned node (register (caught wire place) (held wire place) StartsAtZero)
    has_catch_register = in_hops (register (caught wire place) (held wire place) StartsAtZero) (has_when (carries hop link) (register (caught wire place) (held wire place) StartsAtZero) (catch_table ∷ register (caught wire place) (held wire place) StartsAtZero ∷ []) carried (1, refl))

  -- ---- a used pin by which the node is left

  module _ (at pin : ℕ) (link : Link) (linked : slice_get planned.board.links at ≡ Some link) (leaves : link.from ≡ node) (within : pin < link.width)
      (user : User) (others : List User) (used : users planned link pin ≡ user ∷ others) where
    in_pins : (item : LocalItem) → StandsIn item (pin_items at pin (link.delay - 1) (user ∷ others)) → IsItem planned node item
    in_pins item stands =
        let none : 0 + at ≡ at = omega arith in
        let each = λ (one : ℕ). pin_items at one (link.delay - 1) (users planned link one) in
        let of_pin : StandsIn item (gather each link.width) = has_gather item each link.width pin within (stands.0, ap (λ (list : List User). slice_get (pin_items at pin (link.delay - 1) list) stands.0) used ∙ stands.1) in
        let of_link : StandsIn item (link_items planned node (0 + at) link) = rw none (has_when (link.from == node) item (gather each link.width) (eq-eqb link.from node leaves) of_pin) in
        let of_all : StandsIn item (pins_from planned node) = has_listed item (link_items planned node) 0 planned.board.links at link linked of_link in
        past_hops item (stands_left item (pins_from planned node) (results planned node) of_all)

    abbrev sends : List LocalItem
    sends = listed (λ number one. send_item at pin number one ∷ []) 0 (user ∷ others)

    abbrev pub late : ℕ → Local
    late later = late_name at pin (length others) later

    abbrev delays : List LocalItem
    delays = gather (λ later. delay_item at pin (length others) later ∷ []) (link.delay - 1)

    abbrev pub out_table : LocalItem
    out_table = table (late (link.delay - 1) ∷ []) (pin_out at pin) true pass

    pub has_send : (number : ℕ) (one : User) → slice_get (user ∷ others) number ≡ Some one → IsItem planned node (send_item at pin number one)
    has_send number one stands =
        let none : 0 + number ≡ number = omega arith in
        let here : StandsIn (send_item at pin number one) (send_item at pin (0 + number) one ∷ []) = rw none (0, refl) in
        in_pins (send_item at pin number one) (stands_left (send_item at pin number one) sends (delays ++ out_table ∷ []) (has_listed (send_item at pin number one) (λ k x. send_item at pin k x ∷ []) 0 (user ∷ others) number one stands here))

    pub has_delay : (later : ℕ) → later < link.delay - 1 → IsItem planned node (delay_item at pin (length others) later)
    has_delay later below =
        let item = delay_item at pin (length others) later in
        in_pins item (stands_right item sends (delays ++ out_table ∷ []) (stands_left item delays (out_table ∷ []) (has_gather item (λ k. delay_item at pin (length others) k ∷ []) (link.delay - 1) later below (0, refl))))

    pub has_out : IsItem planned node out_table
    has_out = in_pins out_table (stands_right out_table sends (delays ++ out_table ∷ []) (stands_right out_table delays (out_table ∷ []) (0, refl)))

-- ---- outputs, at the host

pub has_result : (planned : PlannedBoard) (output net : ℕ) → slice_get planned.ordered.flat.outputs output ≡ Some net
    → IsItem planned 0 (table (name_at planned 0 net ∷ []) (result output) true pass)
has_result planned output net at =
    let none : 0 + output ≡ output = omega arith in
    let item = table (name_at planned 0 net ∷ []) (result output) true pass in
    let here : StandsIn item (table (name_at planned 0 net ∷ []) (result (0 + output)) true pass ∷ []) = rw none (0, refl) in
    past_hops planned 0 (omega arith) item (stands_right item (pins_from planned 0) (results planned 0) (has_listed item (λ number one. table (name_at planned 0 one ∷ []) (result number) true pass ∷ []) 0 planned.ordered.flat.outputs output net at here))
