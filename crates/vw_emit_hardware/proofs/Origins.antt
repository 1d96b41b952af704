-- Where each item of a node of an emitted board comes from.
use Rattle.std.proofs.Common.{◌≡◌, ◌<◌, ◌+◌, ◌-◌, ◌++◌, ◌==◌, ◌∙◌, ◌⊎◌, inl, inr, ℕ, zero, suc, true, List, [], ◌∷◌, length, map, slice_get, slice_index, Some, if◌then◌else◌, ap, refl, sym, subst, ⊎_elim, eqb-true, arith}
use Rattle.std.proofs.lemmas.Option.{none-some, same_Some}
use Rattle.vw_net.specs.Gathered.{gather, listed}
use Rattle.vw_net.specs.declared.cell.Cell.{Cell}
use Rattle.vw_net.specs.declared.cell.Cell.TheVariants.{Gate, Latch}
use Rattle.vw_net.specs.declared.cell.Init.{Init}
use Rattle.vw_net.specs.declared.cell.Init.TheVariants.{One as StartsAtOne, Zero as StartsAtZero}
use Rattle.vw_net.specs.declared.cover.Cover.{Cover}
use Rattle.vw_net.proofs.ListedLists.{StandsIn, from_append, from_gather, from_listed, from_when}
use Rattle.vw_plan.specs.Lead.{arrival, carries}
use Rattle.vw_plan.specs.PlannedBoard.{PlannedBoard}
use Rattle.vw_plan.specs.declared.link.Link.{Link}
use Rattle.vw_plan.specs.declared.wire.Hop.{Hop}
use Rattle.vw_plan.specs.declared.wire.Wire.{Wire}
use Rattle.vw_emit_hardware.specs.Items.{User, catch_items, cell_items, delay_item, gate_items, hop_items, hops_to, late_name, latch_items, link_items, node_items, pin_items, pins_from, results, send_item, sequencer, ring_stage, users, wire_items}
use Rattle.vw_emit_hardware.specs.Locals.{LocalItem, caught, coming, gate, held, kept, moment, pin_in, pin_out, register, result, table}
use Rattle.vw_emit_hardware.specs.Names.{name_at}
use Rattle.vw_emit_hardware.specs.Tables.{choice, cover_table, pass}

-- the only element of a list of one, and either of two
module _ {X : Type 0} where
  only_at : (one x : X) (place : ℕ) → slice_get (one ∷ []) place ≡ Some x → one ≡ x
  only_at one x zero is = same_Some one x is
  only_at one x (suc place) is = absurd (none-some x is)

  pub only : (one x : X) → StandsIn x (one ∷ []) → one ≡ x
  only one x stands = only_at one x stands.0 stands.1

  either_at : (one other x : X) (place : ℕ) → slice_get (one ∷ other ∷ []) place ≡ Some x → (one ≡ x) ⊎ (other ≡ x)
  either_at one other x zero is = inl (same_Some one x is)
  either_at one other x (suc zero) is = inr (same_Some other x is)
  either_at one other x (suc (suc place)) is = absurd (none-some x is)

  pub either : (one other x : X) → StandsIn x (one ∷ other ∷ []) → (one ≡ x) ⊎ (other ≡ x)
  either one other x stands = either_at one other x stands.0 stands.1

module _ (planned : PlannedBoard) (node : ℕ) where
  -- ---- a ring_stage

  abbrev pub first_stage : LocalItem
  first_stage = register (moment planned.plan.period) (moment 0) StartsAtOne

  pub record IsStage (item : LocalItem) : Type 0 where
    pub before : ℕ
    pub below : before < planned.plan.period
    pub same : ring_stage before ≡ item

  pub from_stages : (item : LocalItem) → StandsIn item (sequencer planned.plan.period) → (first_stage ≡ item) ⊎ IsStage item
  from_stages item stands = by stands.0 stands.1 where
    others : StandsIn item (gather (λ before. ring_stage before ∷ []) planned.plan.period) → IsStage item
    others there =
        let given = from_gather item (λ before. ring_stage before ∷ []) planned.plan.period there in
        record { before = given.number; below = given.below; same = only (ring_stage given.number) item given.stands }

    by : (place : ℕ) → slice_get (sequencer planned.plan.period) place ≡ Some item → (first_stage ≡ item) ⊎ IsStage item
    by zero at = inl (same_Some first_stage item at)
    by (suc place) at = inr (others (place, at))

  -- ---- a cell

  -- an item of a cell of the node
  pub record IsOfCell (items : ℕ → ℕ → Cell → List LocalItem) (item : LocalItem) : Type 0 where
    pub cell : ℕ
    pub is : Cell
    pub at : slice_get planned.ordered.flat.cells cell ≡ Some is
    pub chip : slice_index planned.plan.chip_of cell ≡ node
    pub stands : StandsIn item (items node cell is)

  pub from_cells : (items : ℕ → ℕ → Cell → List LocalItem) (item : LocalItem) → StandsIn item (cell_items items planned node) → IsOfCell items item
  from_cells items item stands =
      let each = λ (number : ℕ) (one : Cell). if slice_index planned.plan.chip_of number == node then items node number one else [] in
      let by = from_listed item each 0 planned.ordered.flat.cells stands in
      let none : 0 + by.place ≡ by.place = omega arith in
      let own = from_when (slice_index planned.plan.chip_of (0 + by.place) == node) item (items node (0 + by.place) by.item) by.stands in
      record {
        cell = by.place;
        is = by.item;
        at = by.at;
        chip = ap (slice_index planned.plan.chip_of) (sym none) ∙ eqb-true (slice_index planned.plan.chip_of (0 + by.place)) node own.0;
        stands = (own.1.0, ap (λ (number : ℕ). slice_get (items node number by.item) own.1.0) (sym none) ∙ own.1.1);
      }

  pub record IsGate (item : LocalItem) : Type 0 where
    pub cell : ℕ
    pub ins : List ℕ
    pub cover : Cover
    pub at : slice_get planned.ordered.flat.cells cell ≡ Some (Gate ins cover)
    pub chip : slice_index planned.plan.chip_of cell ≡ node
    pub same : cover_table (map (name_at planned node) ins) (gate cell) cover ≡ item

  pub from_gates : (item : LocalItem) → StandsIn item (cell_items (gate_items planned) planned node) → IsGate item
  from_gates item stands = let of = from_cells (gate_items planned) item stands in by of.cell of.is of.at of.chip of.stands where
    by : (cell : ℕ) (is : Cell) → slice_get planned.ordered.flat.cells cell ≡ Some is → slice_index planned.plan.chip_of cell ≡ node
        → StandsIn item (gate_items planned node cell is) → IsGate item
    by cell (Gate ins cover) at chip here = record { cell = cell; ins = ins; cover = cover; at = at; chip = chip; same = only (cover_table (map (name_at planned node) ins) (gate cell) cover) item here }
    by cell (Latch d init) at chip here = absurd (none-some item here.1)

  abbrev pub latch_table : ℕ → ℕ → LocalItem
  latch_table cell d = table (moment planned.plan.period ∷ name_at planned node d ∷ kept cell ∷ []) (coming cell) true choice

  pub record IsLatch (item : LocalItem) : Type 0 where
    pub cell : ℕ
    pub d : ℕ
    pub init : Init
    pub at : slice_get planned.ordered.flat.cells cell ≡ Some (Latch d init)
    pub chip : slice_index planned.plan.chip_of cell ≡ node
    pub same : (latch_table cell d ≡ item) ⊎ (register (coming cell) (kept cell) init ≡ item)

  pub from_latches : (item : LocalItem) → StandsIn item (cell_items (latch_items planned) planned node) → IsLatch item
  from_latches item stands = let of = from_cells (latch_items planned) item stands in by of.cell of.is of.at of.chip of.stands where
    by : (cell : ℕ) (is : Cell) → slice_get planned.ordered.flat.cells cell ≡ Some is → slice_index planned.plan.chip_of cell ≡ node
        → StandsIn item (latch_items planned node cell is) → IsLatch item
    by cell (Gate ins cover) at chip here = absurd (none-some item here.1)
    by cell (Latch d init) at chip here = record { cell = cell; d = d; init = init; at = at; chip = chip; same = either (latch_table cell d) (register (coming cell) (kept cell) init) item here }

  -- ---- a hop that reaches the node

  abbrev pub catch_table : ℕ → ℕ → Hop → ℕ → LocalItem
  catch_table wire place hop at = table (moment (arrival planned.board.links hop) ∷ pin_in at hop.pin ∷ held wire place ∷ []) (caught wire place) true choice

  pub record IsCatch (item : LocalItem) : Type 0 where
    pub wire : ℕ
    pub place : ℕ
    pub is : Wire
    pub hop : Hop
    pub there : slice_get planned.plan.wires wire ≡ Some is
    pub stands : slice_get is.hops place ≡ Some hop
    pub reaches : hop.to ≡ node
    pub at : ℕ
    pub link : Link
    pub linked : slice_get planned.board.links at ≡ Some link
    pub carried : carries hop link ≡ true
    pub same : (catch_table wire place hop at ≡ item) ⊎ (register (caught wire place) (held wire place) StartsAtZero ≡ item)

  pub from_hops : (item : LocalItem) → StandsIn item (hops_to planned node) → IsCatch item
  from_hops item stands =
      let of_wire = from_listed item (wire_items planned node) 0 planned.plan.wires stands in
      let wire = 0 + of_wire.place in
      let own = λ (number : ℕ) (one : Hop). if one.to == node then hop_items planned wire number one else [] in
      let of_hop = from_listed item own 0 of_wire.item.hops of_wire.stands in
      let place = 0 + of_hop.place in
      let reaches = from_when (of_hop.item.to == node) item (hop_items planned wire place of_hop.item) of_hop.stands in
      let of_link = from_listed item (catch_items planned wire place of_hop.item) 0 planned.board.links reaches.1 in
      let at = 0 + of_link.place in
      let carried = from_when (carries of_hop.item of_link.item) item (catch_table wire place of_hop.item at ∷ register (caught wire place) (held wire place) StartsAtZero ∷ []) of_link.stands in
      let same = either (catch_table wire place of_hop.item at) (register (caught wire place) (held wire place) StartsAtZero) item carried.1 in
      let none_wire : of_wire.place ≡ wire = omega arith in
      let none_place : of_hop.place ≡ place = omega arith in
      let none_at : of_link.place ≡ at = omega arith in
      record {
        wire = of_wire.place;
        place = of_hop.place;
        is = of_wire.item;
        hop = of_hop.item;
        there = of_wire.at;
        stands = of_hop.at;
        reaches = eqb-true of_hop.item.to node reaches.0;
        at = of_link.place;
        link = of_link.item;
        linked = of_link.at;
        carried = carried.0;
        same = ⊎_elim (λ one. inl ((λ i. catch_table (none_wire i) (none_place i) of_hop.item (none_at i)) ∙ one)) (λ one. inr ((λ i. register (caught (none_wire i) (none_place i)) (held (none_wire i) (none_place i)) StartsAtZero) ∙ one)) same;
      }

  -- ---- a used pin by which the node is left

  -- an item of a used pin
  pub data OfPin (at pin lag : ℕ) (user : User) (others : List User) (item : LocalItem) : Type 0 where
    sends : (number : ℕ) (one : User) → slice_get (user ∷ others) number ≡ Some one → send_item at pin number one ≡ item → OfPin at pin lag user others item
    waits : (later : ℕ) → later < lag → delay_item at pin (length others) later ≡ item → OfPin at pin lag user others item
    leaves : table (late_name at pin (length others) lag ∷ []) (pin_out at pin) true pass ≡ item → OfPin at pin lag user others item

  pub record IsPin (item : LocalItem) : Type 0 where
    pub at : ℕ
    pub pin : ℕ
    pub link : Link
    pub linked : slice_get planned.board.links at ≡ Some link
    pub from : link.from ≡ node
    pub within : pin < link.width
    pub user : User
    pub others : List User
    pub used : users planned link pin ≡ user ∷ others
    pub item_is : OfPin at pin (link.delay - 1) user others item

  pub of_pin : (at pin lag : ℕ) (user : User) (others : List User) (item : LocalItem) → StandsIn item (pin_items at pin lag (user ∷ others))
      → OfPin at pin lag user others item
  of_pin at pin lag user others item stands =
      let sent = listed (λ number one. send_item at pin number one ∷ []) 0 (user ∷ others) in
      let late = gather (λ later. delay_item at pin (length others) later ∷ []) lag in
      let out = table (late_name at pin (length others) lag ∷ []) (pin_out at pin) true pass in
      let if_sent = λ (front : StandsIn item sent).
      let by = from_listed item (λ number one. send_item at pin number one ∷ []) 0 (user ∷ others) front in
      let none : by.place ≡ 0 + by.place = omega arith in
      let whole : OfPin at pin lag user others item = sends by.place by.item by.at (ap (λ (number : ℕ). send_item at pin number by.item) none ∙ only (send_item at pin (0 + by.place) by.item) item by.stands) in whole in
      let if_late = λ (middle : StandsIn item late).
      let given = from_gather item (λ later. delay_item at pin (length others) later ∷ []) lag middle in
      let whole : OfPin at pin lag user others item = waits given.number given.below (only (delay_item at pin (length others) given.number) item given.stands) in whole in
      let if_out = λ (back : StandsIn item (out ∷ [])). let whole : OfPin at pin lag user others item = leaves (only out item back) in whole in
      ⊎_elim if_sent (λ behind. ⊎_elim if_late if_out (from_append item late (out ∷ []) behind)) (from_append item sent (late ++ out ∷ []) stands)

  pub from_pins : (item : LocalItem) → StandsIn item (pins_from planned node) → IsPin item
  from_pins item stands =
      let of_link = from_listed item (link_items planned node) 0 planned.board.links stands in
      let link = of_link.item in
      let each = λ (one : ℕ). pin_items (0 + of_link.place) one (link.delay - 1) (users planned link one) in
      let own = from_when (link.from == node) item (gather each link.width) of_link.stands in
      let given = from_gather item each link.width own.1 in
      let none : of_link.place ≡ 0 + of_link.place = omega arith in
      by of_link.place given.number link of_link.at (eqb-true link.from node own.0) given.below (users planned link given.number) refl
      (subst (λ (at : ℕ). StandsIn item (pin_items at given.number (link.delay - 1) (users planned link given.number))) (sym none) given.stands) where
        by : (at pin : ℕ) (link : Link) → slice_get planned.board.links at ≡ Some link → link.from ≡ node → pin < link.width
            → (all : List User) → users planned link pin ≡ all → StandsIn item (pin_items at pin (link.delay - 1) all) → IsPin item
        by at pin link linked from within [] used here = absurd (none-some item here.1)
        by at pin link linked from within (user ∷ others) used here = record {
          at = at;
          pin = pin;
          link = link;
          linked = linked;
          from = from;
          within = within;
          user = user;
          others = others;
          used = used;
          item_is = of_pin at pin (link.delay - 1) user others item here;
        }

  -- ---- an output

  pub record IsResult (item : LocalItem) : Type 0 where
    pub host : node ≡ 0
    pub output : ℕ
    pub net : ℕ
    pub at : slice_get planned.ordered.flat.outputs output ≡ Some net
    pub same : table (name_at planned 0 net ∷ []) (result output) true pass ≡ item

  pub from_results : (item : LocalItem) → StandsIn item (results planned node) → IsResult item
  from_results item stands =
      let each = λ (output net : ℕ). table (name_at planned 0 net ∷ []) (result output) true pass ∷ [] in
      let own = from_when (node == 0) item (listed each 0 planned.ordered.flat.outputs) stands in
      let by = from_listed item each 0 planned.ordered.flat.outputs own.1 in
      let none : by.place ≡ 0 + by.place = omega arith in
      record {
        host = eqb-true node 0 own.0;
        output = by.place;
        net = by.item;
        at = by.at;
        same = ap (λ (output : ℕ). table (name_at planned 0 by.item ∷ []) (result output) true pass) none ∙ only (table (name_at planned 0 by.item ∷ []) (result (0 + by.place)) true pass) item by.stands;
      }

  -- ---- any item

  pub data Origin (item : LocalItem) : Type 0 where
    of_first : first_stage ≡ item → Origin item
    of_stage : IsStage item → Origin item
    of_gate : IsGate item → Origin item
    of_latch : IsLatch item → Origin item
    of_hop : IsCatch item → Origin item
    of_pins : IsPin item → Origin item
    of_result : IsResult item → Origin item

  pub origin : (item : LocalItem) → StandsIn item (node_items planned node) → Origin item
  origin item stands =
      let results_on = results planned node in
      let pins_on = pins_from planned node ++ results_on in
      let hops_on = hops_to planned node ++ pins_on in
      let latches_on = cell_items (latch_items planned) planned node ++ hops_on in
      let gates_on = cell_items (gate_items planned) planned node ++ latches_on in
      ⊎_elim (λ there. ⊎_elim (λ one. of_first one) (λ one. of_stage one) (from_stages item there))
      (λ on_1. ⊎_elim (λ there. of_gate (from_gates item there))
      (λ on_2. ⊎_elim (λ there. of_latch (from_latches item there))
      (λ on_3. ⊎_elim (λ there. of_hop (from_hops item there))
      (λ on_4. ⊎_elim (λ there. of_pins (from_pins item there)) (λ there. of_result (from_results item there)) (from_append item (pins_from planned node) results_on on_4))
      (from_append item (hops_to planned node) pins_on on_3))
      (from_append item (cell_items (latch_items planned) planned node) hops_on on_2))
      (from_append item (cell_items (gate_items planned) planned node) latches_on on_1))
      (from_append item (sequencer planned.plan.period) gates_on stands)
