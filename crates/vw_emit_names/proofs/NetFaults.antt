-- An emitted board has no fault of nets, and its gates don't read each other in a circle.
use Rattle.std.proofs.Common.{◌≡◌, ◌<◌, ◌≤◌, ◌++◌, ◌∙◌, inl, inr, ℕ, zero, suc, true, false, List, [], ◌∷◌, length, map, take, slice_get, slice_index, Option, Some, None, find, option_map, filter_map, flat_map, is_none, ap, ap₂, refl, sym, subst, ⊎_elim, append-nil, true≢false, arith}
use Rattle.std.specs.List.{AllByRecursion, cons_option, range_with_len}
use Rattle.std.specs.Prelude.{option_to_list}
use Rattle.std.specs.Str.{bytes_eq}
use Rattle.std.proofs.lemmas.Option.{none-some, same_Some, slice_get-map}
use Rattle.vw_net.proofs.ListedLists.{stands_below}
use Rattle.vw_net.specs.Cells.{latch_count}
use Rattle.vw_net.specs.declared.cell.Cell.{Cell}
use Rattle.vw_net.specs.declared.cell.Cell.TheVariants.{Gate as GateCell, Latch as LatchCell}
use Rattle.vw_net.specs.declared.cell.Init.{Init}
use Rattle.vw_net.specs.declared.cover.Cover.{Cover}
use Rattle.vw_plan.specs.PlannedBoard.{PlannedBoard}
use Rattle.vw_plan.specs.Sound.{IsSound}
use Rattle.vw_design.specs.Accepted.{HasNoModelFault, IsAccepted}
use Rattle.vw_design.specs.Clocks.{clock_ports, clocks_of, control_ports, port_of}
use Rattle.vw_design.specs.Distinct.{has_name}
use Rattle.vw_design.specs.Drivers.{Source, at_cell, at_port, driver}
use Rattle.vw_design.specs.Limits.{IsSmall}
use Rattle.vw_design.specs.Loops.{Gate, IsLoopFree, gate_reads}
use Rattle.vw_design.specs.NetFaults.{Edged, edge_at, first_unlike, is_cell_source, is_clock_source, same_edge, several_edges, undriven, written_edge}
use Rattle.vw_design.specs.NetReads.{controls, controls_of, data_of, data_reads, net_at, net_reads, nets_at, root_outputs}
use Rattle.vw_design.specs.PathValue.{item_at}
use Rattle.vw_design.specs.Paths.{Net, Path, Word, items_of, model_at, model_outputs}
use Rattle.vw_design.specs.Preorder.{Site, is_latch_item, latches, sites}
use Rattle.vw_design.specs.declared.design.Design.{Design}
use Rattle.vw_design.specs.declared.item.Edge.{Edge}
use Rattle.vw_design.specs.declared.item.Edge.TheVariants.{Unsaid}
use Rattle.vw_design.specs.declared.item.Item.{Item}
use Rattle.vw_design.specs.declared.item.Item.TheVariants.{Latch, Names, Sub}
use Rattle.vw_design.specs.declared.model.Model.{Model}
use Rattle.vw_design.proofs.DistinctNames.{in_range}
use Rattle.vw_design.proofs.ListElements.{Has, Has-append, from-filter, from-flat_map, from-map}
use Rattle.vw_design.proofs.RankedGates.{is_gate_item, ranked_loop_free, read_by, reader}
use Rattle.vw_design.proofs.Sites.{site_item}
use Rattle.vw_emit_hardware.specs.Driven.{rank}
use Rattle.vw_emit_hardware.specs.Items.{node_items}
use Rattle.vw_emit_hardware.specs.Locals.{Local, LocalItem, column, coming, drives, kept, locals_read, register, result, table as local_table}
use Rattle.vw_emit_hardware.specs.Names.{name_at}
use Rattle.vw_emit_hardware.specs.Tables.{pass}
use Rattle.vw_emit_hardware.proofs.Clocks.{cell_chip}
use Rattle.vw_emit_hardware.proofs.Members.{has_latch_register, has_result}
use Rattle.vw_emit_hardware.proofs.Origins.{origin}
use Rattle.vw_emit_hardware.proofs.PortOrigins.{has_latch_port, has_result_port}
use Rattle.vw_emit_hardware.proofs.WellRead.{ReadsWell, well_read}
use Rattle.vw_emit_names.specs.Boards.{IsBoardOf, PlainItem, PlainModel, all_nodes, latch, place, placed_node, plain_item, spelled_item, table}
use Rattle.vw_emit_names.specs.Spelled.{shown_net, spelled}
use Rattle.vw_emit_names.proofs.Drivers.{DrivenBy, driven_by, from_column, from_item, item_driver, output_net}
use Rattle.vw_emit_names.proofs.Models.{PlaceOf, at_node, at_root, mapped_at, place_of, root, root_at}
use Rattle.vw_emit_names.proofs.PlacedFaults.{faultless, find_nothing}
use Rattle.vw_emit_names.proofs.RootNames.{no_two_drivers}

-- ---- lists

flat_nothing : {A B : Type 0} (f : A → List B) (xs : List A) → ((x : A) → Has x xs → f x ≡ []) → flat_map f xs ≡ []
flat_nothing f [] none = refl
flat_nothing f (x ∷ xs) none = ap₂ (λ (front back : List _). front ++ back) (none x (inl refl)) (flat_nothing f xs (λ y has. none y (inr has)))

filter_nothing : {A B : Type 0} (f : A → Option B) (xs : List A) → ((x : A) → Has x xs → f x ≡ None) → filter_map f xs ≡ []
filter_nothing f [] none = refl
filter_nothing f (x ∷ xs) none = ap₂ (λ (found : Option _) (rest : List _). cons_option found rest) (none x (inl refl)) (filter_nothing f xs (λ y has. none y (inr has)))

all_has : {A : Type 0} (P : A → Type 0) (xs : List A) → AllByRecursion P xs → (x : A) → Has x xs → P x
all_has P [] all x has = absurd has
all_has P (y ∷ xs) all x has = ⊎_elim (λ same. subst P same all.0) (λ later. all_has P xs all.1 x later) has

-- each number of a latch is that of a cell
record IsLatchNumber (cells : List Cell) (number : ℕ) : Type 0 where
  cell : ℕ
  d : ℕ
  init : Init
  at : slice_get cells cell ≡ Some (LatchCell d init)
  number_is : latch_count (take cell cells) ≡ number

latch_number : (cells : List Cell) (number : ℕ) → number < latch_count cells → IsLatchNumber cells number
latch_number [] number below = absurd (omega (arith, below))
latch_number (GateCell ins cover ∷ cells) number below =
    let rest = latch_number cells number below in
    record { cell = suc rest.cell; d = rest.d; init = rest.init; at = rest.at; number_is = rest.number_is }
latch_number (LatchCell d init ∷ cells) zero below = record { cell = 0; d = d; init = init; at = refl; number_is = refl }
latch_number (LatchCell d init ∷ cells) (suc number) below =
    let rest = latch_number cells number (omega (arith, below)) in
    record { cell = suc rest.cell; d = rest.d; init = rest.init; at = rest.at; number_is = ap (λ (n : ℕ). suc n) rest.number_is }

-- ---- what plain items say of items

abbrev plain_data : PlainItem → List Word
plain_data (table ins out on rows) = ins
plain_data (latch d q edge control init) = d ∷ []
plain_data (place model binds) = []

data_plain : (item : Item) → data_of item ≡ plain_data (plain_item item)
data_plain (Names line ins out cover) = refl
data_plain (Latch line d q edge control init) = refl
data_plain (Sub line model binds) = refl

data_spelled : (local : LocalItem) → plain_data (spelled_item local) ≡ map spelled (locals_read local)
data_spelled (local_table ins out on rows) = refl
data_spelled (register next own init) = refl

abbrev plain_controls : PlainItem → List Word
plain_controls (table ins out on rows) = []
plain_controls (latch d q edge control init) = option_to_list control
plain_controls (place model binds) = []

controls_plain : (item : Item) → controls_of item ≡ plain_controls (plain_item item)
controls_plain (Names line ins out cover) = refl
controls_plain (Latch line d q edge control init) = refl
controls_plain (Sub line model binds) = refl

controls_spelled : (local : LocalItem) → plain_controls (spelled_item local) ≡ []
controls_spelled (local_table ins out on rows) = refl
controls_spelled (register next own init) = refl

abbrev plain_edge : PlainItem → Edge
plain_edge (table ins out on rows) = Unsaid
plain_edge (latch d q edge control init) = edge
plain_edge (place model binds) = Unsaid

edge_plain : (path : Path) (item : Item) → plain_edge (plain_item item) ≡ Unsaid → edge_at path item ≡ None
edge_plain path (Names line ins out cover) is = refl
edge_plain path (Latch line d q edge control init) is = ap (written_edge path q) is
edge_plain path (Sub line model binds) is = refl

edge_spelled : (local : LocalItem) → plain_edge (spelled_item local) ≡ Unsaid
edge_spelled (local_table ins out on rows) = refl
edge_spelled (register next own init) = refl

module _ (planned : PlannedBoard) (sound : IsSound planned) (board : Design) (is_board : IsBoardOf planned board) where
  -- ---- items of instances

  -- an item of the board places a node; one of a node is a cell
  pub data ItemOf (path : Path) (number : ℕ) (item : Item) : Type 0 where
    a_placing : (node : ℕ) → plain_item item ≡ placed_node planned node → ItemOf path number item
    a_cell : (node : ℕ) → node ≤ planned.board.chips → path ≡ suc node ∷ [] → (local : LocalItem)
        → slice_get (node_items planned node) number ≡ Some local → plain_item item ≡ spelled_item local → ItemOf path number item

  pub item_of : (path : Path) (number : ℕ) (item : Item) → item_at board path number ≡ Some item → ItemOf path number item
  item_of path number item at = by (model_at board path) refl at where
    in_model : (model : Model) → slice_get model.items number ≡ Some item → PlaceOf planned board is_board path model → ItemOf path number item
    in_model model there (at_root empty same) =
        let own = root planned board is_board in
        let here : slice_get own.0.items number ≡ Some item = ap (λ (m : Model). slice_get m.items number) same ∙ there in
        let plain : slice_get (map (placed_node planned) (all_nodes planned)) number ≡ Some (plain_item item) = ap (λ (list : List PlainItem). slice_get list number) (sym (ap (λ (m : PlainModel). m.items) own.1.same)) ∙ slice_get-map plain_item own.0.items number ∙ ap (option_map plain_item) here in
        let found = mapped_at (placed_node planned) (all_nodes planned) (map (placed_node planned) (all_nodes planned)) refl number (plain_item item) plain in
        a_placing found.0 (sym found.2)
    in_model model there (at_node node among is node_is) =
        let plain : slice_get (map spelled_item (node_items planned node)) number ≡ Some (plain_item item) = ap (λ (list : List PlainItem). slice_get list number) (sym (ap (λ (m : PlainModel). m.items) node_is.same)) ∙ slice_get-map plain_item model.items number ∙ ap (option_map plain_item) there in
        let found = mapped_at spelled_item (node_items planned node) (map spelled_item (node_items planned node)) refl number (plain_item item) plain in
        a_cell node among is found.0 found.1 (sym found.2)

    by : (found : Option Model) → model_at board path ≡ found → slice_get (items_of found) number ≡ Some item → ItemOf path number item
    by None is there = absurd (none-some item there)
    by (Some model) is there = in_model model there (place_of planned board is_board path model is)

  -- what an item locals_read as data, and that it has no control and no edge
  no_controls : (path : Path) (number : ℕ) (item : Item) → ItemOf path number item → controls_of item ≡ []
  no_controls path number item (a_placing node same) = controls_plain item ∙ ap plain_controls same
  no_controls path number item (a_cell node among is local at same) = controls_plain item ∙ ap plain_controls same ∙ controls_spelled local

  no_edge : (path : Path) (number : ℕ) (item : Item) → ItemOf path number item → edge_at path item ≡ None
  no_edge path number item (a_placing node same) = edge_plain path item (ap plain_edge same)
  no_edge path number item (a_cell node among is local at same) = edge_plain path item (ap plain_edge same ∙ edge_spelled local)

  -- a name that a node's item locals_read is that of a net that it locals_read well
  record ReadsNet (path : Path) (local : LocalItem) (name : Word) (node : ℕ) (among : node ≤ planned.board.chips) : Type 0 where
    net : Local
    name_is : spelled net ≡ name
    well : ReadsWell planned sound node among local net

  reads_net : (path : Path) (number : ℕ) (item : Item) (node : ℕ) (among : node ≤ planned.board.chips) (local : LocalItem)
      → slice_get (node_items planned node) number ≡ Some local → plain_item item ≡ spelled_item local
      → (name : Word) → Has name (data_of item) → ReadsNet path local name node among
  reads_net path number item node among local at same name has =
      let names : data_of item ≡ map spelled (locals_read local) = data_plain item ∙ ap plain_data same ∙ data_spelled local in
      let from = from-map spelled name (locals_read local) (subst (λ (list : List Word). Has name list) names has) in
      record { net = from.0; name_is = from.2; well = all_has (ReadsWell planned sound node among local) (locals_read local) (well_read planned sound node among local (origin planned node local (number, at))) from.0 from.1 }

  module _ (small : IsSmall board) where
    none : HasNoModelFault board
    none = faultless planned sound board is_board small

    -- ---- what is read is driven

    driven_some : (node : ℕ) (net : Local) → DrivenBy planned sound board is_board none node net → is_none (driver board (suc node ∷ []) (spelled net)) ≡ false
    driven_some node net (from_column number within same drives_it) = ap (λ (found : Option Source). is_none found) drives_it
    driven_some node net (from_item at number item among there same drives_it) = ap (λ (found : Option Source). is_none found) drives_it

    data_driven : (path : Path) (number : ℕ) (item : Item) → ItemOf path number item → (name : Word) → Has name (data_of item)
        → is_none (driver board path name) ≡ false
    data_driven path number item (a_placing node same) name has = absurd (subst (λ (list : List Word). Has name list) (data_plain item ∙ ap plain_data same) has)
    data_driven path number item (a_cell node among is local at same) name has =
        let read = reads_net path number item node among local at same name has in
        ap₂ (λ (p : Path) (w : Word). is_none (driver board p w)) is (sym read.name_is) ∙ driven_some node read.net (driven_by planned sound board is_board none node read.net read.well.0)

    -- the board's outputs
    pub result_net : (output : ℕ) → output < length planned.ordered.flat.outputs
        → driver board [] (spelled (result output)) ≡ driver board (suc 0 ∷ []) (spelled (result output))
    result_net output within = output_net planned sound board is_board none 0 (omega arith) (result output) (has_result_port planned 0 output refl within)

    pub latch_net : (cell d : ℕ) (init : Init) → slice_get planned.ordered.flat.cells cell ≡ Some (LatchCell d init)
        → driver board [] (shown_net (latch_count (take cell planned.ordered.flat.cells))) ≡ driver board (suc (slice_index planned.plan.chip_of cell) ∷ []) (spelled (kept cell))
    latch_net cell d init at =
        let chip = cell_chip planned sound cell (LatchCell d init) at in
        output_net planned sound board is_board none (slice_index planned.plan.chip_of cell) chip.1 (kept cell) (has_latch_port planned (slice_index planned.plan.chip_of cell) cell d init at refl chip.0)

    root_driven : (name : Word) → Has name (model_outputs (model_at board [])) → is_none (driver board [] name) ≡ false
    root_driven name has =
        let own = root planned board is_board in
        let flat = planned.ordered.flat in
        let results = map (λ output. spelled (result output)) (range_with_len 0 (length flat.outputs)) in
        let shown = map shown_net (range_with_len 0 (latch_count flat.cells)) in
        let outputs : model_outputs (model_at board []) ≡ results ++ shown = ap model_outputs (root_at planned board is_board) ∙ ap (λ (m : PlainModel). m.outputs) own.1.same in
        ⊎_elim of_result of_latch (Has-append name results shown (subst (λ (list : List Word). Has name list) outputs has)) where
          of_result : Has name (map (λ output. spelled (result output)) (range_with_len 0 (length planned.ordered.flat.outputs)))
              → is_none (driver board [] name) ≡ false
          of_result there =
              let from = from-map (λ output. spelled (result output)) name (range_with_len 0 (length planned.ordered.flat.outputs)) there in
              let below = in_range 0 (length planned.ordered.flat.outputs) from.0 from.1 in
              let inside : from.0 < length planned.ordered.flat.outputs = omega (arith, below.1) in
              let net = stands_below planned.ordered.flat.outputs from.0 inside in
              let item = has_result planned from.0 net.0 net.1 in
              ap (λ (w : Word). is_none (driver board [] w)) (sym from.2) ∙ ap (λ (found : Option Source). is_none found) (result_net from.0 inside ∙ item_driver planned sound board is_board 0 item.place (local_table (name_at planned 0 net.0 ∷ []) (result from.0) true pass) item.among item.stands)

          of_latch : Has name (map shown_net (range_with_len 0 (latch_count planned.ordered.flat.cells))) → is_none (driver board [] name) ≡ false
          of_latch there =
              let from = from-map shown_net name (range_with_len 0 (latch_count planned.ordered.flat.cells)) there in
              let below = in_range 0 (latch_count planned.ordered.flat.cells) from.0 from.1 in
              let is = latch_number planned.ordered.flat.cells from.0 (omega (arith, below.1)) in
              let chip = cell_chip planned sound is.cell (LatchCell is.d is.init) is.at in
              let item = has_latch_register planned (slice_index planned.plan.chip_of is.cell) chip.1 is.cell is.d is.init is.at refl in
              ap (λ (w : Word). is_none (driver board [] w)) (sym from.2 ∙ ap shown_net (sym is.number_is))
              ∙ ap (λ (found : Option Source). is_none found) (latch_net is.cell is.d is.init is.at ∙ item_driver planned sound board is_board (slice_index planned.plan.chip_of is.cell) item.place (register (coming is.cell) (kept is.cell) is.init) item.among item.stands)

    site_of : (site : Site) → Has site (sites board) → ItemOf site.path site.number site.item
    site_of site has = item_of site.path site.number site.item (site_item board site has)

    all_driven : undriven board ≡ None
    all_driven = find_nothing (λ (net : Net). is_none (driver board net.path net.name)) (net_reads board) (λ net has.
        ⊎_elim (λ front.
        let from = from-flat_map (λ (site : Site). nets_at site (data_of site.item ++ controls_of site.item)) (sites board) net front in
        let of = site_of from.0 from.1 in
        let name = from-map (net_at from.0.path) net (data_of from.0.item ++ controls_of from.0.item) from.2 in
        let data_name = subst (λ (list : List Word). Has name.0 list) (ap (λ (more : List Word). data_of from.0.item ++ more) (no_controls from.0.path from.0.number from.0.item of) ∙ append-nil (data_of from.0.item)) name.1 in
        subst (λ (n : Net). is_none (driver board n.path n.name) ≡ false) name.2 (data_driven from.0.path from.0.number from.0.item of name.0 data_name))
        (λ back. let name = from-map (net_at []) net (model_outputs (model_at board [])) back in subst (λ (n : Net). is_none (driver board n.path n.name) ≡ false) name.2 (root_driven name.0 name.1))
        (Has-append net (flat_map (λ (site : Site). nets_at site (data_of site.item ++ controls_of site.item)) (sites board)) (root_outputs board) has))

    -- ---- there is no clock

    pub controls_none : controls board ≡ []
    controls_none = flat_nothing (λ (site : Site). nets_at site (controls_of site.item)) (sites board) (λ site has. ap (nets_at site) (no_controls site.path site.number site.item (site_of site has)))

    ports_none : control_ports board ≡ []
    ports_none = ap (λ (nets : List Net). filter_map (λ (net : Net). port_of (driver board net.path net.name)) nets) controls_none

    pub clocks_none : clock_ports board ≡ []
    unfolding clock_ports
    clocks_none = ap₂ (λ (a b : List Word). a ++ b) (ap clocks_of (root_at planned board is_board) ∙ ap (λ (m : PlainModel). m.clocks) (root planned board is_board).1.same) ports_none

    edges_none : several_edges board ≡ None
    edges_none = ap (λ (list : List Edged). first_unlike (λ one other. same_edge one.edge other.edge) list) (filter_nothing (λ (site : Site). edge_at site.path site.item) (latches board) (λ site has.
        no_edge site.path site.number site.item (site_of site (from-filter (λ (one : Site). is_latch_item one.item) site (sites board) has).0)))

    no_clock : (source : Option Source) → is_clock_source board source ≡ false
    no_clock None = refl
    no_clock (Some (at_port name)) = ap (λ (list : List Word). has_name list name) clocks_none
    no_clock (Some (at_cell path item)) = refl

    -- so it is accepted
    pub accepted : IsAccepted board
    accepted = record {
      models = none;
      driven = all_driven;
      one_driver = no_two_drivers planned sound board is_board;
      clocks_free = ap (λ (nets : List Net). find (λ (net : Net). is_cell_source (driver board net.path net.name)) nets) controls_none;
      one_clock = ap (λ (list : List Word). first_unlike bytes_eq list) ports_none;
      one_edge = edges_none;
      no_clock_read = find_nothing (λ (net : Net). is_clock_source board (driver board net.path net.name)) (data_reads board) (λ net has. no_clock (driver board net.path net.name));
    }

    -- ---- ranks

    abbrev item_rank : Option LocalItem → ℕ
    item_rank None = 0
    item_rank (Some item) = rank planned (drives item)

    abbrev place_rank : Path → ℕ → ℕ
    place_rank [] number = 0
    place_rank (zero ∷ path) number = 0
    place_rank (suc node ∷ path) number = item_rank (slice_get (node_items planned node) number)

    -- what drives a net has its rank
    driver_rank : (node : ℕ) (net : Local) → DrivenBy planned sound board is_board none node net → (path : Path) (number : ℕ)
        → driver board (suc node ∷ []) (spelled net) ≡ Some (at_cell path number) → place_rank path number ≡ rank planned net
    driver_rank node net (from_column column_number within same drives_it) path number is = absurd (other_source (spelled (column column_number)) path number (same_Some (at_port (spelled (column column_number))) (at_cell path number) (sym drives_it ∙ is))) where
      other_source : (name : Word) (p : Path) (k : ℕ) → at_port name ≡ at_cell p k → ⊥
      other_source name p k same_source = cc
    driver_rank node net (from_item at place_number item among there same drives_it) path number is =
        let equal = same_Some (at_cell (suc at ∷ []) place_number) (at_cell path number) (sym drives_it ∙ is) in
        ap₂ place_rank (sym (path_same (suc at ∷ []) path place_number number equal)) (sym (number_same (suc at ∷ []) path place_number number equal)) ∙ ap item_rank there
        ∙ ⊎_elim (λ own. ap (rank planned) own) (λ pin. ap (rank planned) pin.3 ∙ ap (rank planned) (sym pin.2)) same where
          path_same : (p q : Path) (j k : ℕ) → at_cell p j ≡ at_cell q k → p ≡ q
          path_same p q j k e = cc

          number_same : (p q : Path) (j k : ℕ) → at_cell p j ≡ at_cell q k → j ≡ k
          number_same p q j k e = cc

    -- a gate has a greater rank than those that it locals_read
    table_rises : (node : ℕ) (among : node ≤ planned.board.chips) (local : LocalItem) (line : ℕ) (ins : List Word) (out : Word) (cover : Cover)
        → plain_item (Names line ins out cover) ≡ spelled_item local → (net : Local) → ReadsWell planned sound node among local net
        → rank planned net < rank planned (drives local)
    table_rises node among (local_table reads_these drives_this on rows) line ins out cover same net well = well.1
    table_rises node among (register next own init) line ins out cover same net well = cc

    falls : (gate other : Gate) → gate_reads board gate other ≡ true → is_gate_item (item_at board other.path other.number) ≡ true
        → place_rank other.path other.number < place_rank gate.path gate.number
    falls gate other reads_it is = by (item_at board gate.path gate.number) refl (reader board gate other reads_it) where
      of : (line : ℕ) (ins : List Word) (out : Word) (cover : Cover) → item_at board gate.path gate.number ≡ Some (Names line ins out cover)
          → ItemOf gate.path gate.number (Names line ins out cover) → place_rank other.path other.number < place_rank gate.path gate.number
      of line ins out cover at (a_placing node same) = cc
      of line ins out cover at (a_cell node among path_is local there same) =
          let read = read_by board gate other line ins out cover at reads_it in
          let own = reads_net gate.path gate.number (Names line ins out cover) node among local there same read.name read.has in
          let drives_it : driver board (suc node ∷ []) (spelled own.net) ≡ Some (at_cell other.path other.number) = ap₂ (driver board) (sym path_is) own.name_is ∙ read.drives in
          let lower = driver_rank node own.net (driven_by planned sound board is_board none node own.net own.well.0) other.path other.number drives_it in
          let rises = table_rises node among local line ins out cover same own.net own.well in
          let upper : place_rank gate.path gate.number ≡ rank planned (drives local) = ap (λ (p : Path). place_rank p gate.number) path_is ∙ ap item_rank there in
          omega (arith, lower, rises, upper)

      by : (item : Option Item) → item_at board gate.path gate.number ≡ item → is_gate_item item ≡ true
          → place_rank other.path other.number < place_rank gate.path gate.number
      by None at gate_is = absurd (true≢false (sym gate_is))
      by (Some (Latch line d q edge control init)) at gate_is = absurd (true≢false (sym gate_is))
      by (Some (Sub line model binds)) at gate_is = absurd (true≢false (sym gate_is))
      by (Some (Names line ins out cover)) at gate_is = of line ins out cover at (item_of gate.path gate.number (Names line ins out cover) at)

    -- so no gates read each other in a circle
    pub loop_free : IsLoopFree board
    loop_free = ranked_loop_free board (λ (gate : Gate). place_rank gate.path gate.number) (record { falls = falls })
