-- An emitted board that fits is small: its inputs, outputs, instances, bindings, cells and levels are within their limits.
use Rattle.std.proofs.Common.{◌≡◌, ◌∙◌, ◌≤◌, ◌+◌, max, not, ℕ, suc, true, List, [], ◌∷◌, length, map, slice_get, Option, Some, inl, inr, ap, ap₂, refl, sym, true≢false, arith}
use Rattle.std.specs.Prelude.{sum_by}
use Rattle.std.specs.List.{list_all, range_with_len}
use Rattle.std.proofs.lemmas.List.{length-append, length-map}
use Rattle.std.proofs.lemmas.List.FromFn.{length-map-range_with_len}
use Rattle.std.proofs.lemmas.List.Sums.{count_by-le-length, length-filter, sum_by-cons}
use Rattle.std.proofs.lemmas.Option.{same_Some}
use Rattle.vw_net.specs.Cells.{latch_count}
use Rattle.vw_net.proofs.Counts.{latch_count-le}
use Rattle.vw_design.specs.Clocks.{clocks_of, inputs_of}
use Rattle.vw_design.specs.Counts.{cell_one, items_height, items_weight, model_height, model_weight, placed_one}
use Rattle.vw_design.specs.Distinct.{has_name}
use Rattle.vw_design.specs.Limits.{IsSmall, binding_count, binding_weight, cell_count, greatest_depth, input_count, instance_count, output_count, weight_of}
use Rattle.vw_design.specs.Paths.{Word, items_of, model_at, model_named, model_outputs}
use Rattle.vw_design.specs.Preorder.{is_cell, sites}
use Rattle.vw_design.specs.declared.design.Design.{Design}
use Rattle.vw_design.specs.declared.item.Bind.{Bind}
use Rattle.vw_design.specs.declared.item.Item.{Item}
use Rattle.vw_design.specs.declared.item.Item.TheVariants.{Latch, Names, Sub}
use Rattle.vw_design.specs.declared.model.Model.{Model}
use Rattle.vw_design.proofs.DistinctNames.{in_range}
use Rattle.vw_design.proofs.Heights.{design_reaches}
use Rattle.vw_design.proofs.ListElements.{Has}
use Rattle.vw_design.proofs.Weights.{cells_weigh, design_weighs, instances_weigh, root_named}
use Rattle.vw_plan.specs.PlannedBoard.{PlannedBoard}
use Rattle.vw_plan.specs.Sound.{IsSound}
use Rattle.vw_emit_text.specs.Emitted.{FitsDesigns}
use Rattle.vw_emit_hardware.specs.Items.{node_items}
use Rattle.vw_emit_hardware.specs.Locals.{column, result}
use Rattle.vw_emit_names.specs.Boards.{IsBoardOf, Joined, PlainItem, PlainModel, all_nodes, latch, node_ports, place, placed_node, plain_bind, plain_item, port_joined, spelled_item, table}
use Rattle.vw_emit_names.specs.Spelled.{node_name, shown_net, spelled}
use Rattle.vw_emit_names.proofs.Models.{node_model_of, node_named, root, root_at}
use Rattle.vw_emit_names.proofs.NodeNames.{node_leaf}
use Rattle.vw_emit.proofs.CellTotals.{items_few}
use Rattle.vw_emit.proofs.PortTotals.{ports_total}
use Rattle.vw_emit.proofs.Totals.{total, total_same}

-- ---- items that place nothing

leaf_none : (weight : Item → ℕ) (below : Word → ℕ) → ((item : Item) → is_cell item ≡ true → weight item ≡ 0) → (items : List Item)
    → list_all is_cell items ≡ true → items_weight weight below items ≡ 0
leaf_none weight below none [] all = refl
leaf_none weight below none (Names line ins out cover ∷ items) all = omega (arith, none (Names line ins out cover) refl, leaf_none weight below none items all)
leaf_none weight below none (Latch line d q edge control init ∷ items) all = omega (arith, none (Latch line d q edge control init) refl, leaf_none weight below none items all)
leaf_none weight below none (Sub line model binds ∷ items) all = absurd (true≢false (sym all))

leaf_cells : (below : Word → ℕ) (items : List Item) → list_all is_cell items ≡ true → items_weight cell_one below items ≡ length items
leaf_cells below [] all = refl
leaf_cells below (Names line ins out cover ∷ items) all = omega (arith, leaf_cells below items all)
leaf_cells below (Latch line d q edge control init ∷ items) all = omega (arith, leaf_cells below items all)
leaf_cells below (Sub line model binds ∷ items) all = absurd (true≢false (sym all))

leaf_low : (below : Word → ℕ) (items : List Item) → list_all is_cell items ≡ true → items_height below items ≡ 0
leaf_low below [] all = refl
leaf_low below (Names line ins out cover ∷ items) all = ap (max 0) (leaf_low below items all)
leaf_low below (Latch line d q edge control init ∷ items) all = ap (max 0) (leaf_low below items all)
leaf_low below (Sub line model binds ∷ items) all = absurd (true≢false (sym all))

-- ---- items that are placed nodes

-- a placed node, as the design has it
record IsPlaced (planned : PlannedBoard) (node : ℕ) (model : Word) (binds : List Bind) : Type 0 where
  named : model ≡ node_name node
  bound : map plain_bind binds ≡ map (port_joined planned) (node_ports planned node)

model_in : PlainItem → Word
model_in (table ins out on rows) = []
model_in (latch d q edge control init) = []
model_in (place name joined) = name

binds_in : PlainItem → List Joined
binds_in (table ins out on rows) = []
binds_in (latch d q edge control init) = []
binds_in (place name joined) = joined

behind_first : List PlainItem → List PlainItem
behind_first [] = []
behind_first (item ∷ items) = items

placed_is : (planned : PlannedBoard) (node line : ℕ) (model : Word) (binds : List Bind)
    → plain_item (Sub line model binds) ≡ placed_node planned node → IsPlaced planned node model binds
unfolding model_in binds_in
placed_is planned node line model binds same = record { named = ap model_in same; bound = ap binds_in same }

module _ (planned : PlannedBoard) where
  first_same : (item : Item) (items : List Item) (node : ℕ) (nodes : List ℕ)
      → map plain_item (item ∷ items) ≡ map (placed_node planned) (node ∷ nodes) → plain_item item ≡ placed_node planned node
  first_same item items node nodes same = same_Some (plain_item item) (placed_node planned node) (ap (λ (list : List PlainItem). slice_get list 0) same)

  rest_same : (item : Item) (items : List Item) (node : ℕ) (nodes : List ℕ)
      → map plain_item (item ∷ items) ≡ map (placed_node planned) (node ∷ nodes) → map plain_item items ≡ map (placed_node planned) nodes
  unfolding behind_first
  rest_same item items node nodes same = ap behind_first same

  over_nodes : (weight : Item → ℕ) (below : Word → ℕ) (of_node : ℕ → ℕ) (items : List Item) (nodes : List ℕ)
      → map plain_item items ≡ map (placed_node planned) nodes
      → ((node : ℕ) → Has node nodes → (line : ℕ) (model : Word) (binds : List Bind) → IsPlaced planned node model binds → weight (Sub line model binds) + below model ≡ of_node node)
      → items_weight weight below items ≡ sum_by of_node nodes
  over_nodes weight below of_node [] [] same each = refl
  over_nodes weight below of_node [] (node ∷ nodes) same each = cc
  over_nodes weight below of_node (item ∷ items) [] same each = cc
  over_nodes weight below of_node (item ∷ items) (node ∷ nodes) same each =
      by item (first_same item items node nodes same) (over_nodes weight below of_node items nodes (rest_same item items node nodes same) (λ other has. each other (inr has))) where
        by : (one : Item) → plain_item one ≡ placed_node planned node → items_weight weight below items ≡ sum_by of_node nodes
            → items_weight weight below (one ∷ items) ≡ sum_by of_node (node ∷ nodes)
        by (Names line ins out cover) is rest = cc
        by (Latch line d q edge control init) is rest = cc
        by (Sub line model binds) is rest = omega (arith, each node (inl refl) line model binds (placed_is planned node line model binds is), rest, sum_by-cons of_node node nodes)

  -- none of which is higher than one level
  nodes_high : (below : Word → ℕ) (items : List Item) (nodes : List ℕ) → map plain_item items ≡ map (placed_node planned) nodes
      → ((node : ℕ) → Has node nodes → below (node_name node) ≡ 0) → items_height below items ≤ 1
  nodes_high below [] nodes same each = omega arith
  nodes_high below (item ∷ items) [] same each = cc
  nodes_high below (item ∷ items) (node ∷ nodes) same each =
      by item (first_same item items node nodes same) (nodes_high below items nodes (rest_same item items node nodes same) (λ other has. each other (inr has))) where
        by : (one : Item) → plain_item one ≡ placed_node planned node → items_height below items ≤ 1 → items_height below (one ∷ items) ≤ 1
        by (Names line ins out cover) is rest = cc
        by (Latch line d q edge control init) is rest = cc
        by (Sub line model binds) is rest =
            let low : below model ≡ 0 = ap below (placed_is planned node line model binds is).named ∙ each node (inl refl) in
            omega (arith, low, rest)

-- ---- all of a board

module _ (planned : PlannedBoard) (sound : IsSound planned) (board : Design) (is_board : IsBoardOf planned board) where
  abbrev first : Model
  first = (root planned board is_board).0

  first_items : map plain_item first.items ≡ map (placed_node planned) (all_nodes planned)
  first_items = ap (λ (model : PlainModel). model.items) (root planned board is_board).1.same

  among : (node : ℕ) → Has node (all_nodes planned) → node ≤ planned.board.chips
  among node has = let below = in_range 0 (planned.board.chips + 1) node has in omega (arith, below.1)

  abbrev levels : ℕ
  levels = 63 + length board.models

  two_levels : 65 + length board.models ≡ suc (suc levels)
  two_levels = omega arith

  -- the items of a node, by its name
  module _ (node : ℕ) (inside : node ≤ planned.board.chips) where
    abbrev own : Model
    own = (node_model_of planned board is_board node inside).0

    named : model_named board.models (node_name node) ≡ Some own
    named = node_named planned board is_board node own (node_model_of planned board is_board node inside).1

    leaf : list_all is_cell own.items ≡ true
    leaf = node_leaf planned sound node board is_board own (node_model_of planned board is_board node inside).1

    long : length own.items ≡ length (node_items planned node)
    long =
        let same : map plain_item own.items ≡ map spelled_item (node_items planned node) = ap (λ (model : PlainModel). model.items) (node_model_of planned board is_board node inside).1.same in
        sym (length-map own.items plain_item) ∙ ap length same ∙ length-map (node_items planned node) spelled_item

    weighs : (weight : Item → ℕ) (depth : ℕ)
        → model_weight board weight (suc depth) (node_name node) ≡ items_weight weight (model_weight board weight depth) own.items
    weighs weight depth = ap (λ (found : Option Model). items_weight weight (model_weight board weight depth) (items_of found)) named

    reaches : (depth : ℕ) → model_height board (suc depth) (node_name node) ≡ 0
    reaches depth = ap (λ (found : Option Model). items_height (model_height board depth) (items_of found)) named ∙ leaf_low (model_height board depth) own.items leaf

  -- what all sites weigh
  board_weighs : (weight : Item → ℕ) (of_node : ℕ → ℕ)
      → ((node : ℕ) (inside : node ≤ planned.board.chips) (line : ℕ) (model : Word) (binds : List Bind) → IsPlaced planned node model binds → weight (Sub line model binds) + items_weight weight (model_weight board weight levels) (own node inside).items ≡ of_node node)
      → weight_of weight (sites board) ≡ sum_by of_node (all_nodes planned)
  board_weighs weight of_node each =
      design_weighs board weight first (root_at planned board is_board)
      ∙ ap (λ (depth : ℕ). model_weight board weight depth first.name) two_levels
      ∙ ap (λ (found : Option Model). items_weight weight (model_weight board weight (suc levels)) (items_of found)) (root_named board first (root_at planned board is_board))
      ∙ over_nodes planned weight (model_weight board weight (suc levels)) of_node first.items (all_nodes planned) first_items (λ node has line model binds is.
      let inside = among node has in
      let below = ap (model_weight board weight (suc levels)) is.named ∙ weighs node inside weight levels in
      let whole = each node inside line model binds is in
      omega (arith, below, whole))

  cells_are : cell_count board ≡ total (λ node. length (node_items planned node)) 0 (planned.board.chips + 1)
  cells_are =
      cells_weigh (sites board)
      ∙ board_weighs cell_one (λ node. length (node_items planned node)) (λ node inside line model binds is.
      let cells = leaf_cells (model_weight board cell_one levels) (own node inside).items (leaf node inside) in
      omega (arith, cells, long node inside))

  instances_are : instance_count board ≡ planned.board.chips + 2
  instances_are =
      let placed = instances_weigh (sites board) in
      let whole = board_weighs placed_one (λ node. 1) (λ node inside line model binds is.
      let none = leaf_none placed_one (model_weight board placed_one levels) no_place (own node inside).items (leaf node inside) in
      omega (arith, none)) in
      let nodes = total_same 1 0 (planned.board.chips + 1) in
      omega (arith, placed, whole, nodes) where
        no_place : (item : Item) → is_cell item ≡ true → placed_one item ≡ 0
        no_place (Names line ins out cover) cell = refl
        no_place (Latch line d q edge control init) cell = refl
        no_place (Sub line model binds) cell = absurd (true≢false (sym cell))

  bindings_are : binding_count board ≡ total (λ node. length (node_ports planned node)) 0 (planned.board.chips + 1)
  bindings_are =
      board_weighs binding_weight (λ node. length (node_ports planned node)) (λ node inside line model binds is.
      let none = leaf_none binding_weight (model_weight board binding_weight levels) no_bind (own node inside).items (leaf node inside) in
      let bound = ap length is.bound in
      omega (arith, none, bound, length-map binds plain_bind, length-map (node_ports planned node) (port_joined planned))) where
        no_bind : (item : Item) → is_cell item ≡ true → binding_weight item ≡ 0
        no_bind (Names line ins out cover) cell = refl
        no_bind (Latch line d q edge control init) cell = refl
        no_bind (Sub line model binds) cell = absurd (true≢false (sym cell))

  depth_few : greatest_depth board ≤ 2
  depth_few =
      let reached = design_reaches board first (root_at planned board is_board) in
      let below = ap (λ (depth : ℕ). model_height board depth first.name) two_levels
      ∙ ap (λ (found : Option Model). items_height (model_height board (suc levels)) (items_of found)) (root_named board first (root_at planned board is_board)) in
      let high = nodes_high planned (model_height board (suc levels)) first.items (all_nodes planned) first_items (λ node has. reaches node (among node has) levels) in
      omega (arith, reached, below, high)

  inputs_few : input_count board ≤ planned.ordered.flat.inputs
  inputs_few =
      let at = root_at planned board is_board in
      let test = λ (name : Word). not (has_name (clocks_of (model_at board [])) name) in
      let ports : length (inputs_of (model_at board [])) ≡ planned.ordered.flat.inputs =
      ap (λ (found : Option Model). length (inputs_of found)) at ∙ ap (λ (model : PlainModel). length model.inputs) (root planned board is_board).1.same
      ∙ length-map-range_with_len (λ number. spelled (column number)) 0 planned.ordered.flat.inputs in
      omega (arith, length-filter test (inputs_of (model_at board [])), count_by-le-length test (inputs_of (model_at board [])), ports)

  outputs_are : output_count board ≡ length planned.ordered.flat.outputs + latch_count planned.ordered.flat.cells
  outputs_are =
      let flat = planned.ordered.flat in
      let outputs = map (λ number. spelled (result number)) (range_with_len 0 (length flat.outputs)) in
      let latches = map shown_net (range_with_len 0 (latch_count flat.cells)) in
      let one = length-map-range_with_len (λ number. spelled (result number)) 0 (length flat.outputs) in
      let two = length-map-range_with_len shown_net 0 (latch_count flat.cells) in
      ap (λ (found : Option Model). length (model_outputs found)) (root_at planned board is_board)
      ∙ ap (λ (model : PlainModel). length model.outputs) (root planned board is_board).1.same
      ∙ length-append outputs latches ∙ ap₂ (λ (a b : ℕ). a + b) one two

  pub board_small : FitsDesigns planned → IsSmall board
  board_small fits =
      let flat = planned.ordered.flat in
      let few = flat.few_inputs in
      let fits_outputs = fits.outputs in
      let fits_cells = fits.cells in
      let chips = planned.board.few_chips in
      let cells = flat.few_cells in
      let outputs = flat.few_outputs in
      let latches = latch_count-le flat.cells in
      let ports = ports_total planned 0 (planned.board.chips + 1) sound in
      let items = items_few planned 0 (planned.board.chips + 1) sound refl refl in
      record {
        inputs = omega (arith, inputs_few, few);
        outputs = omega (arith, outputs_are, fits_outputs);
        instances = omega (arith, instances_are, chips);
        bindings = omega (arith, bindings_are, ports, few, outputs, cells, latches, fits_cells);
        cells = omega (arith, cells_are, items, fits_cells);
        depth = omega (arith, depth_few);
      }
