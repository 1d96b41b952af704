-- An emitted board can be printed as it is emitted: plain words, no name twice, rows as wide as their tables, and each item on
-- its line.
use Rattle.std.proofs.Common.{◌≡◌, ◌∙◌, ◌≤◌, ◌+◌, ◌++◌, ◌&&◌, ◌==◌, not, ℕ, true, List, [], ◌∷◌, length, map, codes, inl, inr, ap, refl, sym, subst, eq-eqb, true≢false, arith}
use Rattle.std.specs.List.{list_all, list_any, range_with_len}
use Rattle.std.proofs.lemmas.Bool.{and_from, and_parts}
use Rattle.std.proofs.lemmas.Fmt.{decimal_injective}
use Rattle.std.proofs.lemmas.List.{map-append}
use Rattle.std.proofs.lemmas.List.Folds.{list_all-append}
use Rattle.vw_net.specs.Cells.{latch_count}
use Rattle.vw_net.proofs.Counts.{latch_count-le}
use Rattle.vw_text.specs.PlainLines.{is_plain}
use Rattle.vw_text.specs.declared.limits.TheConstants.{MOST_DESIGN_BYTES}
use Rattle.vw_design.specs.Distinct.{are_distinct}
use Rattle.vw_design.specs.Paths.{Word}
use Rattle.vw_design.proofs.DistinctNames.{distinct_append, distinct_front, distinct_map, distinct_more, in_range, once_range}
use Rattle.vw_design.proofs.ListElements.{Has, at-Has, from-map}
use Rattle.vw_design.proofs.Names.{has_name-Has}
use Rattle.vw_design.proofs.NumberedNames.{numbers_same}
use Rattle.vw_blif.specs.PlainDesigns.{IsPlainFor, are_plain_ports, have_line_numbers, have_numbers, is_plain_bind, is_plain_item, is_plain_model, line_of}
use Rattle.vw_blif.specs.Printed.{head_lines, item_lines, model_lines}
use Rattle.vw_plan.specs.PlannedBoard.{PlannedBoard}
use Rattle.vw_plan.specs.Sound.{IsSound}
use Rattle.vw_emit_text.specs.Emitted.{emitted_text}
use Rattle.vw_emit_hardware.specs.Items.{node_items}
use Rattle.vw_emit_hardware.specs.Locals.{Local, column, drives, result}
use Rattle.vw_emit_hardware.specs.Ports.{node_inputs, node_outputs}
use Rattle.vw_emit_hardware.proofs.PortOrigins.{from_outputs}
use Rattle.vw_emit_names.specs.Boards.{PlainItem, PlainModel, all_nodes, board_model, board_models, latch, node_model, node_ports, place, placed_node, port_joined, table}
use Rattle.vw_emit_names.specs.Spelled.{net_of_port, node_name, shown_net, spelled}
use Rattle.vw_emit_names.proofs.Codes.{first_number, spelled_once}
use Rattle.vw_emit_names.proofs.NodeNames.{names_distinct}
use Rattle.vw_emit_names.proofs.RootNames.{output_no_input, small_output}
use Rattle.vw_emit_names.proofs.RootOnce.{outputs_once}
use Rattle.vw_emit_text.specs.Numbered.{bound, emitting, model_from, models_from, on_line, on_lines, spelled_board, with_items}
use Rattle.vw_emit.proofs.PlainItems.{is_printable, node_printable}
use Rattle.vw_emit.proofs.PlainWords.{fine_local, fine_net, fine_node, fine_shown, not_empty, plain_names}
use Rattle.vw_emit.proofs.PrintedText.{text_is}

-- ---- models, whatever their lines

on_any_line : (line : ℕ) (item : PlainItem) → is_plain_item (on_line line item) ≡ is_printable item
on_any_line line (table ins out on rows) = refl
on_any_line line (latch d q edge control init) = refl
on_any_line line (place model binds) = refl

plain_items : (line : ℕ) (items : List PlainItem) → list_all is_printable items ≡ true → list_all is_plain_item (on_lines line items) ≡ true
plain_items line [] all = refl
plain_items line (item ∷ items) all =
    let parts = and_parts (is_printable item) (list_all is_printable items) all in
    let next = line + length (item_lines emitting (on_line line item)) in
    and_from (is_plain_item (on_line line item)) (list_all is_plain_item (on_lines next items)) (on_any_line line item ∙ parts.0) (plain_items next items parts.1)

-- what a model is asked for
record IsPrintableModel (model : PlainModel) : Type 0 where
  name : is_plain model.name ≡ true
  inputs : are_plain_ports model.inputs ≡ true
  outputs : are_plain_ports model.outputs ≡ true
  clocks : are_plain_ports model.clocks ≡ true
  items : list_all is_printable model.items ≡ true

plain_one : (line : ℕ) (model : PlainModel) → IsPrintableModel model → is_plain_model (model_from line model) ≡ true
plain_one line model is =
    let items = list_all is_plain_item (model_from line model).items in
    and_from (is_plain model.name) (are_plain_ports model.inputs && (are_plain_ports model.outputs && (are_plain_ports model.clocks && items))) is.name
    (and_from (are_plain_ports model.inputs) (are_plain_ports model.outputs && (are_plain_ports model.clocks && items)) is.inputs
    (and_from (are_plain_ports model.outputs) (are_plain_ports model.clocks && items) is.outputs
    (and_from (are_plain_ports model.clocks) items is.clocks (plain_items (line + length (head_lines emitting (with_items model []))) model.items is.items))))

plain_models : (line : ℕ) (models : List PlainModel) → ((model : PlainModel) → Has model models → IsPrintableModel model)
    → list_all is_plain_model (models_from line models) ≡ true
plain_models line [] each = refl
plain_models line (model ∷ models) each =
    let next = line + length (model_lines emitting (model_from line model)) in
    and_from (is_plain_model (model_from line model)) (list_all is_plain_model (models_from next models))
    (plain_one line model (each model (inl refl))) (plain_models next models (λ other has. each other (inr has)))

-- each item stands on its line
own_line : (line : ℕ) (item : PlainItem) → line_of (on_line line item) ≡ line
own_line line (table ins out on rows) = refl
own_line line (latch d q edge control init) = refl
own_line line (place model binds) = refl

items_on_lines : (line : ℕ) (items : List PlainItem) → have_line_numbers emitting line (on_lines line items) ≡ true
items_on_lines line [] = refl
items_on_lines line (item ∷ items) =
    let next = line + length (item_lines emitting (on_line line item)) in
    and_from (line_of (on_line line item) == line) (have_line_numbers emitting next (on_lines next items)) (eq-eqb (line_of (on_line line item)) line (own_line line item)) (items_on_lines next items)

models_on_lines : (line : ℕ) (models : List PlainModel) → have_numbers emitting line (models_from line models) ≡ true
models_on_lines line [] = refl
models_on_lines line (model ∷ models) =
    let first = line + length (head_lines emitting (with_items model [])) in
    let next = line + length (model_lines emitting (model_from line model)) in
    and_from (have_line_numbers emitting first (on_lines first model.items)) (have_numbers emitting next (models_from next models)) (items_on_lines first model.items) (models_on_lines next models)

same_names : (line : ℕ) (models : List PlainModel) → map (λ model. model.name) (models_from line models) ≡ map (λ model. model.name) models
same_names line [] = refl
same_names line (model ∷ models) = ap (λ (rest : List Word). model.name ∷ rest) (same_names (line + length (model_lines emitting (model_from line model))) models)

-- ---- names

first_byte : Word → ℕ
first_byte [] = 0
first_byte (byte ∷ word) = byte

behind_four : Word → Word
behind_four (a ∷ b ∷ c ∷ d ∷ word) = word
behind_four other = []

module _ (planned : PlannedBoard) where
  node_names : are_distinct (map node_name (all_nodes planned)) ≡ true
  unfolding behind_four
  node_names =
      distinct_map node_name (all_nodes planned) (once_range 0 (planned.board.chips + 1)) (λ one other has has_too same.
      let few = planned.board.few_chips in
      let below = in_range 0 (planned.board.chips + 1) one has in
      let below_too = in_range 0 (planned.board.chips + 1) other has_too in
      decimal_injective one other (omega (arith, few, below.1)) (omega (arith, few, below_too.1)) (ap behind_four same))

  model_names : are_distinct (map (λ model. model.name) (spelled_board planned)) ≡ true
  unfolding first_byte
  model_names = ap are_distinct (same_names 1 (board_models planned) ∙ ap (λ (names : List Word). codes "board" ∷ names) (of_nodes (all_nodes planned)))
      ∙ distinct_more (codes "board") (map node_name (all_nodes planned)) (λ has.
      let from = from-map node_name (codes "board") (all_nodes planned) has in
      let bytes : 110 ≡ 98 = ap first_byte from.2 in
      omega (arith, bytes)) node_names where
        of_nodes : (nodes : List ℕ) → map (λ (model : PlainModel). model.name) (map (node_model planned) nodes) ≡ map node_name nodes
        of_nodes [] = refl
        of_nodes (node ∷ nodes) = ap (λ (rest : List Word). node_name node ∷ rest) (of_nodes nodes)

  -- ---- the first model

  columns_plain : are_plain_ports (board_model planned).inputs ≡ true
  columns_plain =
      let name = λ (number : ℕ). spelled (column number) in
      let numbers = range_with_len 0 planned.ordered.flat.inputs in
      let few = planned.ordered.flat.few_inputs in
      and_from (list_all is_plain (map name numbers)) (are_distinct (map name numbers)) (plain_names name (λ number. fine_local (column number)) numbers)
      (distinct_map name numbers (once_range 0 planned.ordered.flat.inputs) (λ one other has has_too same.
      let below = in_range 0 planned.ordered.flat.inputs one has in
      let below_too = in_range 0 planned.ordered.flat.inputs other has_too in
      ap first_number (spelled_once (column one) (column other) (omega (arith, few, below.1), tt) (omega (arith, few, below_too.1), tt) same)))

  shown_plain : are_plain_ports (board_model planned).outputs ≡ true
  unfolding first_byte
  shown_plain =
      let flat = planned.ordered.flat in
      let name = λ (number : ℕ). spelled (result number) in
      let numbers = range_with_len 0 (length flat.outputs) in
      let latches = range_with_len 0 (latch_count flat.cells) in
      let few = flat.few_outputs in
      let few_cells = flat.few_cells in
      let fewer = latch_count-le flat.cells in
      and_from (list_all is_plain (map name numbers ++ map shown_net latches)) (are_distinct (map name numbers ++ map shown_net latches))
      (list_all-append is_plain (map name numbers) (map shown_net latches)
      ∙ and_from (list_all is_plain (map name numbers)) (list_all is_plain (map shown_net latches)) (plain_names name (λ number. fine_local (result number)) numbers) (plain_names shown_net fine_shown latches))
      (distinct_append (map name numbers) (map shown_net latches)
      (distinct_map name numbers (once_range 0 (length flat.outputs)) (λ one other has has_too same.
      let below = in_range 0 (length flat.outputs) one has in
      let below_too = in_range 0 (length flat.outputs) other has_too in
      ap first_number (spelled_once (result one) (result other) (omega (arith, few, below.1), tt) (omega (arith, few, below_too.1), tt) same)))
      (distinct_map shown_net latches (once_range 0 (latch_count flat.cells)) (λ one other has has_too same.
      let below = in_range 0 (latch_count flat.cells) one has in
      let below_too = in_range 0 (latch_count flat.cells) other has_too in
      (numbers_same 115 one [] 115 other [] (omega (arith, few_cells, fewer, below.1), tt) (omega (arith, few_cells, fewer, below_too.1), tt) same).1))
      (λ word has has_too.
      let one = from-map name word numbers has in
      let other = from-map shown_net word latches has_too in
      let bytes : 121 ≡ 115 = ap first_byte (one.2 ∙ sym other.2) in
      omega (arith, bytes)))

  module _ (sound : IsSound planned) where
    -- ---- the ports of nodes

    inputs_distinct : (node : ℕ) → are_distinct (map spelled (node_inputs planned node)) ≡ true
    inputs_distinct node =
        let driven = map drives (node_items planned node) in
        distinct_front (map spelled (node_inputs planned node)) (map spelled driven) (ap are_distinct (sym (map-append spelled (node_inputs planned node) driven)) ∙ names_distinct planned sound node)

    outputs_distinct : (node : ℕ) → are_distinct (map spelled (node_outputs planned node)) ≡ true
    outputs_distinct node =
        let small = λ (net : Local) (has : Has net (node_outputs planned node)). small_output planned sound node net (from_outputs planned node net (at-Has net (node_outputs planned node) has)) in
        distinct_map spelled (node_outputs planned node) (outputs_once planned sound node) (λ one other has has_too same. spelled_once one other (small one has) (small other has_too) same)

    ports_distinct : (node : ℕ) → are_distinct (map spelled (node_ports planned node)) ≡ true
    ports_distinct node =
        let ins = map spelled (node_inputs planned node) in
        let outs = map spelled (node_outputs planned node) in
        ap are_distinct (map-append spelled (node_inputs planned node) (node_outputs planned node))
        ∙ distinct_append ins outs (inputs_distinct node) (outputs_distinct node)
        (λ name has has_too. true≢false (sym (has_name-Has ins name has) ∙ output_no_input planned sound node name has_too))

    -- ---- placed nodes

    binds_plain : (list : List Local) → list_all is_plain_bind (map bound (map (port_joined planned) list)) ≡ true
    binds_plain [] = refl
    binds_plain (net ∷ list) =
        let name = fine_local net in
        let actual = fine_net planned net in
        let free = not (list_any (λ b. b == 61) (spelled net)) in
        and_from (is_plain (spelled net) && (is_plain (net_of_port planned net) && free)) (list_all is_plain_bind (map bound (map (port_joined planned) list)))
        (and_from (is_plain (spelled net)) (is_plain (net_of_port planned net) && free) name.plain (and_from (is_plain (net_of_port planned net)) free actual.plain name.no_equal))
        (binds_plain list)

    formals : (list : List Local) → map (λ bind. bind.formal) (map bound (map (port_joined planned) list)) ≡ map spelled list
    formals [] = refl
    formals (net ∷ list) = ap (λ (rest : List Word). spelled net ∷ rest) (formals list)

    placed_plain : (nodes : List ℕ) → list_all is_printable (map (placed_node planned) nodes) ≡ true
    placed_plain [] = refl
    placed_plain (node ∷ nodes) =
        let binds = map bound (map (port_joined planned) (node_ports planned node)) in
        let distinct = are_distinct (map (λ bind. bind.formal) binds) in
        and_from (is_printable (placed_node planned node)) (list_all is_printable (map (placed_node planned) nodes))
        (and_from (is_plain (node_name node)) (list_all is_plain_bind binds && distinct) (fine_node node).plain
        (and_from (list_all is_plain_bind binds) distinct (binds_plain (node_ports planned node)) (ap are_distinct (formals (node_ports planned node)) ∙ ports_distinct node)))
        (placed_plain nodes)

    -- ---- all models

    ports_plain : (list : List Local) → are_distinct (map spelled list) ≡ true → are_plain_ports (map spelled list) ≡ true
    ports_plain list distinct = and_from (list_all is_plain (map spelled list)) (are_distinct (map spelled list)) (plain_names spelled fine_local list) distinct

    node_plain : (node : ℕ) → IsPrintableModel (node_model planned node)
    node_plain node = record {
      name = (fine_node node).plain;
      inputs = ports_plain (node_inputs planned node) (inputs_distinct node);
      outputs = ports_plain (node_outputs planned node) (outputs_distinct node);
      clocks = refl;
      items = node_printable planned node;
    }

    board_plain : IsPrintableModel (board_model planned)
    board_plain = record { name = refl; inputs = columns_plain; outputs = shown_plain; clocks = refl; items = placed_plain (all_nodes planned) }

    each_plain : (model : PlainModel) → Has model (board_models planned) → IsPrintableModel model
    each_plain model (inl same) = subst IsPrintableModel same board_plain
    each_plain model (inr has) = let from = from-map (node_model planned) model (all_nodes planned) has in subst IsPrintableModel from.2 (node_plain from.0)

    pub plain_board : length (emitted_text planned) ≤ MOST_DESIGN_BYTES → IsPlainFor emitting (spelled_board planned)
    plain_board short = record {
      some = not_empty (model_from 1 (board_model planned)) (models_from (1 + length (model_lines emitting (model_from 1 (board_model planned)))) (map (node_model planned) (all_nodes planned)));
      models = plain_models 1 (board_models planned) each_plain;
      names = model_names;
      numbers = models_on_lines 1 (board_models planned);
      short = subst (λ (text : List ℕ). length text ≤ MOST_DESIGN_BYTES) (text_is planned) short;
    }
