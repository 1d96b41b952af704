-- Models in print, from the pieces in which they are written; and the whole text.
use Rattle.std.proofs.Common.{◌≡◌, ◌++◌, ◌+◌, ◌∙◌, ℕ, List, [], ◌∷◌, length, map, codes, ap, ap₂, sym, refl, append_assoc, append-nil}
use Rattle.std.specs.Fmt.{decimal}
use Rattle.std.specs.List.{flat_map, join_with_byte, range_with_len}
use Rattle.std.proofs.lemmas.Grind.{flat_map-append}
use Rattle.std.proofs.lemmas.List.{map-append}
use Rattle.vw_net.specs.Cells.{latch_count}
use Rattle.vw_text.specs.PlainLines.{plain_text}
use Rattle.vw_blif.specs.Printed.{bind_word, design_lines, head_lines, item_lines, model_lines, open_port_lines}
use Rattle.vw_plan.specs.PlannedBoard.{PlannedBoard}
use Rattle.vw_plan.specs.Sound.{IsSound}
use Rattle.vw_emit_hardware.specs.Items.{node_items}
use Rattle.vw_emit_hardware.specs.Locals.{Local, LocalItem}
use Rattle.vw_emit_hardware.specs.Ports.{node_inputs, node_outputs}
use Rattle.vw_emit_names.specs.Boards.{Joined, PlainItem, PlainModel, all_nodes, board_model, board_models, latch, node_model, place, placed_node, port_joined, spelled_item, table}
use Rattle.vw_emit_names.specs.Spelled.{node_name, spelled}
use Rattle.vw_emit_text.specs.Emitted.{emitted_text}
use Rattle.vw_emit_text.specs.Numbered.{bound, emitting, model_from, models_from, on_line, on_lines, with_items}
use Rattle.vw_emit_text.specs.Steps.{inputs_of, item_text, items_text, model_text, numbered_net, numbered_ports, outputs_of, plain_item_text, port_text, ports_text}
use Rattle.vw_emit_text.specs.declared.ports.Kind.{Kind}
use Rattle.vw_emit_text.specs.declared.ports.Kind.TheVariants.{Columns, Results, Shown}
use Rattle.vw_emit_text.specs.declared.ports.Listing.TheVariants.{Ports, Bindings}
use Rattle.vw_emit_text.proofs.LineShapes.{model_shape, placed_shape}
use Rattle.vw_emit_text.proofs.NodePorts.{inputs_same, outputs_same}
use Rattle.vw_emit_text.proofs.PrintedItems.{joined_words, line_on, spaced}

-- the print of lines in two parts
in_parts : (lines more : List (List (List ℕ))) → plain_text (lines ++ more) ≡ plain_text lines ++ plain_text more
in_parts lines more = flat_map-append (λ words. join_with_byte 32 words ++ 10 ∷ []) lines more

-- ---- ports

ports_spaced : (planned : PlannedBoard) (list : List Local) → ports_text Ports (map (port_joined planned) list) ≡ spaced (map spelled list)
ports_spaced planned [] = refl
ports_spaced planned (local ∷ list) = ap (λ (rest : List ℕ). (32 ∷ spelled local) ++ rest) (ports_spaced planned list)

ports_bound : (planned : PlannedBoard) (list : List Local)
    → ports_text Bindings (map (port_joined planned) list) ≡ spaced (map bind_word (map bound (map (port_joined planned) list)))
ports_bound planned [] = refl
ports_bound planned (local ∷ list) = ap (λ (rest : List ℕ). (32 ∷ bind_word (bound (port_joined planned local))) ++ rest) (ports_bound planned list)

ports_named : (kind : Kind) (first count : ℕ) → ports_text Ports (numbered_ports kind first count) ≡ spaced (map (numbered_net kind) (range_with_len first count))
ports_named kind first count = named (range_with_len first count) where
  named : (numbers : List ℕ) → ports_text Ports (map (λ number. record { formal = numbered_net kind number; actual = numbered_net kind number }) numbers) ≡ spaced (map (numbered_net kind) numbers)
  named [] = refl
  named (number ∷ numbers) = ap (λ (rest : List ℕ). (32 ∷ numbered_net kind number) ++ rest) (named numbers)

-- ---- a model

-- it is the same on any line
line_free : (line : ℕ) (item : PlainItem) → plain_text (item_lines emitting (on_line line item)) ≡ plain_item_text item
line_free line (table ins out on rows) = refl
line_free line (latch d q edge control init) = refl
line_free line (place model binds) = refl

items_on : (line : ℕ) (list : List PlainItem) → plain_text (flat_map (item_lines emitting) (on_lines line list)) ≡ flat_map plain_item_text list
items_on line [] = refl
items_on line (item ∷ list) =
    let own = item_lines emitting (on_line line item) in
    in_parts own (flat_map (item_lines emitting) (on_lines (line + length own) list))
    ∙ ap₂ (λ (first rest : List ℕ). first ++ rest) (line_free line item) (items_on (line + length own) list)

model_on : (line : ℕ) (model : PlainModel) → plain_text (model_lines emitting (model_from line model)) ≡ model_text model
model_on line model =
    let head = head_lines emitting (with_items model []) in
    let items = flat_map (item_lines emitting) (on_lines (line + length head) model.items) in
    let end : List (List (List ℕ)) = (codes ".end" ∷ []) ∷ [] in
    in_parts head (items ++ end)
    ∙ ap (λ (rest : List ℕ). plain_text head ++ rest)
    (in_parts items end ∙ ap (λ (front : List ℕ). front ++ codes ".end\n") (items_on (line + length head) model.items))

-- a list of ports
ports_on : (keyword : List ℕ) (words : List (List ℕ)) → plain_text (open_port_lines emitting keyword words) ≡ (keyword ++ spaced words) ++ 10 ∷ []
ports_on keyword [] = line_on keyword []
ports_on keyword (word ∷ words) = line_on keyword (word ∷ words)

abbrev plain : List ℕ → List (List ℕ) → List (List ℕ) → List PlainItem → PlainModel
plain name inputs outputs list = record { name = name; inputs = inputs; outputs = outputs; clocks = []; items = list }

-- the pieces of a model without clocks, whose inputs and outputs are written already
model_pieces : (name : List ℕ) (inputs outputs : List (List ℕ)) (list : List PlainItem) → (codes ".model" ++ (32 ∷ name)) ++ ((10 ∷ codes ".inputs") ++ (spaced inputs ++ ((10 ∷ codes ".outputs") ++ (spaced outputs ++ ((10 ∷ []) ++ (flat_map plain_item_text list ++ (codes ".end" ++ 10 ∷ [])))))))
    ≡ model_text (plain name inputs outputs list)
model_pieces name inputs outputs list =
    let items = flat_map plain_item_text list in
    let ins = open_port_lines emitting (codes ".inputs") inputs in
    let outs = open_port_lines emitting (codes ".outputs") outputs in
    let one : List ℕ = (codes ".model" ++ ((32 ∷ name) ++ [])) ++ 10 ∷ [] in
    let two : List ℕ = (codes ".inputs" ++ spaced inputs) ++ 10 ∷ [] in
    let three : List ℕ = (codes ".outputs" ++ spaced outputs) ++ 10 ∷ [] in
    let behind : List ℕ = items ++ codes ".end\n" in
    model_shape (codes ".model") (32 ∷ name) (codes ".inputs") (spaced inputs) (codes ".outputs") (spaced outputs) items (codes ".end") (10 ∷ [])
    ∙ sym (ap (λ (head : List ℕ). head ++ behind)
    (ap₂ (λ (first rest : List ℕ). (first ++ 10 ∷ []) ++ rest) (joined_words (codes ".model") (name ∷ []))
    (in_parts ins (outs ++ []) ∙ ap₂ (λ (first rest : List ℕ). first ++ rest) (ports_on (codes ".inputs") inputs)
    (in_parts outs [] ∙ append-nil (plain_text outs) ∙ ports_on (codes ".outputs") outputs)))
    ∙ append_assoc one (two ++ three) behind ∙ ap (λ (rest : List ℕ). one ++ rest) (append_assoc two three behind))

-- ---- a node

local_items : (list : List LocalItem) → flat_map plain_item_text (map spelled_item list) ≡ items_text list
local_items [] = refl
local_items (item ∷ list) = ap (λ (rest : List ℕ). item_text item ++ rest) (local_items list)

module _ (planned : PlannedBoard) (sound : IsSound planned) (node : ℕ) where
  pub node_pieces : codes ".model node" ++ (decimal node ++ (codes "\n.inputs" ++ (ports_text Ports (inputs_of planned node) ++ (codes "\n.outputs" ++ (ports_text Ports (outputs_of planned node) ++ ((10 ∷ []) ++ (items_text (node_items planned node) ++ codes ".end\n")))))))
      ≡ model_text (node_model planned node)
  node_pieces =
      let ins = node_inputs planned node in
      let outs = node_outputs planned node in
      let items = node_items planned node in
      let whole = λ (inputs outputs : List ℕ). codes ".model node" ++ (decimal node ++ (codes "\n.inputs" ++ (inputs ++ (codes "\n.outputs" ++ (outputs ++ ((10 ∷ []) ++ (items_text items ++ codes ".end\n"))))))) in
      ap₂ whole (ap (ports_text Ports) (inputs_same planned node sound) ∙ ports_spaced planned ins) (ap (ports_text Ports) (outputs_same planned node sound) ∙ ports_spaced planned outs)
      ∙ ap (λ (list : List ℕ). codes ".model node" ++ (decimal node ++ (codes "\n.inputs" ++ (spaced (map spelled ins) ++ (codes "\n.outputs" ++ (spaced (map spelled outs) ++ ((10 ∷ []) ++ (list ++ codes ".end\n")))))))) (sym (local_items items))
      ∙ model_pieces (node_name node) (map spelled ins) (map spelled outs) (map spelled_item items)

  -- where it is placed
  pub placed_pieces : codes ".subckt node" ++ (decimal node ++ (ports_text Bindings (inputs_of planned node) ++ (ports_text Bindings (outputs_of planned node) ++ 10 ∷ [])))
      ≡ plain_item_text (placed_node planned node)
  placed_pieces =
      let ins = node_inputs planned node in
      let outs = node_outputs planned node in
      let joined = map (port_joined planned) in
      let words = map bind_word (map bound (joined (ins ++ outs))) in
      ap₂ (λ (one other : List Joined). codes ".subckt node" ++ (decimal node ++ (ports_text Bindings one ++ (ports_text Bindings other ++ 10 ∷ [])))) (inputs_same planned node sound) (outputs_same planned node sound)
      ∙ placed_shape (codes ".subckt") (32 ∷ node_name node) (ports_text Bindings (joined ins)) (ports_text Bindings (joined outs)) (10 ∷ [])
      ∙ ap (λ (list : List ℕ). (codes ".subckt" ++ ((32 ∷ node_name node) ++ list)) ++ 10 ∷ [])
      (sym (flat_map-append (port_text Bindings) (joined ins) (joined outs)) ∙ ap (ports_text Bindings) (sym (map-append (port_joined planned) ins outs)) ∙ ports_bound planned (ins ++ outs))
      ∙ sym (line_on (codes ".subckt") (node_name node ∷ words))

-- ---- the board

pub board_pieces : (planned : PlannedBoard) → codes ".model board\n.inputs" ++ (ports_text Ports (numbered_ports Columns 0 planned.ordered.flat.inputs) ++ (codes "\n.outputs" ++ (ports_text Ports (numbered_ports Results 0 (length planned.ordered.flat.outputs))
    ++ (ports_text Ports (numbered_ports Shown 0 (latch_count planned.ordered.flat.cells)) ++ ((10 ∷ []) ++ (flat_map plain_item_text (map (placed_node planned) (all_nodes planned)) ++ codes ".end\n"))))))
    ≡ model_text (board_model planned)
board_pieces planned =
    let flat = planned.ordered.flat in
    let inputs = map (numbered_net Columns) (range_with_len 0 flat.inputs) in
    let outputs = map (numbered_net Results) (range_with_len 0 (length flat.outputs)) in
    let shown = map (numbered_net Shown) (range_with_len 0 (latch_count flat.cells)) in
    let placed = map (placed_node planned) (all_nodes planned) in
    let behind = (10 ∷ []) ++ (flat_map plain_item_text placed ++ codes ".end\n") in
    ap (λ (one : List ℕ). codes ".model board\n.inputs" ++ (one ++ (codes "\n.outputs" ++ (ports_text Ports (numbered_ports Results 0 (length flat.outputs)) ++ (ports_text Ports (numbered_ports Shown 0 (latch_count flat.cells)) ++ behind))))) (ports_named Columns 0 flat.inputs)
    ∙ ap₂ (λ (one other : List ℕ). codes ".model board\n.inputs" ++ (spaced inputs ++ (codes "\n.outputs" ++ (one ++ (other ++ behind))))) (ports_named Results 0 (length flat.outputs)) (ports_named Shown 0 (latch_count flat.cells))
    ∙ ap (λ (rest : List ℕ). codes ".model board\n.inputs" ++ (spaced inputs ++ (codes "\n.outputs" ++ rest))) (sym (append_assoc (spaced outputs) (spaced shown) behind) ∙ ap (λ (both : List ℕ). both ++ behind) (sym (flat_map-append (λ other. 32 ∷ other) outputs shown)))
    ∙ model_pieces (codes "board") inputs (outputs ++ shown) placed

-- ---- the whole

models_on : (line : ℕ) (models : List PlainModel) → plain_text (design_lines emitting (models_from line models)) ≡ flat_map model_text models
models_on line [] = refl
models_on line (model ∷ models) =
    let own = model_lines emitting (model_from line model) in
    in_parts own (design_lines emitting (models_from (line + length own) models))
    ∙ ap₂ (λ (first rest : List ℕ). first ++ rest) (model_on line model) (models_on (line + length own) models)

pub text_pieces : (planned : PlannedBoard) (board all : List ℕ) → board ≡ [] ++ model_text (board_model planned)
    → all ≡ board ++ flat_map model_text (map (node_model planned) (all_nodes planned)) → all ≡ emitted_text planned
unfolding emitted_text
text_pieces planned board all first second =
    second ∙ ap (λ (front : List ℕ). front ++ flat_map model_text (map (node_model planned) (all_nodes planned))) first
    ∙ sym (models_on 1 (board_models planned))
