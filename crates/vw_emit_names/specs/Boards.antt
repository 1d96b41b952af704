-- An emitted board as models that place each other, whatever the lines on which they stand. Source: this project.
use Rattle.std.specs.Prelude.{◌≡◌, ◌+◌, ℕ, Bool, List, [], ◌∷◌, ◌++◌, codes, length, map, Option, None}
use Rattle.std.specs.List.{range_with_len}
use Rattle.vw_net.specs.Cells.{latch_count}
use Rattle.vw_net.specs.declared.cell.Init.{Init}
use Rattle.vw_net.specs.declared.cover.Mark.{Mark}
use Rattle.vw_design.specs.Paths.{Word}
use Rattle.vw_design.specs.declared.design.Design.{Design}
use Rattle.vw_design.specs.declared.item.Bind.{Bind}
use Rattle.vw_design.specs.declared.item.Edge.{Edge}
use Rattle.vw_design.specs.declared.item.Edge.TheVariants.{Unsaid}
use Rattle.vw_design.specs.declared.item.Item.{Item}
use Rattle.vw_design.specs.declared.item.Item.TheVariants.{Latch, Names, Sub}
use Rattle.vw_design.specs.declared.model.Model.{Model}
use Rattle.vw_plan.specs.PlannedBoard.{PlannedBoard}
use Rattle.vw_emit_hardware.specs.Items.{node_items}
use Rattle.vw_emit_hardware.specs.Locals.{Local, LocalItem, column, register, result, table as local_table}
use Rattle.vw_emit_hardware.specs.Ports.{node_inputs, node_outputs}
use Rattle.vw_emit_names.specs.Spelled.{net_of_port, node_name, shown_net, spelled}

-- ---- models without the lines on which their items stand

-- a port of a placed model, and the net that it is joined to
pub record Joined : Type 0 where
  pub formal : Word
  pub actual : Word

pub data PlainItem : Type 0 where
  table : (ins : List Word) (out : Word) (on : Bool) (rows : List (List Mark)) → PlainItem
  latch : (d q : Word) (edge : Edge) (control : Option Word) (init : Init) → PlainItem
  place : (model : Word) (binds : List Joined) → PlainItem

pub record PlainModel : Type 0 where
  pub name : Word
  pub inputs : List Word
  pub outputs : List Word
  pub clocks : List Word
  pub items : List PlainItem

abbrev pub plain_bind : Bind → Joined
plain_bind bind = record { formal = bind.formal; actual = bind.actual }

abbrev pub plain_item : Item → PlainItem
plain_item (Names line ins out cover) = table ins out cover.on (map (λ row. row.marks) cover.rows)
plain_item (Latch line d q edge control init) = latch d q edge control init
plain_item (Sub line model binds) = place model (map plain_bind binds)

abbrev pub plain_model : Model → PlainModel
plain_model model = record {
  name = model.name;
  inputs = model.inputs;
  outputs = model.outputs;
  clocks = model.clocks;
  items = map plain_item model.items;
}

-- ---- the models of a board

-- an item of a node
abbrev pub spelled_item : LocalItem → PlainItem
spelled_item (local_table ins out on rows) = table (map spelled ins) (spelled out) on rows
spelled_item (register next own init) = latch (spelled next) (spelled own) Unsaid None init

abbrev pub node_model : PlannedBoard → ℕ → PlainModel
node_model planned node = record {
  name = node_name node;
  inputs = map spelled (node_inputs planned node);
  outputs = map spelled (node_outputs planned node);
  clocks = [];
  items = map spelled_item (node_items planned node);
}

-- the ports of a node, inputs first
abbrev pub node_ports : PlannedBoard → ℕ → List Local
node_ports planned node = node_inputs planned node ++ node_outputs planned node

-- a node as it is placed: each port is joined to its net of the board
abbrev pub port_joined : PlannedBoard → Local → Joined
port_joined planned port = record { formal = spelled port; actual = net_of_port planned port }

abbrev pub placed_node : PlannedBoard → ℕ → PlainItem
placed_node planned node = place (node_name node) (map (port_joined planned) (node_ports planned node))

-- the host and the chips
abbrev pub all_nodes : PlannedBoard → List ℕ
all_nodes planned = range_with_len 0 (planned.board.chips + 1)

-- the first model: its inputs are the columns, and its outputs are those of the design, and then the latches
abbrev pub board_model : PlannedBoard → PlainModel
board_model planned =
    let flat = planned.ordered.flat in
    record {
      name = codes "board";
      inputs = map (λ number. spelled (column number)) (range_with_len 0 flat.inputs);
      outputs =
          map (λ number. spelled (result number)) (range_with_len 0 (length flat.outputs))
          ++ map shown_net (range_with_len 0 (latch_count flat.cells));
      clocks = [];
      items = map (placed_node planned) (all_nodes planned);
    }

abbrev pub board_models : PlannedBoard → List PlainModel
board_models planned = board_model planned ∷ map (node_model planned) (all_nodes planned)

-- a design is the emitted board
abbrev pub IsBoardOf : PlannedBoard → Design → Type 0
IsBoardOf planned board = map plain_model board.models ≡ board_models planned
