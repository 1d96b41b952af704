-- An emitted board with the lines on which its items stand, as its text has them. Source: this project, for the board; the
-- Berkeley description of BLIF, for lines.
use Rattle.std.specs.Prelude.{ℕ, ◌+◌, true, List, [], ◌∷◌, length, map}
use Rattle.vw_blif.specs.Printed.{Printing, dont_care, head_lines, item_lines, model_lines}
use Rattle.vw_blif.specs.Spelled.{Binding, SpelledItem, SpelledModel}
use Rattle.vw_blif.specs.Spelled.{latch as latch_on, place as place_on, table as table_on}
use Rattle.vw_emit_names.specs.Boards.{Joined, PlainItem, PlainModel, board_models, latch, place, table}
use Rattle.vw_plan.specs.PlannedBoard.{PlannedBoard}

-- the way in which a board is printed: a list of ports has its line even where it has no port, and a free latch is `2`
abbrev pub emitting : Printing
emitting = record { bare = true; free = dont_care }

-- ---- with lines

abbrev pub bound : Joined → Binding
bound joined = record { formal = joined.formal; actual = joined.actual }

-- an item on a line
abbrev pub on_line : ℕ → PlainItem → SpelledItem
on_line line (table ins out on rows) = table_on line ins out on rows
on_line line (latch d q edge control init) = latch_on line d q edge control init
on_line line (place model binds) = place_on line model (map bound binds)

-- items, the first of which stands on a line, and each other one behind the lines of the one before it
abbrev pub on_lines : ℕ → List PlainItem → List SpelledItem
on_lines line [] = []
on_lines line (item ∷ items) =
    on_line line item ∷ on_lines (line + length (item_lines emitting (on_line line item))) items

-- a model with these items
abbrev pub with_items : PlainModel → List SpelledItem → SpelledModel
with_items model items = record {
  name = model.name;
  inputs = model.inputs;
  outputs = model.outputs;
  clocks = model.clocks;
  items = items;
}

-- a model whose first line is this one: its items stand behind its lists of ports
abbrev pub model_from : ℕ → PlainModel → SpelledModel
model_from line model = with_items model (on_lines (line + length (head_lines emitting (with_items model []))) model.items)

-- models, one behind the other
abbrev pub models_from : ℕ → List PlainModel → List SpelledModel
models_from line [] = []
models_from line (model ∷ models) =
    model_from line model ∷ models_from (line + length (model_lines emitting (model_from line model))) models

-- the models of an emitted board, from line 1 on
abbrev pub spelled_board : PlannedBoard → List SpelledModel
spelled_board planned = models_from 1 (board_models planned)

-- ---- without lines

abbrev pub joined_of : Binding → Joined
joined_of binding = record { formal = binding.formal; actual = binding.actual }

abbrev pub item_without_line : SpelledItem → PlainItem
item_without_line (table_on line ins out on rows) = table ins out on rows
item_without_line (latch_on line d q edge control init) = latch d q edge control init
item_without_line (place_on line model binds) = place model (map joined_of binds)

abbrev pub without_lines : SpelledModel → PlainModel
without_lines model = record {
  name = model.name;
  inputs = model.inputs;
  outputs = model.outputs;
  clocks = model.clocks;
  items = map item_without_line model.items;
}
