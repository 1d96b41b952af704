-- What a model that is being read has become, and what it tells of the next line.
use Rattle.std.specs.Prelude.{◌≡◌, Bool, true, List, [], ◌∷◌, ◌++◌, map, length, Option, Some, None, option_map}
use Rattle.std.specs.List.{flat_map, filter_map}
use Rattle.vw_design.specs.declared.item.Item.{Item}
use Rattle.vw_text.specs.declared.line.Line.{Line}
use Rattle.vw_blif.specs.declared.fault.TextFault.{TextFault}
use Rattle.vw_blif.specs.declared.table.GrowingTable.{GrowingTable}
use Rattle.vw_blif.specs.declared.block.Block.{Block}
use Rattle.vw_design.specs.Paths.{Word}
use Rattle.vw_blif.specs.Kinds.{input, output, clocked}
use Rattle.vw_blif.specs.Spelled.{SpelledItem, table, SpelledModel, spelled_item}
use Rattle.vw_blif.specs.Rows.{value_word, row_marks, are_on_set}
use Rattle.vw_blif.specs.CutLists.{CutList}
use Rattle.vw_blif.specs.Designs.{groups, item_of, ports_of}
use Rattle.vw_blif.specs.Before.{OpenTable, is_open, open_table, ports_before}
use Rattle.vw_blif.specs.Faults.{fault_at}
use Rattle.vw_blif.specs.Steps.FaultAnswers.{Says}

-- ---- tables

-- what an open table tells of the next row
abbrev pub table_said : GrowingTable → OpenTable
table_said t = record { width = length t.ins; value = option_map value_word t.on }

abbrev pub on_or : Option Bool → Bool → Bool
on_or None other = other
on_or (Some on) other = on

-- the table that it becomes with these further rows
abbrev pub table_made : GrowingTable → List Line → SpelledItem
table_made t rows =
    table t.line t.ins t.out (on_or t.on (are_on_set rows)) (map (λ row. row.marks) t.rows.items ++ map (λ row. row_marks row.words) rows)

abbrev pub table_items : Option GrowingTable → List Line → List SpelledItem
table_items None rows = []
table_items (Some t) rows = table_made t rows ∷ []

-- ---- models

-- the model that the parts so far, an open table and what a cut has make
abbrev pub model_with : Word → List Word → List Word → List Word → List SpelledItem → Option GrowingTable → CutList Line → SpelledModel
model_with name inputs outputs clocks items open_ cut = record {
  name = name;
  inputs = inputs ++ flat_map (ports_of input) cut.parts;
  outputs = outputs ++ flat_map (ports_of output) cut.parts;
  clocks = clocks ++ flat_map (ports_of clocked) cut.parts;
  items = items ++ (table_items open_ cut.before ++ filter_map item_of cut.parts);
}

-- the model that it becomes with these further lines
abbrev pub block_made : Block → List Line → SpelledModel
block_made b lines =
    model_with b.name b.inputs.names.items b.outputs.names.items b.clocks.names.items (map spelled_item b.items.items) b.table (groups lines)

-- a model of which nothing but the name was read
pub record IsNew (name : Word) (b : Block) : Type 0 where
  pub named : b.name ≡ name
  pub inputs : b.inputs.names.items ≡ []
  pub outputs : b.outputs.names.items ≡ []
  pub clocks : b.clocks.names.items ≡ []
  pub items : b.items.items ≡ []
  pub table_ : b.table ≡ None

-- name and ports are the same
pub record KeepsPorts (old new : Block) : Type 0 where
  pub name : new.name ≡ old.name
  pub inputs : new.inputs.names.items ≡ old.inputs.names.items
  pub outputs : new.outputs.names.items ≡ old.outputs.names.items
  pub clocks : new.clocks.names.items ≡ old.clocks.names.items

-- the items of a model with its open table
abbrev pub items_so_far : Block → List SpelledItem
items_so_far b = map spelled_item b.items.items ++ table_items b.table []

-- the open table came to the items
pub record ClosesTable (old new : Block) : Type 0 where
  pub ports : KeepsPorts old new
  pub items : map spelled_item new.items.items ≡ items_so_far old
  pub table_ : new.table ≡ None

-- and an item behind it
pub record HasItem (old : Block) (item : Item) (new : Block) : Type 0 where
  pub ports : KeepsPorts old new
  pub items : map spelled_item new.items.items ≡ items_so_far old ++ spelled_item item ∷ []
  pub table_ : new.table ≡ None

-- what the lines before say is what the model has
pub record IsAsBefore (before : List Line) (b : Block) : Type 0 where
  pub open_ : is_open before ≡ true
  pub table_ : open_table before ≡ option_map table_said b.table
  pub inputs : ports_before input before ≡ b.inputs.names.items
  pub outputs : ports_before output before ≡ b.outputs.names.items
  pub clocks : ports_before clocked before ≡ b.clocks.names.items

-- a line was taken into a model
pub record TakesLine (old : Block) (line : Line) (new : Block) : Type 0 where
  pub stays : (before : List Line) → IsAsBefore before old → IsAsBefore (line ∷ before) new
  pub fine : (before : List Line) → IsAsBefore before old → fault_at before line ≡ None
  pub makes : (rest : List Line) → block_made new rest ≡ block_made old (line ∷ rest)
  pub name : new.name ≡ old.name

-- a line was refused
abbrev pub RefusesInModel : Block → Line → TextFault → Type 0
RefusesInModel old line fault = (before : List Line) → IsAsBefore before old → Says fault (fault_at before line)
