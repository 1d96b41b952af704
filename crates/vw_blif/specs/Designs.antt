-- The design that word lines spell: blocks, each a `.model` line and what stands behind it up to its `.end` or to the
-- next block; in a block groups, each a line that isn't a row and the rows behind it; each group adds ports or an item.
-- Of lines with faults it says something that nobody reads. Source: the Berkeley description of BLIF.
use Rattle.std.specs.Prelude.{not, List, [], map, Option, Some, None, if◌then◌else◌}
use Rattle.std.specs.List.{flat_map, filter_map}
use Rattle.vw_text.specs.declared.line.Line.{Line}
use Rattle.vw_blif.specs.declared.kind.Kind.{Kind}
use Rattle.vw_blif.specs.declared.kind.Kind.TheVariants.{Names, Latch, Subckt}
use Rattle.vw_blif.specs.Words.{first_word, last_word, front_words}
use Rattle.vw_design.specs.Paths.{Word}
use Rattle.vw_blif.specs.Kinds.{kind, further, is_model, is_end, is_row, Port, input, output, clocked, adds_to}
use Rattle.vw_blif.specs.Spelled.{SpelledItem, table, SpelledModel}
use Rattle.vw_blif.specs.Rows.{row_marks, are_on_set}
use Rattle.vw_blif.specs.Latches.{latch_of}
use Rattle.vw_blif.specs.Bindings.{spelled_placing}
use Rattle.vw_blif.specs.CutLists.{Part, CutList, cut_before, until}

-- the blocks of lines, and the groups of the lines behind a `.model` line
abbrev pub blocks : List Line → CutList Line
blocks lines = cut_before (λ line. is_model (kind line)) lines

-- the groups of the lines of a model up to its `.end`: each line that isn't a row, with the rows behind it
abbrev pub groups : List Line → CutList Line
groups lines = cut_before (λ line. not (is_row (kind line))) (until (λ line. is_end (kind line)) lines)

-- the table of a `.names` line and its rows
abbrev pub table_of : Line → List Line → SpelledItem
table_of line rows =
    table line.number (front_words (further line)) (last_word (further line)) (are_on_set rows) (map (λ row. row_marks row.words) rows)

-- the item of a group, by the kind of its first line
abbrev pub item_by : Kind → Line → List Line → Option SpelledItem
item_by Names line rows = Some (table_of line rows)
item_by Latch line rows = Some (latch_of line.number (further line))
item_by Subckt line rows = Some (spelled_placing line.number (further line))
item_by _ line rows = None

-- the item that a group of lines spells
abbrev pub item_of : Part Line → Option SpelledItem
item_of group = item_by (kind group.head) group.head group.tail

-- the ports that a group adds to a list
abbrev pub ports_of : Port → Part Line → List Word
ports_of port group = if adds_to (kind group.head) port then further group.head else []

-- the model of a name and groups
abbrev pub model_by : Word → List (Part Line) → SpelledModel
model_by name parts = record {
  name = name;
  inputs = flat_map (ports_of input) parts;
  outputs = flat_map (ports_of output) parts;
  clocks = flat_map (ports_of clocked) parts;
  items = filter_map item_of parts;
}

-- the model that a block of lines spells, its `.model` line first
abbrev pub model_of : Part Line → SpelledModel
model_of block = model_by (first_word (further block.head)) ((groups block.tail).parts)

-- the models of lines
abbrev pub spelled_models : List Line → List SpelledModel
spelled_models lines = map model_of ((blocks lines).parts)
