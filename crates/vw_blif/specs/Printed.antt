-- The plain way to write a design: a line for each statement, the ports of a list on one line, the rows of a table
-- behind its `.names`, and each model up to its `.end`. Other programs differ from it in two things, so both ways can be
-- chosen: what stands for an empty list of ports, and the number of a free latch. Source: the Berkeley description of
-- BLIF.
use Rattle.std.specs.Prelude.{ℕ, Bool, List, [], ◌∷◌, ◌++◌, map, Option, Some, None, codes, true, false}
use Rattle.std.specs.List.{flat_map}
use Rattle.vw_net.specs.declared.cover.Mark.{Mark}
use Rattle.vw_net.specs.declared.cover.Mark.TheVariants.{Zero as zero_mark, One as one_mark, Any}
use Rattle.vw_net.specs.declared.cell.Init.{Init}
use Rattle.vw_net.specs.declared.cell.Init.TheVariants.{Zero, One, Free}
use Rattle.vw_design.specs.declared.item.Edge.{Edge}
use Rattle.vw_design.specs.declared.item.Edge.TheVariants.{Rise, Fall, Unsaid}
use Rattle.vw_text.specs.PlainLines.{plain_text}
use Rattle.vw_design.specs.Paths.{Word}
use Rattle.vw_blif.specs.Spelled.{Binding, SpelledItem, table, latch, place, SpelledModel}
use Rattle.vw_blif.specs.Rows.{value_word}

-- the number of a free latch: `2`, don't care, or `3`, unknown
pub data FreeNumber : Type 0 where
  dont_care : FreeNumber
  unknown : FreeNumber

-- a way to print: whether `.inputs` and `.outputs` stand even with no port behind them, and how a latch is free
pub record Printing : Type 0 where
  pub bare : Bool
  pub free : FreeNumber

-- the plain way: no line where there is no port, and `3` for a free latch
abbrev pub plainly : Printing
plainly = record { bare = false; free = unknown }

-- the character of a mark
abbrev pub mark_byte : Mark → ℕ
mark_byte zero_mark = 48
mark_byte one_mark = 49
mark_byte Any = 45

-- a row: its marks in one word, where it has any, and the value
abbrev pub row_words : Bool → List Mark → List Word
row_words on [] = value_word on ∷ []
row_words on (mark ∷ marks) = map mark_byte (mark ∷ marks) ∷ value_word on ∷ []

-- the word of a free latch, and of each initial value
abbrev pub free_word : FreeNumber → Word
free_word dont_care = codes "2"
free_word unknown = codes "3"

abbrev pub init_word : Printing → Init → Word
init_word printing Zero = codes "0"
init_word printing One = codes "1"
init_word printing Free = free_word printing.free

abbrev pub control_word : Option Word → Word
control_word None = codes "NIL"
control_word (Some control) = control

-- what stands behind the input and the output of a latch: where it has a type, also a control
abbrev pub latch_words : Printing → Edge → Option Word → Init → List Word
latch_words printing Rise control init = codes "re" ∷ control_word control ∷ init_word printing init ∷ []
latch_words printing Fall control init = codes "fe" ∷ control_word control ∷ init_word printing init ∷ []
latch_words printing Unsaid control init = init_word printing init ∷ []

abbrev pub bind_word : Binding → Word
bind_word bind = bind.formal ++ 61 ∷ bind.actual

-- the lines of an item
abbrev pub item_lines : Printing → SpelledItem → List (List Word)
item_lines printing (table line ins out on rows) = (codes ".names" ∷ (ins ++ out ∷ [])) ∷ map (row_words on) rows
item_lines printing (latch line d q edge control init) = (codes ".latch" ∷ d ∷ q ∷ latch_words printing edge control init) ∷ []
item_lines printing (place line model binds) = (codes ".subckt" ∷ model ∷ map bind_word binds) ∷ []

-- the line of a list of ports, where it has any
abbrev pub port_lines : Word → List Word → List (List Word)
port_lines keyword [] = []
port_lines keyword (port ∷ ports) = (keyword ∷ port ∷ ports) ∷ []

-- what stands for a list without ports: the keyword alone, or nothing
abbrev pub bare_lines : Bool → Word → List (List Word)
bare_lines true keyword = (keyword ∷ []) ∷ []
bare_lines false keyword = []

-- the line of a list of ports, where it may stand without a port
abbrev pub open_port_lines : Printing → Word → List Word → List (List Word)
open_port_lines printing keyword [] = bare_lines printing.bare keyword
open_port_lines printing keyword (port ∷ ports) = (keyword ∷ port ∷ ports) ∷ []

-- the lines of a model before its items, and all of them
abbrev pub head_lines : Printing → SpelledModel → List (List Word)
head_lines printing model = (codes ".model" ∷ model.name ∷ []) ∷ (open_port_lines printing (codes ".inputs") model.inputs
    ++ (open_port_lines printing (codes ".outputs") model.outputs ++ port_lines (codes ".clock") model.clocks))

abbrev pub model_lines : Printing → SpelledModel → List (List Word)
model_lines printing model = head_lines printing model ++ (flat_map (item_lines printing) model.items ++ (codes ".end" ∷ []) ∷ [])

abbrev pub design_lines : Printing → List SpelledModel → List (List Word)
design_lines printing design = flat_map (model_lines printing) design

-- the text of a design in this way
abbrev pub printed_by : Printing → List SpelledModel → List ℕ
printed_by printing design = plain_text (design_lines printing design)

-- the text of a design in the plain way
abbrev pub printed_design : List SpelledModel → List ℕ
printed_design design = printed_by plainly design
