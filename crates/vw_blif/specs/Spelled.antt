-- A design as a text spells it: plain lists and names, and what a design of the program spells.
use Rattle.std.specs.Prelude.{ℕ, Bool, List, map, Option}
use Rattle.vw_net.specs.declared.cover.Mark.{Mark}
use Rattle.vw_net.specs.declared.cell.Init.{Init}
use Rattle.vw_design.specs.declared.item.Edge.{Edge}
use Rattle.vw_design.specs.declared.item.Item.{Item}
use Rattle.vw_design.specs.declared.item.Item.TheVariants.{Names, Latch, Sub}
use Rattle.vw_design.specs.declared.item.Bind.{Bind}
use Rattle.vw_design.specs.declared.model.Model.{Model}
use Rattle.vw_design.specs.Paths.{Word}

-- a formal and an actual
pub record Binding : Type 0 where
  pub formal : Word
  pub actual : Word

-- an item, with the number of its line
pub data SpelledItem : Type 0 where
  table : (line : ℕ) (ins : List Word) (out : Word) (on : Bool) (rows : List (List Mark)) → SpelledItem
  latch : (line : ℕ) (d q : Word) (edge : Edge) (control : Option Word) (init : Init) → SpelledItem
  place : (line : ℕ) (model : Word) (binds : List Binding) → SpelledItem

-- a model: its name, its ports, and its items in their order
pub record SpelledModel : Type 0 where
  pub name : Word
  pub inputs : List Word
  pub outputs : List Word
  pub clocks : List Word
  pub items : List SpelledItem

-- a binding of a design, as the text spells it
abbrev pub spelled_bind : Bind → Binding
spelled_bind bind = record { formal = bind.formal; actual = bind.actual }

-- an item of a design, as the text spells it
abbrev pub spelled_item : Item → SpelledItem
spelled_item (Names line ins out cover) = table line ins out cover.on (map (λ row. row.marks) cover.rows)
spelled_item (Latch line d q edge control init) = latch line d q edge control init
spelled_item (Sub line model binds) = place line model (map spelled_bind binds)

-- a model of a design, as the text spells it
abbrev pub spelled_model : Model → SpelledModel
spelled_model model = record {
  name = model.name;
  inputs = model.inputs;
  outputs = model.outputs;
  clocks = model.clocks;
  items = map spelled_item model.items;
}
