-- What each model of a design keeps.
use Rattle.std.specs.Prelude.{◌==◌, Bool, true, map, length, IsTrue}
use Rattle.std.specs.List.{list_all}
use Rattle.vw_design.specs.declared.item.Item.{Item}
use Rattle.vw_design.specs.declared.item.Item.TheVariants.{Names, Latch, Sub}
use Rattle.vw_design.specs.declared.model.Model.{Model}
use Rattle.vw_design.specs.Distinct.{are_distinct}

-- a table has as many inputs as it has nets, and no formal is bound twice
abbrev pub has_its_shape : Item → Bool
has_its_shape (Names line ins out cover) = length ins == cover.inputs
has_its_shape (Latch line d q edge control init) = true
has_its_shape (Sub line model binds) = are_distinct (map (λ bind. bind.formal) binds)

-- no name stands twice in one of the lists of ports, and each item has its shape
pub record IsWellMade (model : Model) : Type 0 where
  pub inputs : IsTrue (are_distinct model.inputs)
  pub outputs : IsTrue (are_distinct model.outputs)
  pub clocks : IsTrue (are_distinct model.clocks)
  pub items : IsTrue (list_all has_its_shape model.items)
