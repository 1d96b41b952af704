-- Paths, and what stands at them. Source: `.subckt` of the Berkeley description; that an instance is a path is this
-- project's way to speak of it.
use Rattle.std.specs.Prelude.{ℕ, zero, suc, Bool, ◌||◌, List, [], ◌∷◌, ◌++◌, reverse, codes, Option, Some, None, option_and_then, option_map, slice_get, find, filter_map, flat_map}
use Rattle.std.specs.Borrow.{Bor}
use Rattle.std.specs.Fmt.{decimal}
use Rattle.std.specs.Str.{bytes_eq}
use Rattle.vw_design.specs.declared.item.Bind.{Bind}
use Rattle.vw_design.specs.declared.item.Item.{Item}
use Rattle.vw_design.specs.declared.item.Item.TheVariants.{Names, Latch, Sub}
use Rattle.vw_design.specs.declared.model.Model.{Model}
use Rattle.vw_design.specs.declared.design.Design.{Design}
use Rattle.vw_design.specs.Distinct.{has_name}

-- a name, as its bytes
abbrev pub Word : Type 0
Word = List ℕ

-- a name that lies elsewhere, if there is one
abbrev pub lent : Option (Bor Word) → Option Word
lent name = option_map (λ name. name.now) name

-- the places of an instance, the last one first; the root has none. A place is the number, from 1, of a `.subckt` item
-- among those of its model
abbrev pub Path : Type 0
Path = List ℕ

-- a net: a name at a path
pub record Net : Type 0 where
  pub path : Path
  pub name : Word

-- how a net is printed: each place followed by `/`, from the root on, and then the name
abbrev pub printed : Net → List ℕ
printed net = flat_map (λ place. decimal place ++ codes "/") (reverse net.path) ++ net.name

-- the model that a `.subckt` item names, and its bindings
pub record Placing : Type 0 where
  pub model : Word
  pub binds : List Bind

-- the placing that an item is, where it is one
abbrev pub placing_of : Item → Option Placing
placing_of (Names line ins out cover) = None
placing_of (Latch line d q edge control init) = None
placing_of (Sub line model binds) = Some (record { model = model; binds = binds })

-- those of some items, in order, and the one at a place
abbrev pub placings : List Item → List Placing
placings items = filter_map placing_of items

-- the placing of a number among items, numbered from 1
abbrev pub placing_at : List Item → ℕ → Option Placing
placing_at items zero = None
placing_at items (suc before) = slice_get (placings items) before

-- the model of a name
abbrev pub model_named : List Model → Word → Option Model
model_named models name = find (λ model. bytes_eq model.name name) models

-- the model that a model places at a place
abbrev pub model_placed : Design → ℕ → Model → Option Model
model_placed design place model = option_and_then (λ placing. model_named design.models placing.model) (placing_at model.items place)

-- the model of an instance: the first model at the root, else the one that is placed there; none where the path is no
-- instance
abbrev pub model_at : Design → Path → Option Model
model_at design [] = slice_get design.models 0
model_at design (place ∷ path) = option_and_then (model_placed design place) (model_at design path)

-- its items and outputs
abbrev pub items_of : Option Model → List Item
items_of None = []
items_of (Some model) = model.items

-- the outputs of a model; none where there is no model
abbrev pub model_outputs : Option Model → List Word
model_outputs None = []
model_outputs (Some model) = model.outputs

-- whether a name is an input or a clock of a model
abbrev pub is_port : Model → Word → Bool
is_port model name = has_name model.inputs name || has_name model.clocks name
