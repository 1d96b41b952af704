-- Faults of models that place each other, each with its first place: the models that are reached in the order of the
-- file, and their `.subckt` items in text order. Source: the Berkeley description of BLIF, and this project's choices
-- where it is silent.
use Rattle.std.specs.Prelude.{◌<◌, ◌≤◌, ℕ, Bool, false, not, ◌||◌, List, ◌++◌, length, map, filter, find, is_none, Option, Some, None, option_map, option_and_then, slice_index_or, IsTrue, if◌then◌else◌}
use Rattle.std.specs.List.{list_any, AllZip, position_or_len}
use Rattle.std.specs.Str.{bytes_eq}
use Rattle.vw_design.specs.declared.item.Bind.{Bind}
use Rattle.vw_design.specs.declared.item.Item.{Item}
use Rattle.vw_design.specs.declared.item.Item.TheVariants.{Names, Latch, Sub}
use Rattle.vw_design.specs.declared.model.Model.{Model}
use Rattle.vw_design.specs.declared.design.Design.{Design}
use Rattle.vw_design.specs.Distinct.{has_name, are_distinct}
use Rattle.vw_net.specs.FirstFound.{first_found}
use Rattle.vw_net.specs.Lists.{turned}
use Rattle.vw_design.specs.Paths.{Word, model_named, model_at, is_port}
use Rattle.vw_design.specs.Preorder.{instances}

-- whether a model has this name
abbrev pub has_model_name : Word → Option Model → Bool
has_model_name name None = false
has_model_name name (Some model) = bytes_eq model.name name

-- the models that are reached, in the order of the file: those of some instance
abbrev pub is_reached : Design → Word → Bool
is_reached design name = list_any (λ path. has_model_name name (model_at design path)) (instances design)

-- the models that are reached from the root, in the order of the file
unfoldable pub reached : Design → List Model
reached design = filter (λ model. is_reached design model.name) design.models

-- a name that is at fault, and the line of its item
pub record NameAt : Type 0 where
  pub line : ℕ
  pub name : Word

-- what a search finds first at the placed models of the design, given line, model and bindings
abbrev pub by_placing : {A : Type 0} → (ℕ → Word → List Bind → Option A) → Item → Option A
by_placing search (Names line ins out cover) = None
by_placing search (Latch line d q edge control init) = None
by_placing search (Sub line model binds) = search line model binds

-- what a search finds first among the placings of the models that are reached, in the order of the file
abbrev pub first_placing : {A : Type 0} → Design → (ℕ → Word → List Bind → Option A) → Option A
first_placing design search = first_found (λ model. first_found (by_placing search) model.items) (reached design)

-- 13: an item names no model of the file; its line
abbrev pub unknown_model : Design → Option ℕ
unknown_model design = first_placing design (λ line model binds. if is_none (model_named design.models model) then Some line else None)

-- whether a model of this name places one of that name
abbrev pub names_model : Word → Item → Bool
names_model name (Names line ins out cover) = false
names_model name (Latch line d q edge control init) = false
names_model name (Sub line model binds) = bytes_eq model name

-- whether a model places one of this name
abbrev pub model_places : Option Model → Word → Bool
model_places None name = false
model_places (Some model) name = list_any (names_model name) model.items

-- the place of a model in the file
abbrev pub place_in_file : Design → Word → ℕ
place_in_file design name = position_or_len (λ model. bytes_eq model.name name) design.models

-- 14: models that are reached place each other in a circle. Each places the next and the last one the first, none
-- stands twice, and the first is the one that stands first in the file. Several lists may be right
pub record IsModelCircle (design : Design) (names : List Word) : Type 0 where
  pub some : 0 < length names
  pub reached : (i : ℕ) (name : Word) → i < length names → IsTrue (is_reached design (slice_index_or names i name))
  pub distinct : IsTrue (are_distinct names)
  pub placed : AllZip (λ name next. IsTrue (model_places (model_named design.models name) next)) names (turned names)
  pub earliest : (i : ℕ) (name : Word) → i < length names → place_in_file design (slice_index_or names 0 name) ≤ place_in_file design (slice_index_or names i name)

-- what a search finds at the model of a name, if there is one
abbrev pub at_model : {A : Type 0} → Design → (Model → Option A) → Word → Option A
at_model design search name = option_and_then search (model_named design.models name)

-- whether a model has an input, clock or output of this name
abbrev pub is_formal_of : Model → Word → Bool
is_formal_of model name = is_port model name || has_name model.outputs name

-- the first formal that the placed model doesn't have
abbrev pub unknown_formal_in : Model → List Bind → Option Word
unknown_formal_in model binds = option_map (λ bind. bind.formal) (find (λ bind. not (is_formal_of model bind.formal)) binds)

-- 15: a bound formal is no input, clock or output of the placed model
abbrev pub unknown_formal : Design → Option NameAt
unknown_formal design = first_placing design (λ line name binds.
    option_map (λ formal. record { line = line; name = formal }) (at_model design (λ model. unknown_formal_in model binds) name))

-- the first input or clock of a model that some bindings don't bind
abbrev pub unbound_input_in : Model → List Bind → Option Word
unbound_input_in model binds = find (λ formal. not (has_name (map (λ bind. bind.formal) binds) formal)) (model.inputs ++ model.clocks)

-- 16: an input or clock of the placed model isn't bound; inputs are looked at first, then clocks
abbrev pub unbound_input : Design → Option NameAt
unbound_input design = first_placing design (λ line name binds.
    option_map (λ formal. record { line = line; name = formal }) (at_model design (λ model. unbound_input_in model binds) name))

-- a name of a model that is at fault
pub record NameOf : Type 0 where
  pub model : Word
  pub name : Word

-- 17: the placed model has an output that is an input or clock of it, too; the model, and the first such output
abbrev pub port_both_ways : Design → Option NameOf
port_both_ways design = first_placing design (λ line name binds.
    option_map (λ output. record { model = name; name = output }) (at_model design (λ model. find (is_port model) model.outputs) name))
