-- The models that are placed: those of the `.subckt` items of the models that are reached, in the order of the file.
use Rattle.std.specs.Prelude.{◌≡◌, ℕ, List, ◌++◌, flat_map, filter_map, Option, Some, option_map, option_and_then, slice_get}
use Rattle.std.specs.List.{AllZip}
use Rattle.vw_design.specs.declared.item.Bind.{Bind}
use Rattle.vw_design.specs.declared.item.Item.{Item}
use Rattle.vw_design.specs.declared.model.Model.{Model}
use Rattle.vw_design.specs.declared.design.Design.{Design}
use Rattle.vw_design.specs.Paths.{model_named}
use Rattle.vw_design.specs.ModelFaults.{by_placing, reached}
use Rattle.vw_models.specs.declared.numbered_placing.NumberedPlacing.{NumberedPlacing}

-- a model that is placed, with the line and the bindings of its item
pub record PlacedModel : Type 0 where
  pub line : ℕ
  pub model : Model
  pub binds : List Bind

-- what an item places, where the file has the model
abbrev pub placed_by : Design → Item → Option PlacedModel
placed_by design = by_placing (λ line name binds. option_map (λ model. record { line = line; model = model; binds = binds }) (model_named design.models name))

abbrev pub placed_models : Design → List PlacedModel
placed_models design = flat_map (λ model. filter_map (placed_by design) model.items) (reached design)

-- a placed model by its number
pub record IsNumberedPlacing (design : Design) (placed : PlacedModel) (numbered : NumberedPlacing) : Type 0 where
  pub line : numbered.line ≡ placed.line
  pub model : slice_get design.models numbered.number ≡ Some placed.model
  pub binds : numbered.binds.now ≡ placed.binds

-- behind all_numbered of some placed models those of some more were added
abbrev pub AreAdded : Design → List NumberedPlacing → List PlacedModel → List NumberedPlacing → Type 0
AreAdded design old added new =
    (before : List PlacedModel) → AllZip (IsNumberedPlacing design) before old → AllZip (IsNumberedPlacing design) (before ++ added) new

-- what a search finds at a placed model, given line, model and bindings
abbrev pub at_numbered : {A : Type 0} → Design → (ℕ → Model → List Bind → Option A) → NumberedPlacing → Option A
at_numbered design search numbered =
    option_and_then (λ model. search numbered.line model numbered.binds.now) (slice_get design.models numbered.number)
