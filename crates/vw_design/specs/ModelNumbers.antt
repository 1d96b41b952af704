-- Models by their numbers: their places in the file, from 0. What tables of such numbers say of a design.
use Rattle.std.specs.Prelude.{◌≡◌, ◌≢◌, ◌<◌, ℕ, Bool, false, List, length, take, slice_get, slice_index, Option, Some, None, IsTrue}
use Rattle.std.specs.List.{AllZip, list_any, list_all}
use Rattle.vw_net.specs.Order.{is_among}
use Rattle.vw_design.specs.declared.design.Design.{Design}
use Rattle.vw_design.specs.declared.model.Model.{Model}
use Rattle.vw_design.specs.Paths.{Word, Placing, placings, model_named, items_of}
use Rattle.vw_design.specs.ModelFaults.{is_reached, has_model_name}

-- the number of the model of a name, where the file has one
abbrev pub IsNumberOfModel : Design → Word → Option ℕ → Type 0
IsNumberOfModel design name None = model_named design.models name ≡ None
IsNumberOfModel design name (Some number) =
    (number < length design.models) × (slice_get design.models number ≡ model_named design.models name)

-- the numbers of the models that placings name
abbrev pub AreModelNumbers : Design → List Placing → List (Option ℕ) → Type 0
AreModelNumbers design placings numbers = AllZip (λ placing number. IsNumberOfModel design placing.model number) placings numbers

-- for each model, the numbers of the models that its `.subckt` items name, in order
abbrev pub AreTargets : Design → List (List (Option ℕ)) → Type 0
AreTargets design targets =
    AllZip (λ model numbers. AreModelNumbers design (placings model.items) numbers) design.models targets

-- for each model, whether it is reached
abbrev pub AreModelsReached : Design → List Bool → Type 0
AreModelsReached design flags = AllZip (λ model flag. flag ≡ is_reached design model.name) design.models flags

-- whether the model with a number is reached
abbrev pub is_reached_model : Design → Option Model → Bool
is_reached_model design None = false
is_reached_model design (Some model) = is_reached design model.name

-- whether the model with one of these numbers has this name
abbrev pub has_number_among : Design → List ℕ → Word → Bool
has_number_among design numbers name = list_any (λ number. has_model_name name (slice_get design.models number)) numbers

-- the reached models, each once, and behind those that it places
pub record IsModelOrder (design : Design) (order : List ℕ) : Type 0 where
  pub each : (number : ℕ) → is_among order number ≡ is_reached_model design (slice_get design.models number)
  pub once : (i j : ℕ) → i < j → j < length order → slice_index order i ≢ slice_index order j
  pub behind : (i : ℕ) → i < length order
      → IsTrue (list_all (λ placing. has_number_among design (take i order) placing.model) (placings (items_of (slice_get design.models (slice_index order i)))))
