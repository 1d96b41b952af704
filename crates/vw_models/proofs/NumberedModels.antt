-- A model at a place, with its flag and its targets.
use Rattle.std.proofs.Common.{◌≡◌, ◌<◌, ℕ, Bool, true, false, true≢false, List, [], Option, Some, None, length, get_or, slice_get, refl, sym, ◌∙◌, ap, subst}
use Rattle.std.specs.List.{AllZip}
use Rattle.std.proofs.lemmas.Option.{slice_get_within, slice_get_read, get_or_from_slice_get}
use Rattle.vw_design.specs.declared.model.Model.{Model}
use Rattle.vw_design.specs.declared.design.Design.{Design}
use Rattle.vw_design.specs.Paths.{placings}
use Rattle.vw_design.specs.ModelFaults.{is_reached}
use Rattle.vw_design.specs.ModelNumbers.{IsNumberOfModel, AreTargets, AreModelsReached, is_reached_model}
use Rattle.vw_design.proofs.PairedLists.{AllZip-at, AllZip-length}
use Rattle.vw_models.specs.Steps.Reach.{Targets}
use Rattle.vw_models.proofs.Unknowns.{AreAlong}

-- there are as many flags and targets as models
pub flags_each : (design : Design) (flags : List Bool) → AreModelsReached design flags → length design.models ≡ length flags
flags_each design flags are = AllZip-length (λ (model : Model) (flag : Bool). flag ≡ is_reached design model.name) design.models flags are

pub targets_each : (design : Design) (targets : Targets) → AreTargets design targets → length design.models ≡ length targets
targets_each design targets are = AllZip-length (λ model numbers. AllZip (λ placing number. IsNumberOfModel design placing.model number) (placings model.items) numbers) design.models targets are

pub model_at_place : (models others : List Model) (i : ℕ) (model : Model) → others ≡ models → i < length others → model ≡ get_or others i model → slice_get models i ≡ Some model
model_at_place models others i model are within at = ap (λ (l : List Model). slice_get l i) (sym are) ∙ slice_get_read others (length others) i model refl within at

pub flag_at : (design : Design) (flags : List Bool) (i : ℕ) (model : Model) → AreModelsReached design flags → slice_get design.models i ≡ Some model → get_or flags i false ≡ is_reached design model.name
flag_at design flags i model are at =
    let flag = AllZip-at (λ (model : Model) (flag : Bool). flag ≡ is_reached design model.name) design.models flags i model are at in
    get_or_from_slice_get flags i flag.0 false flag.1 ∙ flag.2

pub along_at : (design : Design) (targets : Targets) (i : ℕ) (model : Model) → AreTargets design targets → slice_get design.models i ≡ Some model → AreAlong design model.items (get_or targets i [])
along_at design targets i model are at =
    let row = AllZip-at (λ model numbers. AllZip (λ placing number. IsNumberOfModel design placing.model number) (placings model.items) numbers) design.models targets i model are at in
    subst (λ (l : List (Option ℕ)). AreAlong design model.items l) (sym (get_or_from_slice_get targets i row.0 [] row.1)) row.2

pub within_models : (models others : List Model) (i : ℕ) → others ≡ models → i < length others → i < length models
within_models models others i are within = subst (λ (l : List Model). i < length l) are within

-- the numbers that are reached are those of models
pub reached_within : (design : Design) (number : ℕ) → is_reached_model design (slice_get design.models number) ≡ true → number < length design.models
reached_within design number reached = by (slice_get design.models number) refl reached where
  by : (found : Option Model) → slice_get design.models number ≡ found → is_reached_model design found ≡ true → number < length design.models
  by None is reached = absurd (true≢false (sym reached))
  by (Some model) is reached = slice_get_within design.models number model is
