-- Numbers by names, model by model, and the numbers of all that is placed.
use Rattle.std.proofs.Common.{◌≡◌, ◌+◌, ℕ, Bool, true, false, cond, List, length, map, slice_get, Option, Some, None, ⊎_elim, refl, sym, ◌∙◌, ap, subst, true≢false, arith}
use Rattle.std.specs.List.{AllZip}
use Rattle.std.specs.Str.{bytes_eq}
use Rattle.std.proofs.lemmas.Bool.{cases_lt}
use Rattle.std.proofs.lemmas.Option.{same_Some, slice_get_within}
use Rattle.vw_design.specs.declared.model.Model.{Model}
use Rattle.vw_design.specs.declared.design.Design.{Design}
use Rattle.vw_design.specs.Paths.{Word, placings, model_named}
use Rattle.vw_design.specs.ModelNumbers.{IsNumberOfModel, AreTargets}
use Rattle.vw_design.proofs.ListElements.{at-Has, from-find}
use Rattle.vw_design.proofs.Names.{same_name}
use Rattle.vw_models.specs.Steps.Names.{IsNumberAmong}
use Rattle.vw_design.proofs.ModelNumbers.{named_at}
use Rattle.vw_design.proofs.PairedLists.{AllZip-values}

module _ (models : List Model) (count : ℕ) (model : Model) (key name : Word) (at : slice_get models count ≡ Some model) (is_key : key ≡ model.name) where
  named_by : (same : Bool) → bytes_eq key name ≡ same → (old : Option ℕ) → IsNumberAmong models count name old → IsNumberAmong models (count + 1) name (cond same (Some count) old)
  named_by true same old before = (omega arith, (model, at, ap (λ (w : Word). bytes_eq w name) (sym is_key) ∙ same))
  named_by false same None before = λ number other within there.
      ⊎_elim
      (λ earlier. before number other earlier there)
      (λ later.
      let last : number ≡ count = omega arith in
      let is : model ≡ other = same_Some model other (sym at ∙ ap (slice_get models) (sym last) ∙ there) in
      ap (λ (m : Model). bytes_eq m.name name) (sym is) ∙ ap (λ (w : Word). bytes_eq w name) (sym is_key) ∙ same)
      (cases_lt number count)
  named_by false same (Some number) before = (omega (arith, before.0), before.1)

  pub named_step : (old new : Option ℕ) → new ≡ cond (bytes_eq key name) (Some count) old → IsNumberAmong models count name old → IsNumberAmong models (count + 1) name new
  named_step old new is before = subst (λ (n : Option ℕ). IsNumberAmong models (count + 1) name n) (sym is) (named_by (bytes_eq key name) refl old before)

module _ (design : Design) where
  number_is : (name : Word) (found : Option ℕ) → IsNumberAmong design.models (length design.models) name found → IsNumberOfModel design name found
  number_is name None none = by (model_named design.models name) refl where
    by : (found : Option Model) → model_named design.models name ≡ found → found ≡ None
    by None is = refl
    by (Some model) is =
        let found = from-find (λ (m : Model). bytes_eq m.name name) model design.models is in
        let place = at-Has model design.models found.0 in
        absurd (true≢false (sym found.1 ∙ none place.0 model (slice_get_within design.models place.0 model place.1) place.1))
  number_is name (Some number) is =
      let model = is.1.0 in
      (is.0, is.1.1 ∙ sym (named_at design number model is.1.1) ∙ ap (model_named design.models) (same_name model.name name is.1.2))

  -- all that is placed has its number
  pub targets_are : (number : Word → Option ℕ) → ((name : Word) → IsNumberAmong design.models (length design.models) name (number name))
      → AreTargets design (map (λ model. map (λ placing. number placing.model) (placings model.items)) design.models)
  targets_are number each =
      AllZip-values (λ model numbers. AllZip (λ placing number. IsNumberOfModel design placing.model number) (placings model.items) numbers) (λ model. map (λ placing. number placing.model) (placings model.items)) design.models
      (λ model. AllZip-values (λ placing found. IsNumberOfModel design placing.model found) (λ placing. number placing.model) (placings model.items) (λ placing. number_is placing.model (number placing.model) (each placing.model)))
