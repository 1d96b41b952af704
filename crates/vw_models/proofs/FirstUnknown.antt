-- The first unknown model, model by model.
use Rattle.std.proofs.Common.{◌≡◌, ◌<◌, ◌≤◌, ◌+◌, ℕ, Bool, true, false, cond, List, ◌∷◌, drop, length, filter, get_or, Option, Some, None, is_some, refl, sym, ◌∙◌, ap, true≢false}
use Rattle.std.specs.Option.{option_or}
use Rattle.std.proofs.lemmas.List.{drop_more, drop_all}
use Rattle.vw_design.specs.declared.model.Model.{Model}
use Rattle.vw_design.specs.declared.design.Design.{Design}
use Rattle.vw_net.specs.FirstFound.{first_found}
use Rattle.vw_design.specs.ModelFaults.{is_reached, reached, unknown_model}
use Rattle.vw_models.specs.Steps.Unknown.{unknown_of}

-- what is found among models that pass a test
module _ (passes : Model → Bool) (find_in : Model → Option ℕ) (models : List Model) (i : ℕ) (model : Model) (within : i < length models) (at : model ≡ get_or models i model) where
  here : (b : Bool) → passes model ≡ b → first_found find_in (filter passes (drop i models)) ≡ first_found find_in (cond b (model ∷ filter passes (drop (i + 1) models)) (filter passes (drop (i + 1) models)))
  here b is =
      ap (λ (l : List Model). first_found find_in (filter passes l)) (drop_more models i model within ∙ ap (λ (m : Model). m ∷ drop (i + 1) models) (sym at))
      ∙ ap (λ (c : Bool). first_found find_in (cond c (model ∷ filter passes (drop (i + 1) models)) (filter passes (drop (i + 1) models)))) is

  pub passed_over : passes model ≡ false → first_found find_in (filter passes (drop i models)) ≡ first_found find_in (filter passes (drop (i + 1) models))
  passed_over is = here false is

  nothing_or : (found rest : Option ℕ) → is_some found ≡ false → option_or found rest ≡ rest
  nothing_or None rest none = refl
  nothing_or (Some line) rest none = absurd (true≢false none)

  something_or : (found rest : Option ℕ) → is_some found ≡ true → option_or found rest ≡ found
  something_or None rest some = absurd (true≢false (sym some))
  something_or (Some line) rest some = refl

  pub nothing_here : passes model ≡ true → is_some (find_in model) ≡ false → first_found find_in (filter passes (drop i models)) ≡ first_found find_in (filter passes (drop (i + 1) models))
  nothing_here is none = here true is ∙ nothing_or (find_in model) (first_found find_in (filter passes (drop (i + 1) models))) none

  pub found_here : passes model ≡ true → is_some (find_in model) ≡ true → first_found find_in (filter passes (drop i models)) ≡ find_in model
  found_here is some = here true is ∙ something_or (find_in model) (first_found find_in (filter passes (drop (i + 1) models))) some

pub unknown_is : (design : Design) → first_found (λ model. first_found (unknown_of design) model.items) (filter (λ model. is_reached design model.name) design.models) ≡ unknown_model design
unfolding reached
unknown_is design = refl

pub nothing_left : (design : Design) (i : ℕ) → length design.models ≤ i → first_found (λ model. first_found (unknown_of design) model.items) (filter (λ model. is_reached design model.name) (drop i design.models)) ≡ None
nothing_left design i past = ap (λ (l : List Model). first_found (λ (model : Model). first_found (unknown_of design) model.items) (filter (λ (model : Model). is_reached design model.name) l)) (drop_all i design.models past)
