use Rattle.std.proofs.Common.{◌≡◌, ◌<◌, ◌++◌, ◌∷◌, [], ℕ, Some, List, length, slice_get, get_or, sym, refl, ◌∙◌, ap, ap₂, subst}
use Rattle.std.proofs.lemmas.List.{map_more}
use Rattle.std.proofs.lemmas.Option.{slice_get_read}
use Rattle.vw_design.specs.declared.model.Model.{Model}
use Rattle.vw_design.specs.Paths.{Word}
use Rattle.vw_models.specs.Steps.ModelNames.{name_if_any}
use Rattle.vw_models.proofs.circle.circle_names.Goals as goal

-- one more name
pub loop-number-preserved : goal.loop-number-preserved
loop-number-preserved c =
    let design = c.args.design.now in
    let models = c.models.result.now in
    let circle = c.args.circle.now in
    let i = c.loop-number.number-index in
    let number = get_or circle i 0 in
    let model = c.index-models-number.result in
    let within : number < length models = subst (λ (l : List Model). number < length l) (sym c.models.ensures) (c.requires i c.loop-number-test.true) in
    let at : slice_get design.models number ≡ Some model = ap (λ (l : List Model). slice_get l number) (sym c.models.ensures) ∙ slice_get_read models (length models) number model refl within c.index-models-number.is in
    let name : c.in_ok-copy.field-0 ≡ name_if_any (slice_get design.models number) = c.in_ok-copy.ensures ∙ c.name-name.ensures ∙ sym (ap name_if_any at) in
    c.in_ok-push.ensures.items
    ∙ ap₂ (λ (l : List Word) (w : Word). l ++ w ∷ []) c.loop-number.invariant name
    ∙ sym (map_more (λ (n : ℕ). name_if_any (slice_get design.models n)) circle i 0 c.loop-number-test.true)
