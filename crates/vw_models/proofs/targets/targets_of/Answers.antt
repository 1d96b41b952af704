use Rattle.std.proofs.Common.{◌≡◌, ◌++◌, ◌∷◌, [], ℕ, List, Option, map, sym, ◌∙◌, ap, ap₂, subst}
use Rattle.std.proofs.lemmas.List.{map_more, take_all}
use Rattle.vw_design.specs.declared.item.Item.{Item}
use Rattle.vw_design.specs.declared.model.Model.{Model}
use Rattle.vw_design.specs.Paths.{Placing, placings}
use Rattle.vw_design.specs.ModelNumbers.{AreTargets}
use Rattle.vw_models.specs.Steps.Names.{model_number_in}
use Rattle.vw_models.proofs.NumbersByName.{targets_are}
use Rattle.vw_models.proofs.targets.targets_of.Goals as goal

-- one more model
pub loop-model-preserved : goal.loop-model-preserved
loop-model-preserved c =
    let models = c.models-model-items.result.now in
    let i = c.loop-model.model-index in
    let model = c.model-item.result in
    let number = λ (placing : Placing). model_number_in c.in_ok-numbers.numbers.names placing.model in
    let all = λ (m : Model). map number (placings m.items) in
    let one : c.in_ok-targets-2.field-0 ≡ all model = c.in_ok-targets-2.ensures ∙ ap (λ (items : List Item). map number (placings items)) c.items.ensures in
    c.in_ok-push.ensures.items
    ∙ ap₂ (λ (l : List (List (Option ℕ))) (x : List (Option ℕ)). l ++ x ∷ []) c.loop-model.invariant (one ∙ ap all c.model-item.is)
    ∙ sym (map_more all models i model c.loop-model-test.true)

pub returns : goal.returns
returns c =
    let design = c.args.design.now in
    let models = c.models-model-items.result.now in
    let all = λ (m : Model). map (λ (placing : Placing). model_number_in c.in_ok-numbers.numbers.names placing.model) (placings m.items) in
    let whole : c.loop-model.targets.items ≡ map all design.models =
    c.loop-model.invariant ∙ ap (λ (l : List Model). map all l) (take_all c.loop-model.model-index models c.loop-model-test.false ∙ c.models-model-items.ensures) in
    subst (λ (l : List (List (Option ℕ))). AreTargets design l) (sym whole) (targets_are design (model_number_in c.in_ok-numbers.numbers.names) c.in_ok-numbers.ensures)
