use Rattle.std.proofs.Common.{◌≡◌, ◌+◌, ◌++◌, ◌∷◌, [], List, take, sym, ◌∙◌, ap, subst}
use Rattle.std.specs.List.{AllZip}
use Rattle.std.proofs.lemmas.List.{take_more}
use Rattle.vw_design.specs.declared.model.Model.{Model}
use Rattle.vw_design.specs.Distinct.{has_name}
use Rattle.vw_design.specs.Paths.{Word}
use Rattle.vw_design.proofs.PairedLists.{AllZip-push}
use Rattle.vw_drivers.proofs.model_outputs.output_sets.Goals as goal

pub loop-model-preserved : goal.loop-model-preserved
loop-model-preserved c =
    let models = c.models-model-items.result.now in
    let i = c.loop-model.model-index in
    let model = c.model-item.result in
    let same = λ (m : Model) (names : List Word). (name : Word) → has_name names name ≡ has_name m.outputs name in
    let one = λ (name : Word). c.in_ok-of.ensures name ∙ ap (λ (names : List Word). has_name names name) c.outputs.ensures in
    let front : take (i + 1) models ≡ take i models ++ model ∷ [] = take_more models i model c.loop-model-test.true ∙ ap (λ (m : Model). take i models ++ m ∷ []) (sym c.model-item.is) in
    let more : AllZip same (take i models ++ model ∷ []) (c.loop-model.outputs.items ++ c.in_ok-of.field-0 ∷ []) = AllZip-push same (take i models) c.loop-model.outputs.items model c.in_ok-of.field-0 c.loop-model.invariant one in
    subst (λ (ms : List Model). AllZip same ms c.push.new.self.items) (sym front)
    (subst (AllZip same (take i models ++ model ∷ [])) (sym c.in_ok-push.ensures.items) more)
