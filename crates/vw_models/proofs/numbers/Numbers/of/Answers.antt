use Rattle.std.proofs.Common.{◌≡◌, Some, List, slice_get, refl, ◌∙◌, sym, ap, length}
use Rattle.std.proofs.lemmas.Map.Text.{hash_map_updates_str}
use Rattle.std.proofs.lemmas.Option.{slice_get_read}
use Rattle.vw_design.specs.declared.model.Model.{Model}
use Rattle.vw_models.specs.Steps.Names.{model_number_in}
use Rattle.vw_models.proofs.NumbersByName.{named_step}
use Rattle.vw_models.proofs.numbers.Numbers.of.Goals as goal

-- one more name
pub loop-number-preserved : goal.loop-number-preserved
loop-number-preserved c = λ name.
    let models = c.args.design.now.models in
    let number = c.loop-number.number in
    let model = c.model-item.result in
    let put = hash_map_updates_str c.as_slice.result.now c.loop-number.names c.insert.new.self _ c.in_ok-insert.ensures.updates name in
    let listed = slice_get_read c.models-model-items.result.now (length c.models-model-items.result.now) number model refl c.loop-number-test.true c.model-item.is in
    let at : slice_get models number ≡ Some model = ap (λ (l : List Model). slice_get l number) (sym c.models-model-items.ensures) ∙ listed in
    named_step models number model c.as_slice.result.now name at (c.as_slice.ensures ∙ c.name.ensures) (model_number_in c.loop-number.names name) (model_number_in c.insert.new.self name) put (c.loop-number.invariant name)
