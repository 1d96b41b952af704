use Rattle.std.proofs.Common.{◌≡◌, ◌∙◌, ◌++◌, List, [], Some, length, slice_get, get_or, refl, sym, ap}
use Rattle.std.proofs.lemmas.Option.{slice_get_read}
use Rattle.vw_design.specs.declared.design.Design.{Design}
use Rattle.vw_design.specs.declared.model.Model.{Model}
use Rattle.vw_design.specs.Paths.{Word, model_at, model_outputs}
use Rattle.vw_front.proofs.NameLists.{printed_outputs}
use Rattle.vw_front.proofs.names.output_names.Goals as goal

-- the names of the first model's outputs are those of the root's, which are printed so
pub returns : goal.returns
returns c =
    let design = c.args.elaborated.now in
    let root : slice_get design.models 0 ≡ Some c.index-models-0.result =
    slice_get_read design.models (length design.models) 0 c.index-models-0.result refl design.some
    (c.index-models-0.is ∙ ap (λ (models : List Model). get_or models 0 c.index-models-0.result) (c.models.ensures ∙ ap (λ (d : Design). d.models) c.design.ensures)) in
    c.in_ok-push_names.ensures ∙ ap (λ (front : List Word). front ++ c.outputs-outputs.result.now) c.in_ok-names.ensures.items
    ∙ c.outputs-outputs.ensures ∙ ap model_outputs (sym root) ∙ sym (printed_outputs (model_outputs (model_at design [])))
