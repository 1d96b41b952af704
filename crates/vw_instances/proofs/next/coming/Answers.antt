use Rattle.std.proofs.Common.{◌≡◌, ℕ, List, Option, Some, None, length, slice_get, refl, sym, ap, ◌∙◌}
use Rattle.std.proofs.lemmas.Option.{slice_get_read, slice_get_past}
use Rattle.vw_design.specs.declared.design.Design.{Design}
use Rattle.vw_design.specs.declared.item.Item.{Item}
use Rattle.vw_design.specs.declared.model.Model.{Model}
use Rattle.vw_models.proofs.NumberedModels.{model_at_place}
use Rattle.vw_instances.specs.declared.next.Next.TheVariants.{End}
use Rattle.vw_instances.specs.Steps.Nexts.{target_at, next_placed, next_by, next_of}
use Rattle.vw_instances.proofs.next.coming.Goals.{In-Some-Sub}
use Rattle.vw_instances.proofs.next.coming.Goals as goal

-- by the item, where there is one, and the end where there is none
module _ (design : Design) (targets : List (List (Option ℕ))) (model item before : ℕ) where
  next_of_item : (found : Model) (here : Item) → slice_get design.models model ≡ Some found → slice_get found.items item ≡ Some here
      → next_of design targets model item before ≡ next_by (target_at targets model before) (Some here)
  next_of_item found here first second = rw (first, second) refl

  no_item_is_next : (found : Model) → slice_get design.models model ≡ Some found → slice_get found.items item ≡ None → next_of design targets model item before ≡ End
  no_item_is_next found first second = rw (first, second) refl

  no_model_is_next : slice_get design.models model ≡ None → next_of design targets model item before ≡ End
  no_model_is_next none = rw none refl

-- a `.subckt` item goes by the model that it places
model_is_next : (c : In-Some-Sub) → next_of c.args.targets.now.design.now c.args.targets.now.numbers.now c.args.frame.model c.args.frame.item c.args.frame.before ≡ next_placed (target_at c.args.targets.now.numbers.now c.args.frame.model c.args.frame.before)
model_is_next c =
    let targets = c.args.targets.now.numbers.now in
    let frame = c.args.frame in
    let model = c.in-Some.ensures.lookup in
    let item = c.in-Some-Sub.ensures.lookup in
    let items = c.items.result.now in
    let stands = model_at_place c.args.targets.now.design.now.models c.models.result.now frame.model c.in-Some.model.now c.models.ensures model.3.0 model.1 in
    let here = ap (λ (list : List Item). slice_get list frame.item) (sym c.items.ensures) ∙ slice_get_read items (length items) frame.item c.in-Some-Sub.field-0.now refl item.3.0 item.1 in
    next_of_item c.args.targets.now.design.now targets frame.model frame.item frame.before c.in-Some.model.now c.in-Some-Sub.field-0.now stands here
    ∙ ap (λ (found : Item). next_by (target_at targets frame.model frame.before) (Some found)) c.in-Some-Sub.field-0-is

pub returns-in-None-target_at : goal.returns-in-None-target_at
returns-in-None-target_at c = sym (model_is_next (goal.at.returns-in-None-target_at c).In-Some-Sub ∙ ap next_placed (sym c.target_at.ensures ∙ c.in-None-target_at.is))

pub returns-in-Some-target_at : goal.returns-in-Some-target_at
returns-in-Some-target_at c = sym (model_is_next (goal.at.returns-in-Some-target_at c).In-Some-Sub ∙ ap next_placed (sym c.target_at.ensures ∙ c.in-Some-target_at.is))

pub returns-in_default : goal.returns-in_default
returns-in_default c =
    let models = c.models.result.now in
    let frame = c.args.frame in
    sym (no_model_is_next c.args.targets.now.design.now c.args.targets.now.numbers.now frame.model frame.item frame.before
    (ap (λ (list : List Model). slice_get list frame.model) (sym c.models.ensures) ∙ slice_get_past models frame.model c.in_default.ensures.lookup.3))

pub returns-in-None : goal.returns-in-None
returns-in-None c =
    let frame = c.args.frame in
    let model = c.in-Some.ensures.lookup in
    let items = c.items.result.now in
    let stands = model_at_place c.args.targets.now.design.now.models c.models.result.now frame.model c.in-Some.model.now c.models.ensures model.3.0 model.1 in
    sym (no_item_is_next c.args.targets.now.design.now c.args.targets.now.numbers.now frame.model frame.item frame.before c.in-Some.model.now stands
    (ap (λ (list : List Item). slice_get list frame.item) (sym c.items.ensures) ∙ slice_get_past items frame.item c.in-None.ensures.lookup.3))
