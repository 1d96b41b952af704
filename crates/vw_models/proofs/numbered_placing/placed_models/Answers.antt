use Rattle.std.proofs.Common.{◌≡◌, ◌<◌, ◌≤◌, ◌+◌, ◌∷◌, ℕ, Bool, true, false, cond, List, [], drop, filter, filter_map, flat_map, Option, length, get_or, refl, sym, ◌∙◌, ap, subst, arith}
use Rattle.std.specs.List.{AllZip}
use Rattle.std.proofs.lemmas.List.{get_or_default, drop_more, drop_all}
use Rattle.vw_design.specs.declared.item.Item.{Item}
use Rattle.vw_design.specs.declared.model.Model.{Model}
use Rattle.vw_design.specs.declared.design.Design.{Design}
use Rattle.vw_design.specs.ModelFaults.{is_reached, reached}
use Rattle.vw_models.proofs.Unknowns.{AreAlong}
use Rattle.vw_models.specs.declared.numbered_placing.NumberedPlacing.{NumberedPlacing}
use Rattle.vw_models.specs.Steps.PlacedModels.{PlacedModel, placed_by, placed_models, IsNumberedPlacing, AreAdded}
use Rattle.vw_models.proofs.AddedPlacings.{IsAdding, more_added, ended}
use Rattle.vw_models.proofs.NumberedModels.{within_models, flags_each, targets_each, model_at_place, flag_at, along_at}
use Rattle.vw_models.proofs.numbered_placing.placed_models.Goals as goal
use Rattle.vw_models.proofs.numbered_placing.placed_models.Goals.{then-flags-number+in_ok-add_placed, else-flags-number}

pub bounds-flags-number : goal.bounds-flags-number
bounds-flags-number c =
    let inside = within_models c.args.targets.now.design.now.models c.models-model-items.result.now c.loop-number.number c.models-model-items.ensures c.loop-number-test.true in
    omega (arith, inside, flags_each c.args.targets.now.design.now c.args.flags.now c.requires.flags)

pub bounds-targets-number : goal.bounds-targets-number
bounds-targets-number c =
    let inside = within_models c.args.targets.now.design.now.models c.models-model-items.result.now c.loop-number.number c.models-model-items.ensures c.loop-number-test.true in
    omega (arith, inside, targets_each c.args.targets.now.design.now c.args.targets.now.numbers.now c.args.targets.now.are)

pub add_placed-requires : goal.add_placed-requires
add_placed-requires c =
    let design = c.args.targets.now.design.now in
    let targets = c.args.targets.now.numbers.now in
    let number = c.loop-number.number in
    let model = c.model-item.result in
    let at = model_at_place design.models c.models-model-items.result.now number model c.models-model-items.ensures c.loop-number-test.true c.model-item.is in
    let inside = within_models design.models c.models-model-items.result.now number c.models-model-items.ensures c.loop-number-test.true in
    let within : number < length targets = omega (arith, inside, targets_each design targets c.args.targets.now.are) in
    let list : c.as_slice.result.now ≡ get_or targets number [] = c.as_slice.ensures ∙ get_or_default targets number c.index-targets-number.result [] within in
    subst (λ (items : List Item). AreAlong design items c.as_slice.result.now) (sym c.items.ensures)
    (subst (λ (l : List (Option ℕ)). AreAlong design model.items l) (sym list) (along_at design targets number model c.args.targets.now.are at))

-- what the models from one on place
abbrev behind : Design → List Model → List PlacedModel
behind design models = flat_map (λ model. filter_map (placed_by design) model.items) (filter (λ model. is_reached design model.name) models)

module _ (design : Design) (others : List Model) (i : ℕ) (model : Model) (are : others ≡ design.models) (within : i < length others) (at : model ≡ get_or others i model) where
  behind_cut : (reached : Bool) → is_reached design model.name ≡ reached
      → behind design (drop i design.models) ≡ flat_map (λ m. filter_map (placed_by design) m.items) (cond reached (model ∷ filter (λ m. is_reached design m.name) (drop (i + 1) design.models)) (filter (λ m. is_reached design m.name) (drop (i + 1) design.models)))
  behind_cut reached is =
      ap (λ (l : List Model). behind design (drop i l)) (sym are)
      ∙ ap (behind design) (drop_more others i model within ∙ ap (λ (m : Model). m ∷ drop (i + 1) others) (sym at))
      ∙ ap (λ (l : List Model). behind design (model ∷ drop (i + 1) l)) are
      ∙ ap (λ (b : Bool). flat_map (λ (m : Model). filter_map (placed_by design) m.items) (cond b (model ∷ filter (λ (m : Model). is_reached design m.name) (drop (i + 1) design.models)) (filter (λ (m : Model). is_reached design m.name) (drop (i + 1) design.models)))) is

  go_on : is_reached design model.name ≡ true → (old new : List NumberedPlacing) → IsAdding design [] (behind design (drop i design.models)) (behind design design.models) old
      → (items : List Item) → items ≡ model.items → AreAdded design old (filter_map (placed_by design) items) new
      → IsAdding design [] (behind design (drop (i + 1) design.models)) (behind design design.models) new
  go_on is old new adding items same adds =
      more_added design [] (filter_map (placed_by design) model.items) (behind design (drop (i + 1) design.models)) (behind design design.models) old new
      (subst (λ (l : List PlacedModel). IsAdding design [] l (behind design design.models) old) (behind_cut true is) adding)
      (subst (λ (l : List Item). AreAdded design old (filter_map (placed_by design) l) new) same adds)

  pass_over : is_reached design model.name ≡ false → (old : List NumberedPlacing) → IsAdding design [] (behind design (drop i design.models)) (behind design design.models) old
      → IsAdding design [] (behind design (drop (i + 1) design.models)) (behind design design.models) old
  pass_over is old adding = subst (λ (l : List PlacedModel). IsAdding design [] l (behind design design.models) old) (behind_cut false is) adding

pub loop-number-preserved : goal.loop-number-preserved
loop-number-preserved c =
    let design = c.args.targets.now.design.now in
    let others = c.models-model-items.result.now in
    let number = c.loop-number.number in
    let model = c.model-item.result in
    let at = model_at_place design.models others number model c.models-model-items.ensures c.loop-number-test.true c.model-item.is in
    let flag = flag_at design c.args.flags.now number model c.requires.flags at in
    elim c.if-flags-number.branch [
      | then-flags-number+in_ok-add_placed w ↦
          let same : w.add_placed.new.placed.items ≡ c.if-flags-number.placed.items = cc (w.placed-is) in
          subst (λ (l : List NumberedPlacing). IsAdding design [] (behind design (drop (number + 1) design.models)) (behind design design.models) l) same
          (go_on design others number model c.models-model-items.ensures c.loop-number-test.true c.model-item.is (sym flag ∙ w.if-flags-number.true) c.loop-number.placed.items w.add_placed.new.placed.items c.loop-number.invariant
          w.items.result.now w.items.ensures w.in_ok-add_placed.ensures)
      | else-flags-number w ↦
          let same : c.loop-number.placed.items ≡ c.if-flags-number.placed.items = cc (w.placed-is) in
          subst (λ (l : List NumberedPlacing). IsAdding design [] (behind design (drop (number + 1) design.models)) (behind design design.models) l) same
          (pass_over design others number model c.models-model-items.ensures c.loop-number-test.true c.model-item.is (sym flag ∙ w.if-flags-number.false) c.loop-number.placed.items c.loop-number.invariant)
    ]

all_of : (design : Design) → behind design design.models ≡ placed_models design
unfolding reached
all_of design = refl

pub returns : goal.returns
returns c =
    let design = c.args.targets.now.design.now in
    let now = c.loop-number.placed.items in
    let past : length design.models ≤ c.loop-number.number = subst (λ (l : List Model). length l ≤ c.loop-number.number) c.models-model-items.ensures c.loop-number-test.false in
    let left : behind design (drop c.loop-number.number design.models) ≡ [] = ap (behind design) (drop_all c.loop-number.number design.models past) in
    let done = ended design [] (behind design design.models) now (subst (λ (l : List PlacedModel). IsAdding design [] l (behind design design.models) now) left c.loop-number.invariant) in
    subst (λ (l : List PlacedModel). AllZip (IsNumberedPlacing design) l now) (all_of design) (done [] tt)
