use Rattle.std.proofs.Common.{◌≡◌, ◌<◌, ◌≤◌, ◌+◌, ℕ, Bool, drop, filter, true, false, List, [], Option, length, get_or, is_some, sym, ◌∙◌, ap, subst, arith}
use Rattle.std.proofs.lemmas.List.{get_or_default}
use Rattle.vw_design.specs.declared.item.Item.{Item}
use Rattle.vw_design.specs.declared.model.Model.{Model}
use Rattle.vw_design.specs.declared.design.Design.{Design}
use Rattle.vw_net.specs.FirstFound.{first_found}
use Rattle.vw_design.specs.ModelFaults.{is_reached}
use Rattle.vw_design.specs.ModelNumbers.{AreModelsReached}
use Rattle.vw_models.specs.Steps.Unknown.{unknown_of}
use Rattle.vw_models.proofs.Unknowns.{AreAlong}
use Rattle.vw_models.proofs.FirstUnknown.{passed_over, nothing_here, found_here, unknown_is, nothing_left}
use Rattle.vw_models.proofs.NumberedModels.{flags_each, targets_each, model_at_place, flag_at, along_at, within_models}
use Rattle.vw_models.proofs.unknown.unknown_model.Goals as goal
use Rattle.vw_models.proofs.unknown.unknown_model.Goals.{then-flags-number+else-is_some, else-flags-number}

pub bounds-flags-number : goal.bounds-flags-number
bounds-flags-number c =
    let inside = within_models c.args.targets.now.design.now.models c.models-model-items.result.now c.loop-number.number c.models-model-items.ensures c.loop-number-test.true in
    omega (arith, inside, flags_each c.args.targets.now.design.now c.args.flags.now c.requires.flags)

pub bounds-targets-number : goal.bounds-targets-number
bounds-targets-number c =
    let inside = within_models c.args.targets.now.design.now.models c.models-model-items.result.now c.loop-number.number c.models-model-items.ensures c.loop-number-test.true in
    omega (arith, inside, targets_each c.args.targets.now.design.now c.args.targets.now.numbers.now c.args.targets.now.are)

pub unknown_item-line-requires : goal.unknown_item-line-requires
unknown_item-line-requires c =
    let design = c.args.targets.now.design.now in
    let targets = c.args.targets.now.numbers.now in
    let number = c.loop-number.number in
    let model = c.model-item.result in
    let at = model_at_place design.models c.models-model-items.result.now number model c.models-model-items.ensures c.loop-number-test.true c.model-item.is in
    let inside = within_models design.models c.models-model-items.result.now number c.models-model-items.ensures c.loop-number-test.true in
    let within : number < length targets = omega (arith, inside, targets_each design targets c.args.targets.now.are) in
    let list : c.as_slice.result.now ≡ get_or targets number [] = c.as_slice.ensures ∙ get_or_default targets number c.index-targets-number.result [] within in
    subst (λ (items : List Item). AreAlong design items c.as_slice.result.now) (sym c.items.ensures)
    (subst (λ (l : List (Option ℕ)). AreAlong design model.items l) (sym list) (along_at design targets number model c.args.targets.now.are at))

-- the facts of a turn
module _ (design : Design) (flags : List Bool) (others : List Model) (i : ℕ) (model : Model) (are_flags : AreModelsReached design flags) (are : others ≡ design.models) (within : i < length others) (at : model ≡ get_or others i model) where
  listed : model ≡ get_or design.models i model
  listed = subst (λ (l : List Model). model ≡ get_or l i model) are at

  inside : i < length design.models
  inside = within_models design.models others i are within

  reached_is : (flag : Bool) → get_or flags i false ≡ flag → is_reached design model.name ≡ flag
  reached_is flag is = sym (flag_at design flags i model are_flags (model_at_place design.models others i model are within at)) ∙ is

  pub found_now : (items : List Item) (line : Option ℕ) → items ≡ model.items → line ≡ first_found (unknown_of design) items → get_or flags i false ≡ true → is_some line ≡ true
      → first_found (λ m. first_found (unknown_of design) m.items) (filter (λ m. is_reached design m.name) (drop i design.models)) ≡ line
  found_now items line are_items is flag some =
      let line_is : line ≡ first_found (unknown_of design) model.items = is ∙ ap (first_found (unknown_of design)) are_items in
      found_here (λ m. is_reached design m.name) (λ m. first_found (unknown_of design) m.items) design.models i model inside listed (reached_is true flag) (ap (λ (o : Option ℕ). is_some o) (sym line_is) ∙ some)
      ∙ sym line_is

  pub nothing_now : (items : List Item) (line : Option ℕ) → items ≡ model.items → line ≡ first_found (unknown_of design) items → get_or flags i false ≡ true → is_some line ≡ false
      → first_found (λ m. first_found (unknown_of design) m.items) (filter (λ m. is_reached design m.name) (drop i design.models))
      ≡ first_found (λ m. first_found (unknown_of design) m.items) (filter (λ m. is_reached design m.name) (drop (i + 1) design.models))
  nothing_now items line are_items is flag none =
      let line_is : line ≡ first_found (unknown_of design) model.items = is ∙ ap (first_found (unknown_of design)) are_items in
      nothing_here (λ m. is_reached design m.name) (λ m. first_found (unknown_of design) m.items) design.models i model inside listed (reached_is true flag) (ap (λ (o : Option ℕ). is_some o) (sym line_is) ∙ none)

  pub not_reached : get_or flags i false ≡ false
      → first_found (λ m. first_found (unknown_of design) m.items) (filter (λ m. is_reached design m.name) (drop i design.models))
      ≡ first_found (λ m. first_found (unknown_of design) m.items) (filter (λ m. is_reached design m.name) (drop (i + 1) design.models))
  not_reached flag = passed_over (λ m. is_reached design m.name) (λ m. first_found (unknown_of design) m.items) design.models i model inside listed (reached_is false flag)

pub returns-then-is_some : goal.returns-then-is_some
returns-then-is_some c =
    let design = c.args.targets.now.design.now in
    sym (found_now design c.args.flags.now c.models-model-items.result.now c.loop-number.number c.model-item.result c.requires.flags c.models-model-items.ensures c.loop-number-test.true c.model-item.is
    c.items.result.now c.unknown_item-line.result c.items.ensures c.unknown_item-line.ensures c.if-flags-number.true (sym c.is_some.ensures ∙ c.if-is_some.true))
    ∙ c.loop-number.invariant ∙ unknown_is design

pub loop-number-preserved : goal.loop-number-preserved
loop-number-preserved c =
    let design = c.args.targets.now.design.now in
    elim c.if-flags-number.branch [
      | then-flags-number+else-is_some w ↦
          sym (nothing_now design c.args.flags.now c.models-model-items.result.now c.loop-number.number c.model-item.result c.requires.flags c.models-model-items.ensures c.loop-number-test.true c.model-item.is
          w.items.result.now w.unknown_item-line.result w.items.ensures w.unknown_item-line.ensures w.if-flags-number.true (sym w.is_some.ensures ∙ w.if-is_some.false))
          ∙ c.loop-number.invariant
      | else-flags-number w ↦
          sym (not_reached design c.args.flags.now c.models-model-items.result.now c.loop-number.number c.model-item.result c.requires.flags c.models-model-items.ensures c.loop-number-test.true c.model-item.is w.if-flags-number.false)
          ∙ c.loop-number.invariant
    ]

pub returns : goal.returns
returns c =
    let all : length c.args.targets.now.design.now.models ≤ c.loop-number.number = subst (λ (l : List Model). length l ≤ c.loop-number.number) c.models-model-items.ensures c.loop-number-test.false in
    sym (nothing_left c.args.targets.now.design.now c.loop-number.number all) ∙ c.loop-number.invariant ∙ unknown_is c.args.targets.now.design.now
