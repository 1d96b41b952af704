-- The places of an instance are few, since whatever an instance places is an instance, too.
use Rattle.std.proofs.Common.{◌≡◌, ◌<◌, ◌≤◌, ◌+◌, ◌-◌, ℕ, zero, suc, List, [], ◌∷◌, length, Option, Some, None, slice_get, refl, sym, ◌∙◌, ap, ap₂, ⊎_elim, arith}
use Rattle.std.proofs.lemmas.Bool.{cases_lt}
use Rattle.std.specs.Prelude.{option_and_then}
use Rattle.std.proofs.lemmas.Option.{none-some, slice_get_within}
use Rattle.vw_design.specs.declared.item.Item.{Item}
use Rattle.vw_design.specs.declared.item.Item.TheVariants.{Names, Latch, Sub}
use Rattle.vw_design.specs.declared.model.Model.{Model}
use Rattle.vw_design.specs.declared.design.Design.{Design}
use Rattle.vw_design.specs.Paths.{Word, Path, Placing, placings, model_named, model_placed, model_at, items_of}
use Rattle.vw_design.specs.Preorder.{sites, paths_of}
use Rattle.vw_design.specs.Limits.{instance_count}
use Rattle.vw_design.specs.Counts.{placed_one, items_weight, model_weight}
use Rattle.vw_design.specs.Accepted.{HasNoModelFault}
use Rattle.vw_design.proofs.ModelNumbers.{root_model}
use Rattle.vw_design.proofs.ShallowDesigns.{faultless_shallow}
use Rattle.vw_design.proofs.Weights.{design_weighs, instances_weigh, root_named}

-- items place as many instances as they have `.subckt` items, at least
placings_weigh : (below : Word → ℕ) (items : List Item) → length (placings items) ≤ items_weight placed_one below items
placings_weigh below [] = omega arith
placings_weigh below (Names line ins out cover ∷ items) = omega (arith, placings_weigh below items)
placings_weigh below (Latch line d q edge control init ∷ items) = omega (arith, placings_weigh below items)
placings_weigh below (Sub line model binds ∷ items) = omega (arith, placings_weigh below items)

-- and more than the model of each has
placing_weighs : (below : Word → ℕ) (items : List Item) (place : ℕ) (placing : Placing) → slice_get (placings items) place ≡ Some placing
    → below placing.model < items_weight placed_one below items
placing_weighs below [] place placing at = absurd (none-some placing at)
placing_weighs below (Names line ins out cover ∷ items) place placing at = omega (arith, placing_weighs below items place placing at)
placing_weighs below (Latch line d q edge control init ∷ items) place placing at = omega (arith, placing_weighs below items place placing at)
placing_weighs below (Sub line model binds ∷ items) zero placing at =
    let same : below model ≡ below placing.model = cc in
    omega (arith, same)
placing_weighs below (Sub line model binds ∷ items) (suc place) placing at = omega (arith, placing_weighs below items place placing at)

module _ (design : Design) where
  -- what the items of an instance place, at most so many levels deep
  abbrev placed_below : ℕ → Option Model → ℕ
  placed_below depth model = items_weight placed_one (model_weight design placed_one depth) (items_of model)

  -- a place of a model
  record IsPlaced (place : ℕ) (model child : Model) : Type 0 where
    before : ℕ
    placing : Placing
    next : place ≡ suc before
    at : slice_get (placings model.items) before ≡ Some placing
    named : model_named design.models placing.model ≡ Some child

  placed_at : (place : ℕ) (model child : Model) → model_placed design place model ≡ Some child → IsPlaced place model child
  placed_at zero model child is = absurd (none-some child is)
  placed_at (suc before) model child is = by (slice_get (placings model.items) before) refl is where
    by : (found : Option Placing) → slice_get (placings model.items) before ≡ found
        → option_and_then (λ (p : Placing). model_named design.models p.model) found ≡ Some child → IsPlaced (suc before) model child
    by None at is = absurd (none-some child is)
    by (Some placing) at is = record { before = before; placing = placing; next = refl; at = at; named = is }

  -- the instance above one, and its place there
  record HasParent (place : ℕ) (path : Path) (child : Model) : Type 0 where
    model : Model
    stands : model_at design path ≡ Some model
    placed : IsPlaced place model child

  parent : (place : ℕ) (path : Path) (child : Model) → model_at design (place ∷ path) ≡ Some child → HasParent place path child
  parent place path child is = by (model_at design path) refl is where
    by : (found : Option Model) → model_at design path ≡ found → option_and_then (model_placed design place) found ≡ Some child → HasParent place path child
    by None at is = absurd (none-some child is)
    by (Some model) at is = record { model = model; stands = at; placed = placed_at place model child is }

  -- an instance places fewer than the one that places it
  above : (depth : ℕ) (path : Path) (model : Model) → model_at design path ≡ Some model
      → placed_below depth (Some model) + length path ≤ placed_below (depth + length path) (model_at design [])
  above depth [] model stands =
      let same : depth + 0 ≡ depth = omega arith in
      let here : placed_below depth (Some model) ≡ placed_below (depth + 0) (model_at design []) = ap₂ placed_below (sym same) (sym stands) in
      omega (arith, here)
  above depth (place ∷ path) child stands =
      let from = parent place path child stands in
      let further = above (suc depth) path from.model from.stands in
      let fewer = placing_weighs (model_weight design placed_one (suc depth)) from.model.items from.placed.before from.placed.placing from.placed.at in
      let weighs : model_weight design placed_one (suc depth) from.placed.placing.model ≡ placed_below depth (Some child) = ap (placed_below depth) from.placed.named in
      let levels : suc depth + length path ≡ depth + suc (length path) = omega arith in
      let same : placed_below (suc depth + length path) (model_at design []) ≡ placed_below (depth + suc (length path)) (model_at design []) = ap (λ (d : ℕ). placed_below d (model_at design [])) levels in
      omega (arith, further, fewer, weighs, same)

  -- a place is no greater than the number of instances below the root
  pub place_few : HasNoModelFault design → (place : ℕ) (path : Path) (child : Model) → model_at design (place ∷ path) ≡ Some child
      → place < instance_count design
  place_few faultless place path child stands =
      let from = parent place path child stands in
      let deep = faultless_shallow design faultless in
      let short : length path < 64 = ⊎_elim (λ short. short) (λ far. absurd (none-some from.model (sym (deep.shallow path far) ∙ from.stands))) (cases_lt (length path) 64) in
      let depth = 64 + length design.models - length path in
      let root = root_model design in
      let levels : depth + length path ≡ 64 + length design.models = omega arith in
      let whole = above depth path from.model from.stands in
      let at_place = slice_get_within (placings from.model.items) from.placed.before from.placed.placing from.placed.at in
      let some = placings_weigh (model_weight design placed_one depth) from.model.items in
      let top : placed_below (depth + length path) (model_at design []) ≡ placed_below (64 + length design.models) (model_at design []) = ap (λ (d : ℕ). placed_below d (model_at design [])) levels in
      let named : placed_below (64 + length design.models) (model_at design []) ≡ model_weight design placed_one (suc (64 + length design.models)) root.0.name =
      ap (placed_below (64 + length design.models)) (root.1 ∙ sym (root_named design root.0 root.1)) in
      let all : length (paths_of (sites design)) ≡ model_weight design placed_one (65 + length design.models) root.0.name = instances_weigh (sites design) ∙ design_weighs design placed_one root.0 root.1 in
      let deeper : suc (64 + length design.models) ≡ 65 + length design.models = omega arith in
      let same : model_weight design placed_one (suc (64 + length design.models)) root.0.name ≡ model_weight design placed_one (65 + length design.models) root.0.name =
      ap (λ (d : ℕ). model_weight design placed_one d root.0.name) deeper in
      omega (arith, from.placed.next, at_place, some, whole, top, named, all, same)
