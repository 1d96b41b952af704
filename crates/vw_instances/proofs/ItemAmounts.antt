-- Amounts of items, item by item.
use Rattle.std.proofs.Common.{◌≡◌, ◌<◌, ◌≤◌, ◌+◌, ℕ, zero, suc, min, max, List, [], ◌∷◌, ◌++◌, length, take, get_or, inl, inr, ⊎_elim, refl, sym, ◌∙◌, ap, ap₂, arith}
use Rattle.std.proofs.lemmas.List.{take_more}
use Rattle.vw_design.specs.declared.item.Item.{Item}
use Rattle.vw_design.specs.declared.item.Item.TheVariants.{Names, Latch, Sub}
use Rattle.vw_design.specs.Paths.{Word, Placing, placings}
use Rattle.vw_design.specs.Counts.{items_weight, items_height, placed_weight}
use Rattle.vw_design.proofs.ListElements.{Has}
use Rattle.vw_instances.specs.declared.measure.Measure.{Measure}
use Rattle.vw_instances.specs.declared.measure.Measure.TheVariants.{Instances, Bindings, Cells, Levels}
use Rattle.vw_instances.specs.Steps.Counting.{most, merged, single, amount}

-- of items that are joined
pub weight_append : (weight : Item → ℕ) (below : Word → ℕ) (items more : List Item) → items_weight weight below (items ++ more) ≡ items_weight weight below items + items_weight weight below more
weight_append weight below [] more = omega arith
weight_append weight below (item ∷ items) more = omega (arith, weight_append weight below items more)

height_append : (below : Word → ℕ) (items more : List Item) → items_height below (items ++ more) ≡ max (items_height below items) (items_height below more)
height_append below [] more = omega arith
height_append below (item ∷ items) more = omega (arith, height_append below items more)

amount_append : (measure : Measure) (below : Word → ℕ) (items more : List Item) → amount measure below (items ++ more) ≡ merged measure (amount measure below items) (amount measure below more)
amount_append Instances below items more = weight_append _ below items more
amount_append Bindings below items more = weight_append _ below items more
amount_append Cells below items more = weight_append _ below items more
amount_append Levels below items more = height_append below items more

amount_one : (measure : Measure) (below : Word → ℕ) (item : Item) → amount measure below (item ∷ []) ≡ single measure item (placed_weight below item)
amount_one Instances below (Names line ins out cover) = refl
amount_one Instances below (Latch line d q edge control init) = refl
amount_one Instances below (Sub line model binds) = omega arith
amount_one Bindings below (Names line ins out cover) = refl
amount_one Bindings below (Latch line d q edge control init) = refl
amount_one Bindings below (Sub line model binds) = omega arith
amount_one Cells below (Names line ins out cover) = refl
amount_one Cells below (Latch line d q edge control init) = refl
amount_one Cells below (Sub line model binds) = omega arith
amount_one Levels below (Names line ins out cover) = refl
amount_one Levels below (Latch line d q edge control init) = refl
amount_one Levels below (Sub line model binds) = omega arith

-- the end may be kept to at each part
merged_capped : (measure : Measure) (one other : ℕ) → min most (merged measure (min most one) (min most other)) ≡ min most (merged measure one other)
merged_capped Instances one other = omega arith
merged_capped Bindings one other = omega arith
merged_capped Cells one other = omega arith
merged_capped Levels one other = omega arith

pub amount_more : (measure : Measure) (below : Word → ℕ) (items : List Item) (i : ℕ) (item : Item) → i < length items → item ≡ get_or items i item
    → (total under part new : ℕ) → total ≡ min most (amount measure below (take i items)) → under ≡ placed_weight below item → part ≡ min most (single measure item under) → new ≡ min most (merged measure total part)
    → new ≡ min most (amount measure below (take (i + 1) items))
amount_more measure below items i item within at total under part new is_total is_under is_part is_new =
    let longer : take (i + 1) items ≡ take i items ++ item ∷ [] = take_more items i item within ∙ ap (λ (x : Item). take i items ++ x ∷ []) (sym at) in
    let one : part ≡ min most (amount measure below (item ∷ [])) = is_part ∙ ap (λ (n : ℕ). min most (single measure item n)) is_under ∙ ap (min most) (sym (amount_one measure below item)) in
    is_new
    ∙ ap₂ (λ (a b : ℕ). min most (merged measure a b)) is_total one
    ∙ merged_capped measure (amount measure below (take i items)) (amount measure below (item ∷ []))
    ∙ ap (min most) (sym (amount_append measure below (take i items) (item ∷ [])))
    ∙ ap (λ (l : List Item). min most (amount measure below l)) (sym longer)

-- where the models that are placed have the same counts
module _ (one other : Word → ℕ) where
  pub weight_same : (weight : Item → ℕ) (items : List Item) → ((placing : Placing) → Has placing (placings items) → one placing.model ≡ other placing.model) → items_weight weight one items ≡ items_weight weight other items
  weight_same weight [] same = refl
  weight_same weight (Names line ins out cover ∷ items) same = omega (arith, weight_same weight items same)
  weight_same weight (Latch line d q edge control init ∷ items) same = omega (arith, weight_same weight items same)
  weight_same weight (Sub line name binds ∷ items) same = omega (arith, weight_same weight items (λ placing has. same placing (inr has)), same (record { model = name; binds = binds }) (inl refl))

  height_same : (items : List Item) → ((placing : Placing) → Has placing (placings items) → one placing.model ≡ other placing.model) → items_height one items ≡ items_height other items
  height_same [] same = refl
  height_same (Names line ins out cover ∷ items) same = ap (max 0) (height_same items same)
  height_same (Latch line d q edge control init ∷ items) same = ap (max 0) (height_same items same)
  height_same (Sub line name binds ∷ items) same = ap₂ (λ (a b : ℕ). max (suc a) b) (same (record { model = name; binds = binds }) (inl refl)) (height_same items (λ placing has. same placing (inr has)))

  pub amount_same : (measure : Measure) (items : List Item) → ((placing : Placing) → Has placing (placings items) → one placing.model ≡ other placing.model) → amount measure one items ≡ amount measure other items
  amount_same Instances items same = weight_same _ items same
  amount_same Bindings items same = weight_same _ items same
  amount_same Cells items same = weight_same _ items same
  amount_same Levels items same = height_same items same

-- what is placed weighs no more than the items, and is lower
pub placed_weighs : (weight : Item → ℕ) (below : Word → ℕ) (placing : Placing) (items : List Item) → Has placing (placings items) → below placing.model ≤ items_weight weight below items
placed_weighs weight below placing [] has = absurd has
placed_weighs weight below placing (Names line ins out cover ∷ items) has = omega (arith, placed_weighs weight below placing items has)
placed_weighs weight below placing (Latch line d q edge control init ∷ items) has = omega (arith, placed_weighs weight below placing items has)
placed_weighs weight below placing (Sub line name binds ∷ items) has =
    ⊎_elim (λ here. omega (arith, ap (λ (p : Placing). below p.model) here)) (λ there. omega (arith, placed_weighs weight below placing items there)) has

pub placed_lower : (below : Word → ℕ) (placing : Placing) (items : List Item) → Has placing (placings items) → suc (below placing.model) ≤ items_height below items
placed_lower below placing [] has = absurd has
placed_lower below placing (Names line ins out cover ∷ items) has = omega (arith, placed_lower below placing items has)
placed_lower below placing (Latch line d q edge control init ∷ items) has = omega (arith, placed_lower below placing items has)
placed_lower below placing (Sub line name binds ∷ items) has =
    ⊎_elim (λ here. omega (arith, ap (λ (p : Placing). below p.model) here)) (λ there. omega (arith, placed_lower below placing items there)) has

-- the first items weigh no more than all
pub front_weighs : (weight : Item → ℕ) (below : Word → ℕ) (items : List Item) (k : ℕ) → items_weight weight below (take k items) ≤ items_weight weight below items
front_weighs weight below [] zero = omega arith
front_weighs weight below [] (suc k) = omega arith
front_weighs weight below (item ∷ items) zero = omega arith
front_weighs weight below (item ∷ items) (suc k) = omega (arith, front_weighs weight below items k)

-- and place nothing else
pub front_places : (placing : Placing) (items : List Item) (k : ℕ) → Has placing (placings (take k items)) → Has placing (placings items)
front_places placing [] zero has = has
front_places placing [] (suc k) has = has
front_places placing (item ∷ items) zero has = absurd has
front_places placing (Names line ins out cover ∷ items) (suc k) has = front_places placing items k has
front_places placing (Latch line d q edge control init ∷ items) (suc k) has = front_places placing items k has
front_places placing (Sub line name binds ∷ items) (suc k) has = ⊎_elim (λ here. inl here) (λ there. inr (front_places placing items k there)) has
