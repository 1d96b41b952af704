-- No model below an instance counts more than the root, and each level below has one level less.
use Rattle.std.proofs.Common.{◌≡◌, ◌<◌, ◌≤◌, ◌+◌, ◌^◌, ℕ, zero, suc, true, min, List, [], ◌∷◌, length, nat_lt, Option, Some, None, option_and_then, refl, sym, ◌∙◌, ap, arith}
use Rattle.std.specs.List.{list_all}
use Rattle.std.proofs.lemmas.Bool.{and_parts, ltb-true}
use Rattle.std.proofs.lemmas.Option.{none-some, same_Some}
use Rattle.vw_design.specs.declared.item.Item.{Item}
use Rattle.vw_design.specs.declared.item.Item.TheVariants.{Names, Latch, Sub}
use Rattle.vw_design.specs.declared.model.Model.{Model}
use Rattle.vw_design.specs.declared.design.Design.{Design}
use Rattle.vw_design.specs.Paths.{Word, Path, Placing, placings, placing_at, model_named, model_placed, model_at, items_of}
use Rattle.vw_design.specs.ModelFaults.{is_reached}
use Rattle.vw_design.specs.Counts.{items_height, is_below}
use Rattle.vw_design.proofs.ReachedFromRoot.{reached_at, model_is_named}
use Rattle.vw_design.proofs.ListElements.{Has, Has-at}
use Rattle.vw_design.proofs.ModelNumbers.{name_of_named}
use Rattle.vw_instances.specs.declared.measure.Measure.{Measure}
use Rattle.vw_instances.specs.declared.measure.Measure.TheVariants.{Levels}
use Rattle.vw_instances.specs.Steps.Counting.{most, amount, count_in, AreCounts, IsRanked}
use Rattle.vw_instances.proofs.ItemAmounts.{placed_lower}

module _ (design : Design) where
  -- an instance that isn't the root is placed by one above it
  pub record IsUnder (path : Path) (model : Model) : Type 0 where
    pub above : Model
    pub stands : model_at design path ≡ Some above
    pub placing : Placing
    pub has : Has placing (placings above.items)
    pub name : placing.model ≡ model.name
    pub named : model_named design.models placing.model ≡ Some model

  pub under : (place : ℕ) (path : Path) (model : Model) → model_at design (place ∷ path) ≡ Some model → IsUnder path model
  under place path model stands = by (model_at design path) refl stands where
    with_placing : (above : Model) → model_at design path ≡ Some above → (place : ℕ) (found : Option Placing) → placing_at above.items place ≡ found
        → option_and_then (λ placing. model_named design.models placing.model) found ≡ Some model → IsUnder path model
    with_placing above is place None at there = absurd (none-some model there)
    with_placing above is zero (Some placing) at there = absurd (none-some placing at)
    with_placing above is (suc before) (Some placing) at there = record {
      above = above;
      stands = is;
      placing = placing;
      has = Has-at placing (placings above.items) before at;
      name = sym (name_of_named design placing.model model there);
      named = there;
    }

    by : (found : Option Model) → model_at design path ≡ found → option_and_then (model_placed design place) found ≡ Some model → IsUnder path model
    by None is there = absurd (none-some model there)
    by (Some above) is there = with_placing above is place (placing_at above.items place) refl there

  module _ (measure : Measure) (counts : List ℕ) (are : AreCounts design measure counts) where
    -- the count of an instance's model
    pub counted_at : (path : Path) (model : Model) → model_at design path ≡ Some model → count_in design counts model.name ≡ min most (amount measure (count_in design counts) model.items)
    counted_at path model stands =
        are.counted model.name (reached_at design path model stands)
        ∙ ap (λ (m : Option Model). min most (amount measure (count_in design counts) (items_of m))) (model_is_named design path model stands)

    pub least_of_root : ((below : Word → ℕ) (placing : Placing) (items : List Item) → Has placing (placings items) → below placing.model ≤ amount measure below items)
        → (root : Model) → model_at design [] ≡ Some root → (path : Path) (model : Model) → model_at design path ≡ Some model → count_in design counts model.name ≤ count_in design counts root.name
    least_of_root grows root is [] model stands =
        let same = ap (λ (m : Model). count_in design counts m.name) (same_Some model root (sym stands ∙ is)) in
        omega (arith, same)
    least_of_root grows root is (place ∷ path) model stands =
        let up = under place path model stands in
        let rest = least_of_root grows root is path up.above up.stands in
        let more = grows (count_in design counts) up.placing up.above.items up.has in
        let here = counted_at (place ∷ path) model stands in
        let there = counted_at path up.above up.stands in
        let name = ap (count_in design counts) up.name in
        omega (arith, rest, more, here, there, name)

  -- the levels are below the ranks, so that they have no end
  module _ (counts : List ℕ) (are : AreCounts design Levels counts) (ranked : IsRanked design) where
    low_items : (limit : ℕ) (below : Word → ℕ) (items : List Item) → list_all (is_below (is_reached design) ranked.rank limit) items ≡ true
        → ((name : Word) → is_reached design name ≡ true → ranked.rank name < limit → below name ≤ ranked.rank name) → items_height below items ≤ limit
    low_items limit below [] falls each = omega arith
    low_items limit below (Names line ins out cover ∷ items) falls each = omega (arith, low_items limit below items falls each)
    low_items limit below (Latch line d q edge control init ∷ items) falls each = omega (arith, low_items limit below items falls each)
    low_items limit below (Sub line name binds ∷ items) falls each =
        let parts = and_parts (is_below (is_reached design) ranked.rank limit (Sub line name binds)) (list_all (is_below (is_reached design) ranked.rank limit) items) falls in
        let here = and_parts (is_reached design name) (nat_lt (ranked.rank name) limit) parts.0 in
        let lower = ltb-true (ranked.rank name) limit here.1 in
        omega (arith, low_items limit below items parts.1 each, each name here.0 lower, lower)

    low : (depth : ℕ) (name : Word) → is_reached design name ≡ true → ranked.rank name < depth → count_in design counts name ≤ ranked.rank name
    low zero name reached less = absurd (omega (arith, less))
    low (suc depth) name reached less =
        let items = low_items (ranked.rank name) (count_in design counts) (items_of (model_named design.models name)) (ranked.ranking.falls name reached)
        (λ other known lower. low depth other known (omega (arith, lower, less))) in
        omega (arith, items, are.counted name reached)

    pub exact_levels : (name : Word) → is_reached design name ≡ true → count_in design counts name ≡ items_height (count_in design counts) (items_of (model_named design.models name))
    exact_levels name reached =
        let items = low_items (ranked.rank name) (count_in design counts) (items_of (model_named design.models name)) (ranked.ranking.falls name reached)
        (λ other known lower. low (suc (ranked.rank other)) other known (omega arith)) in
        let few : length design.models < 2 ^ 32 = design.few in
        omega (arith, items, are.counted name reached, ranked.low name reached, few)

    pub levels_of_root : (root : Model) → model_at design [] ≡ Some root → (path : Path) (model : Model) → model_at design path ≡ Some model → length path + count_in design counts model.name ≤ count_in design counts root.name
    levels_of_root root is [] model stands =
        let same = ap (λ (m : Model). count_in design counts m.name) (same_Some model root (sym stands ∙ is)) in
        omega (arith, same)
    levels_of_root root is (place ∷ path) model stands =
        let up = under place path model stands in
        let rest = levels_of_root root is path up.above up.stands in
        let lower = placed_lower (count_in design counts) up.placing up.above.items up.has in
        let there = exact_levels up.above.name (reached_at design path up.above up.stands) in
        let items = ap (λ (m : Option Model). items_height (count_in design counts) (items_of m)) (model_is_named design path up.above up.stands) in
        let name = ap (count_in design counts) up.name in
        omega (arith, rest, lower, there, items, name)
