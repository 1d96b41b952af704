-- The greatest depth of an instance is what the models say of it.
use Rattle.std.proofs.Common.{◌≡◌, ◌+◌, ℕ, zero, suc, max, List, [], ◌∷◌, ◌++◌, length, map, Option, Some, flat_map, inl, inr, refl, sym, ◌∙◌, ap, arith}
use Rattle.std.proofs.lemmas.List.{map-append}
use Rattle.std.proofs.lemmas.List.Concat.{flat_map-append}
use Rattle.vw_design.specs.declared.item.Bind.{Bind}
use Rattle.vw_design.specs.declared.item.Item.{Item}
use Rattle.vw_design.specs.declared.item.Item.TheVariants.{Names, Latch, Sub}
use Rattle.vw_design.specs.declared.model.Model.{Model}
use Rattle.vw_design.specs.declared.design.Design.{Design}
use Rattle.vw_net.specs.Lists.{greatest}
use Rattle.vw_design.specs.Paths.{Word, Path, model_at, items_of}
use Rattle.vw_design.specs.Claims.{Numbered, numbered}
use Rattle.vw_design.specs.Preorder.{Site, with_inside, sites_below, sites, instances_at, paths_of}
use Rattle.vw_design.specs.Limits.{depth_at, greatest_depth}
use Rattle.vw_design.specs.Counts.{items_height, model_height}
use Rattle.vw_design.proofs.ListElements.{Has}
use Rattle.vw_design.proofs.Weights.{model_behind, root_named}

greatest_append : (one other : List ℕ) → greatest (one ++ other) ≡ max (greatest one) (greatest other)
greatest_append [] other = omega arith
greatest_append (number ∷ one) other = omega (arith, greatest_append one other)

-- the greatest depth of what some sites place
abbrev deepest : List Site → ℕ
deepest list = greatest (map depth_at (paths_of list))

deepest_append : (one other : List Site) → deepest (one ++ other) ≡ max (deepest one) (deepest other)
deepest_append one other =
    ap (λ (paths : List Path). greatest (map depth_at paths)) (flat_map-append (λ (s : Site). instances_at s.path s.before s.item) one other)
    ∙ ap greatest (map-append depth_at (paths_of one) (paths_of other))
    ∙ greatest_append (map depth_at (paths_of one)) (map depth_at (paths_of other))

module _ (design : Design) where
  items_reach : (depth : ℕ) (path : Path) (number before : ℕ) (items : List Item)
      → ((entry : Numbered) → Has entry (numbered number before items) → (line : ℕ) (name : Word) (binds : List Bind) → entry.item ≡ Sub line name binds
      → max (length path + 2) (deepest (sites_below design depth (suc entry.before ∷ path))) ≡ length path + 2 + model_height design depth name)
      → max (length path + 1) (deepest (flat_map (with_inside (sites_below design depth) path) (numbered number before items))) ≡ length path + 1 + items_height (model_height design depth) items
  items_reach depth path number before [] each = omega arith
  items_reach depth path number before (Names line ins out cover ∷ items) each =
      omega (arith, items_reach depth path (suc number) before items (λ e has. each e (inr has)))
  items_reach depth path number before (Latch line d q edge control init ∷ items) each =
      omega (arith, items_reach depth path (suc number) before items (λ e has. each e (inr has)))
  items_reach depth path number before (Sub line name binds ∷ items) each =
      let below = sites_below design depth (suc before ∷ path) in
      let rest = flat_map (with_inside (sites_below design depth) path) (numbered (suc number) (suc before) items) in
      let here = each (record { number = number; before = before; item = Sub line name binds }) (inl refl) line name binds refl in
      let further = items_reach depth path (suc number) (suc before) items (λ e has. each e (inr has)) in
      omega (arith, here, further, deepest_append below rest)

  sites_reach : (depth : ℕ) (path : Path)
      → max (length path + 1) (deepest (sites_below design (suc depth) path)) ≡ length path + 1 + items_height (model_height design depth) (items_of (model_at design path))
  sites_reach zero path = items_reach zero path 0 0 (items_of (model_at design path)) (λ e has line name binds is. omega arith)
  sites_reach (suc depth) path =
      items_reach (suc depth) path 0 0 (items_of (model_at design path)) (λ e has line name binds is.
      let below = sites_reach depth (suc e.before ∷ path) in
      let same = ap (λ (m : Option Model). items_height (model_height design depth) (items_of m)) (model_behind design path e has line name binds is) in
      omega (arith, below, same))

  pub design_reaches : (root : Model) → model_at design [] ≡ Some root → greatest_depth design ≡ 1 + model_height design (65 + length design.models) root.name
  unfolding sites
  design_reaches root is =
      let levels : 65 + length design.models ≡ suc (64 + length design.models) = omega arith in
      let reached = sites_reach (64 + length design.models) [] in
      let same = ap (λ (m : Option Model). items_height (model_height design (64 + length design.models)) (items_of m)) (is ∙ sym (root_named design root is)) in
      let left = ap (λ (d : ℕ). greatest_deep d) levels in
      let right = ap (λ (d : ℕ). model_height design d root.name) levels in
      omega (arith, reached, same, left, right)
    where
      greatest_deep : ℕ → ℕ
      greatest_deep depth = deepest (sites_below design depth [])
