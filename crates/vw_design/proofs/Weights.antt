-- What the sites of a design weigh is what its models weigh.
use Rattle.std.proofs.Common.{◌≡◌, ◌<◌, ◌+◌, ◌&&◌, ℕ, zero, suc, min, max, Bool, true, cond, List, [], ◌∷◌, ◌++◌, length, Option, Some, None, slice_get, option_and_then, filter, find, flat_map, inl, inr, refl, sym, ◌∙◌, ap, ap₂, nat_lt, arith}
use Rattle.std.specs.List.{list_all}
use Rattle.std.specs.Str.{bytes_eq}
use Rattle.std.proofs.lemmas.Bool.{and_parts, ltb-true}
use Rattle.vw_design.specs.declared.item.Bind.{Bind}
use Rattle.vw_design.specs.declared.item.Item.{Item}
use Rattle.vw_design.specs.declared.item.Item.TheVariants.{Names, Latch, Sub}
use Rattle.vw_design.specs.declared.model.Model.{Model}
use Rattle.vw_design.specs.declared.design.Design.{Design}
use Rattle.vw_design.specs.Paths.{Word, Path, Placing, model_named, model_placed, model_at, items_of}
use Rattle.vw_design.specs.Claims.{Numbered, numbered}
use Rattle.vw_design.specs.Preorder.{Site, with_inside, sites_below, sites, instances_at, paths_of, is_cell}
use Rattle.vw_design.specs.Limits.{weight_of}
use Rattle.vw_design.specs.Counts.{placed_one, cell_one, items_weight, model_weight, items_height, model_height, is_below, IsRanking}
use Rattle.vw_design.proofs.ListElements.{Has}
use Rattle.vw_design.proofs.Names.{name_same}
use Rattle.vw_design.proofs.Entries.{entry_of}

weight_append : (weight : Item → ℕ) (one other : List Site) → weight_of weight (one ++ other) ≡ weight_of weight one + weight_of weight other
weight_append weight [] other = omega arith
weight_append weight (site ∷ one) other = omega (arith, weight_append weight one other)

-- what stands at a place of an instance is the model that the item names
module _ (design : Design) where
  pub model_behind : (path : Path) (entry : Numbered) → Has entry (numbered 0 0 (items_of (model_at design path)))
      → (line : ℕ) (name : Word) (binds : List Bind) → entry.item ≡ Sub line name binds
      → model_at design (suc entry.before ∷ path) ≡ model_named design.models name
  model_behind path entry has line name binds is = by (model_at design path) refl has where
    by : (found : Option Model) → model_at design path ≡ found → Has entry (numbered 0 0 (items_of found))
        → model_at design (suc entry.before ∷ path) ≡ model_named design.models name
    by None at none = absurd none
    by (Some model) at listed =
        ap (option_and_then (model_placed design (suc entry.before))) at
        ∙ ap (option_and_then (λ (p : Placing). model_named design.models p.model)) ((entry_of model.items entry listed).placing line name binds is)

  module _ (weight : Item → ℕ) where
    -- items, where what each of them places has its model's weight
    pub items_weigh : (depth : ℕ) (path : Path) (number before : ℕ) (items : List Item)
        → ((entry : Numbered) → Has entry (numbered number before items) → (line : ℕ) (name : Word) (binds : List Bind) → entry.item ≡ Sub line name binds
        → weight_of weight (sites_below design depth (suc entry.before ∷ path)) ≡ model_weight design weight depth name)
        → weight_of weight (flat_map (with_inside (sites_below design depth) path) (numbered number before items)) ≡ items_weight weight (model_weight design weight depth) items
    items_weigh depth path number before [] each = refl
    items_weigh depth path number before (Names line ins out cover ∷ items) each =
        omega (arith, items_weigh depth path (suc number) before items (λ e has. each e (inr has)))
    items_weigh depth path number before (Latch line d q edge control init ∷ items) each =
        omega (arith, items_weigh depth path (suc number) before items (λ e has. each e (inr has)))
    items_weigh depth path number before (Sub line name binds ∷ items) each =
        let rest = flat_map (with_inside (sites_below design depth) path) (numbered (suc number) (suc before) items) in
        omega (
          arith,
          items_weigh depth path (suc number) (suc before) items (λ e has. each e (inr has)),
          each (record { number = number; before = before; item = Sub line name binds }) (inl refl) line name binds refl,
          weight_append weight (sites_below design depth (suc before ∷ path)) rest,
        )

    sites_weigh : (depth : ℕ) (path : Path)
        → weight_of weight (sites_below design (suc depth) path) ≡ items_weight weight (model_weight design weight depth) (items_of (model_at design path))
    sites_weigh zero path = items_weigh zero path 0 0 (items_of (model_at design path)) (λ e has line name binds is. refl)
    sites_weigh (suc depth) path =
        items_weigh (suc depth) path 0 0 (items_of (model_at design path)) (λ e has line name binds is.
        sites_weigh depth (suc e.before ∷ path) ∙ ap (λ (m : Option Model). items_weight weight (model_weight design weight depth) (items_of m)) (model_behind path e has line name binds is))

    -- what an item places weighs what its model does
    pub placed_weighs : (depth : ℕ) (path : Path) (entry : Numbered) → Has entry (numbered 0 0 (items_of (model_at design path)))
        → (line : ℕ) (name : Word) (binds : List Bind) → entry.item ≡ Sub line name binds
        → weight_of weight (sites_below design depth (suc entry.before ∷ path)) ≡ model_weight design weight depth name
    placed_weighs zero path entry has line name binds is = refl
    placed_weighs (suc depth) path entry has line name binds is =
        sites_weigh depth (suc entry.before ∷ path)
        ∙ ap (λ (m : Option Model). items_weight weight (model_weight design weight depth) (items_of m)) (model_behind path entry has line name binds is)

  -- the root is the model of its name
  pub root_named : (root : Model) → model_at design [] ≡ Some root → model_named design.models root.name ≡ Some root
  root_named root is = by design.models is where
    by : (models : List Model) → slice_get models 0 ≡ Some root → model_named models root.name ≡ Some root
    by [] is = cc
    by (first ∷ models) is =
        let same : first ≡ root = cc in
        ap (λ (b : Bool). cond b (Some first) (find (λ (m : Model). bytes_eq m.name root.name) models)) (ap (λ (m : Model). bytes_eq m.name root.name) same ∙ name_same root.name)
        ∙ ap (λ (m : Model). Some m) same

  -- what all sites weigh
  pub design_weighs : (weight : Item → ℕ) (root : Model) → model_at design [] ≡ Some root
      → weight_of weight (sites design) ≡ model_weight design weight (65 + length design.models) root.name
  unfolding sites
  design_weighs weight root is =
      let levels : 65 + length design.models ≡ suc (64 + length design.models) = omega arith in
      let named = root_named root is in
      ap (λ (d : ℕ). weight_of weight (sites_below design d [])) levels
      ∙ sites_weigh weight (64 + length design.models) []
      ∙ ap (λ (m : Option Model). items_weight weight (model_weight design weight (64 + length design.models)) (items_of m)) (is ∙ sym named)
      ∙ ap (λ (d : ℕ). model_weight design weight d root.name) (sym levels)

-- instances and cells are weights
pub instances_weigh : (list : List Site) → length (paths_of list) ≡ weight_of placed_one list
instances_weigh [] = refl
instances_weigh (site ∷ list) = by site.item (instances_weigh list) where
  by : (item : Item) → length (paths_of list) ≡ weight_of placed_one list
      → length (instances_at site.path site.before item ++ paths_of list) ≡ placed_one item + weight_of placed_one list
  by (Names line ins out cover) rest = omega (arith, rest)
  by (Latch line d q edge control init) rest = omega (arith, rest)
  by (Sub line name binds) rest = omega (arith, rest)

pub cells_weigh : (list : List Site) → length (filter (λ (s : Site). is_cell s.item) list) ≡ weight_of cell_one list
cells_weigh [] = refl
cells_weigh (site ∷ list) = by site.item (cells_weigh list) where
  by : (item : Item) → length (filter (λ (s : Site). is_cell s.item) list) ≡ weight_of cell_one list
      → length (cond (is_cell item) (site ∷ filter (λ (s : Site). is_cell s.item) list) (filter (λ (s : Site). is_cell s.item) list)) ≡ cell_one item + weight_of cell_one list
  by (Names line ins out cover) rest = omega (arith, rest)
  by (Latch line d q edge control init) rest = omega (arith, rest)
  by (Sub line name binds) rest = omega (arith, rest)

-- with ranks
module _ (design : Design) (among : Word → Bool) (rank : Word → ℕ) (ranking : IsRanking design among rank) where
  module _ (weight : Item → ℕ) (cap : ℕ) (count : Word → ℕ) where
    -- capped counts of items, where those of what they place are the capped weights
    items_capped : (limit : ℕ) (below : Word → ℕ) (items : List Item) → list_all (is_below among rank limit) items ≡ true
        → ((name : Word) → among name ≡ true → rank name < limit → count name ≡ min cap (below name))
        → min cap (items_weight weight count items) ≡ min cap (items_weight weight below items)
    items_capped limit below [] falls each = refl
    items_capped limit below (Names line ins out cover ∷ items) falls each = omega (arith, items_capped limit below items falls each)
    items_capped limit below (Latch line d q edge control init ∷ items) falls each = omega (arith, items_capped limit below items falls each)
    items_capped limit below (Sub line name binds ∷ items) falls each =
        let parts = and_parts (among name && nat_lt (rank name) limit) (list_all (is_below among rank limit) items) falls in
        let here = and_parts (among name) (nat_lt (rank name) limit) parts.0 in
        omega (arith, items_capped limit below items parts.1 each, each name here.0 (ltb-true (rank name) limit here.1))

    -- a count that is capped at each model is the capped weight, at each depth past the rank
    pub capped_weight : ((name : Word) → among name ≡ true → count name ≡ min cap (items_weight weight count (items_of (model_named design.models name))))
        → (depth : ℕ) (name : Word) → among name ≡ true → rank name < depth → count name ≡ min cap (model_weight design weight depth name)
    capped_weight counts zero name is low = absurd (omega arith)
    capped_weight counts (suc depth) name is low =
        counts name is
        ∙ items_capped (rank name) (model_weight design weight depth) (items_of (model_named design.models name)) (ranking.falls name is)
        (λ placed known lower. capped_weight counts depth placed known (omega arith))

  -- a weight is the same at each depth past the rank
  items_same : (weight : Item → ℕ) (limit : ℕ) (one other : Word → ℕ) (items : List Item) → list_all (is_below among rank limit) items ≡ true
      → ((name : Word) → among name ≡ true → rank name < limit → one name ≡ other name) → items_weight weight one items ≡ items_weight weight other items
  items_same weight limit one other [] falls each = refl
  items_same weight limit one other (Names line ins out cover ∷ items) falls each = omega (arith, items_same weight limit one other items falls each)
  items_same weight limit one other (Latch line d q edge control init ∷ items) falls each = omega (arith, items_same weight limit one other items falls each)
  items_same weight limit one other (Sub line name binds ∷ items) falls each =
      let parts = and_parts (among name && nat_lt (rank name) limit) (list_all (is_below among rank limit) items) falls in
      let here = and_parts (among name) (nat_lt (rank name) limit) parts.0 in
      omega (arith, items_same weight limit one other items parts.1 each, each name here.0 (ltb-true (rank name) limit here.1))

  pub weight_stays : (weight : Item → ℕ) (one other : ℕ) (name : Word) → among name ≡ true → rank name < one → rank name < other
      → model_weight design weight one name ≡ model_weight design weight other name
  weight_stays weight zero other name is low low_too = absurd (omega arith)
  weight_stays weight (suc one) zero name is low low_too = absurd (omega arith)
  weight_stays weight (suc one) (suc other) name is low low_too =
      items_same weight (rank name) (model_weight design weight one) (model_weight design weight other) (items_of (model_named design.models name)) (ranking.falls name is)
      (λ placed known lower. weight_stays weight one other placed known (omega arith) (omega arith))

  module _ (height : Word → ℕ) where
    items_high : (limit : ℕ) (below : Word → ℕ) (items : List Item) → list_all (is_below among rank limit) items ≡ true
        → ((name : Word) → among name ≡ true → rank name < limit → height name ≡ below name) → items_height height items ≡ items_height below items
    items_high limit below [] falls each = refl
    items_high limit below (Names line ins out cover ∷ items) falls each = ap (max 0) (items_high limit below items falls each)
    items_high limit below (Latch line d q edge control init ∷ items) falls each = ap (max 0) (items_high limit below items falls each)
    items_high limit below (Sub line name binds ∷ items) falls each =
        let parts = and_parts (among name && nat_lt (rank name) limit) (list_all (is_below among rank limit) items) falls in
        let here = and_parts (among name) (nat_lt (rank name) limit) parts.0 in
        ap₂ (λ (a b : ℕ). max (suc a) b) (each name here.0 (ltb-true (rank name) limit here.1)) (items_high limit below items parts.1 each)

    pub heights : ((name : Word) → among name ≡ true → height name ≡ items_height height (items_of (model_named design.models name)))
        → (depth : ℕ) (name : Word) → among name ≡ true → rank name < depth → height name ≡ model_height design depth name
    heights is_height zero name is low = absurd (omega arith)
    heights is_height (suc depth) name is low =
        is_height name is
        ∙ items_high (rank name) (model_height design depth) (items_of (model_named design.models name)) (ranking.falls name is)
        (λ placed known lower. heights is_height depth placed known (omega arith))
