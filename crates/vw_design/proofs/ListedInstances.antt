-- Each instance is listed in preorder, and so is each item of it.
use Rattle.std.proofs.Common.{◌≡◌, ◌<◌, ◌≤◌, ◌+◌, ℕ, zero, suc, List, [], ◌∷◌, length, Option, Some, None, slice_get, option_and_then, inl, inr, ⊎_elim, refl, sym, ◌∙◌, ap, subst, flat_map, arith}
use Rattle.std.proofs.lemmas.Option.{none-some}
use Rattle.vw_design.specs.declared.item.Item.{Item}
use Rattle.vw_design.specs.declared.item.Item.TheVariants.{Names, Latch, Sub}
use Rattle.vw_design.specs.declared.model.Model.{Model}
use Rattle.vw_design.specs.declared.design.Design.{Design}
use Rattle.vw_design.specs.Paths.{Path, Placing, placings, model_named, model_placed, model_at, items_of}
use Rattle.vw_design.specs.Claims.{Numbered, numbered}
use Rattle.vw_design.specs.Preorder.{Site, site_at, inside, with_inside, sites_below, sites, instances_at, paths_of, instances}
use Rattle.vw_design.proofs.ListElements.{Has, Has-flat_map, from-flat_map}
use Rattle.vw_design.proofs.Entries.{placing_entry}

-- an instance that is listed below another one is placed by an item of that one, or listed below what the item places
pub record IsBelow (list : List Numbered) (below : Path → List Site) (base path : Path) : Type 0 where
  pub entry : Numbered
  pub has : Has entry list
  pub under : Has path ((suc entry.before ∷ base) ∷ paths_of (below (suc entry.before ∷ base)))
  pub within : inside below base entry.before entry.item ≡ below (suc entry.before ∷ base)

of_item : (list : List Numbered) (below : Path → List Site) (base path : Path) (entry : Numbered) → Has entry list → (item : Item) → entry.item ≡ item
    → Has path (instances_at base entry.before item) → IsBelow list below base path
of_item list below base path entry has (Names line ins out cover) is found = absurd found
of_item list below base path entry has (Latch line d q edge control init) is found = absurd found
of_item list below base path entry has (Sub line model binds) is found = record {
  entry = entry;
  has = has;
  under = ⊎_elim (λ same. inl same) (λ none. absurd none) found;
  within = ap (inside below base entry.before) is;
}

of_inside : (list : List Numbered) (below : Path → List Site) (base path : Path) (entry : Numbered) → Has entry list → (item : Item) → entry.item ≡ item
    → (site : Site) → Has site (inside below base entry.before item) → Has path (instances_at site.path site.before site.item) → IsBelow list below base path
of_inside list below base path entry has (Names line ins out cover) is site in_it found = absurd in_it
of_inside list below base path entry has (Latch line d q edge control init) is site in_it found = absurd in_it
of_inside list below base path entry has (Sub line model binds) is site in_it found = record {
  entry = entry;
  has = has;
  under = inr (Has-flat_map (λ s. instances_at s.path s.before s.item) site (below (suc entry.before ∷ base)) path in_it found);
  within = ap (inside below base entry.before) is;
}

pub stands_below : (list : List Numbered) (below : Path → List Site) (base path : Path)
    → Has path (paths_of (flat_map (with_inside below base) list)) → IsBelow list below base path
stands_below list below base path has =
    let placed_by = from-flat_map (λ s. instances_at s.path s.before s.item) (flat_map (with_inside below base) list) path has in
    let in_entry = from-flat_map (with_inside below base) list placed_by.0 placed_by.1 in
    let site = placed_by.0 in
    let entry = in_entry.0 in
    let own = λ (same : site_at base entry ≡ site).
    of_item list below base path entry in_entry.1 entry.item refl (subst (λ (s : Site). Has path (instances_at s.path s.before s.item)) (sym same) placed_by.2) in
    ⊎_elim own (λ deeper. of_inside list below base path entry in_entry.1 entry.item refl site deeper placed_by.2) in_entry.2

module _ (design : Design) where
  abbrev entries : Path → List Numbered
  entries path = numbered 0 0 (items_of (model_at design path))

  -- each item of an instance that is listed, and isn't too deep, is listed as a site
  pub site_listed : (depth : ℕ) (base path : Path) → Has path (base ∷ paths_of (sites_below design depth base)) → length path < length base + depth
      → (entry : Numbered) → Has entry (numbered 0 0 (items_of (model_at design path))) → Has (site_at path entry) (sites_below design depth base)
  site_listed zero base path listed deep entry has =
      ⊎_elim (λ same. absurd (omega (arith, ap (λ (p : Path). length p) same))) (λ none. absurd none) listed
  site_listed (suc depth) base path listed deep entry has =
      let below = sites_below design depth in
      let root = λ (same : base ≡ path).
      subst (λ (p : Path). Has (site_at p entry) (flat_map (with_inside below base) (entries base))) same
      (Has-flat_map (with_inside below base) entry (entries base) (site_at base entry) (subst (λ (p : Path). Has entry (entries p)) (sym same) has) (inl refl)) in
      let deeper = λ (found : Has path (paths_of (flat_map (with_inside below base) (entries base)))).
      let is = stands_below (entries base) below base path found in
      let there : Has (site_at path entry) (below (suc is.entry.before ∷ base)) = site_listed depth (suc is.entry.before ∷ base) path is.under (omega arith) entry has in
      Has-flat_map (with_inside below base) is.entry (entries base) (site_at path entry) is.has
      (inr (subst (λ (list : List Site). Has (site_at path entry) list) (sym is.within) there)) in
      ⊎_elim root deeper listed

  -- what stands at a place of an instance comes from an item of it
  placed_by : (place : ℕ) (path : Path) (here : Option Model) → model_at design path ≡ here → (model : Model)
      → option_and_then (model_placed design place) here ≡ Some model
      → (above : Model) × (model_at design path ≡ Some above) × (model_placed design place above ≡ Some model)
  placed_by place path None is model stands = absurd (none-some model stands)
  placed_by place path (Some above) is model stands = (above, is, stands)

  pub placer : (place : ℕ) (path : Path) (model : Model) → model_at design (place ∷ path) ≡ Some model
      → (above : Model) × (model_at design path ≡ Some above) × (model_placed design place above ≡ Some model)
  placer place path model stands = placed_by place path (model_at design path) refl model stands

  pub placing_of_placed : (place : ℕ) (above model : Model) → model_placed design place above ≡ Some model
      → (before : ℕ) × (placing : Placing) × (place ≡ suc before) × (slice_get (placings above.items) before ≡ Some placing) × (model_named design.models placing.model ≡ Some model)
  placing_of_placed zero above model stands = absurd (none-some model stands)
  placing_of_placed (suc before) above model stands = by (slice_get (placings above.items) before) refl stands where
    by : (found : Option Placing) → slice_get (placings above.items) before ≡ found
        → option_and_then (λ p. model_named design.models p.model) found ≡ Some model
        → (b : ℕ) × (placing : Placing) × (suc before ≡ suc b) × (slice_get (placings above.items) b ≡ Some placing) × (model_named design.models placing.model ≡ Some model)
    by None is named = absurd (none-some model named)
    by (Some placing) is named = (before, placing, refl, is, named)

  -- an instance that isn't too deep is listed
  pub path_listed : (depth : ℕ) (path : Path) (model : Model) → model_at design path ≡ Some model → length path ≤ depth
      → Has path ([] ∷ paths_of (sites_below design depth []))
  path_listed depth [] model stands deep = inl refl
  path_listed depth (place ∷ path) model stands deep =
      let above = placer place path model stands in
      let placing = placing_of_placed place above.0 model above.2 in
      let entry = placing_entry above.0.items placing.0 placing.1 placing.3 in
      let has : Has entry.entry (entries path) = subst (λ (m : Option Model). Has entry.entry (numbered 0 0 (items_of m))) (sym above.1) entry.has in
      let listed = path_listed depth path above.0 above.1 (omega arith) in
      let site : Has (site_at path entry.entry) (sites_below design depth []) = site_listed depth [] path listed (omega arith) entry.entry has in
      let same : instances_at path entry.entry.before entry.entry.item ≡ (place ∷ path) ∷ [] =
      ap (instances_at path entry.entry.before) entry.item_is ∙ ap (λ (k : ℕ). (k ∷ path) ∷ []) (ap suc entry.before_is ∙ sym placing.2) in
      let at : Has (place ∷ path) (instances_at path entry.entry.before entry.entry.item) = subst (λ (list : List Path). Has (place ∷ path) list) (sym same) (inl refl) in
      inr (Has-flat_map (λ s. instances_at s.path s.before s.item) (site_at path entry.entry) (sites_below design depth []) (place ∷ path) site at)

  -- in the whole design
  pub instance_listed : (path : Path) (model : Model) → model_at design path ≡ Some model → length path ≤ 65 + length design.models
      → Has path (instances design)
  unfolding sites
  instance_listed path model stands deep = path_listed (65 + length design.models) path model stands deep

  pub item_listed : (path : Path) → Has path (instances design) → length path < 65 + length design.models → (entry : Numbered)
      → Has entry (numbered 0 0 (items_of (model_at design path)))
      → Has (site_at path entry) (sites design)
  unfolding sites
  item_listed path listed deep entry has = site_listed (65 + length design.models) [] path listed (omega arith) entry has
