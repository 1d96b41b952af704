-- The sites that are left in an instance, when one of its items is listed.
use Rattle.std.proofs.Common.{◌≡◌, ◌≤◌, ◌+◌, ◌-◌, ℕ, suc, cond, List, [], ◌∷◌, ◌++◌, length, length-append, append-nil, Some, Option, flat_map, sym, ◌∙◌, ap, ap₂, arith}
use Rattle.std.proofs.lemmas.List.Concat.{flat_map-append}
use Rattle.std.proofs.lemmas.List.Elements.{filter-append, filter_map-append}
use Rattle.vw_design.specs.declared.item.Item.{Item}
use Rattle.vw_design.specs.declared.item.Item.TheVariants.{Names, Latch, Sub}
use Rattle.vw_design.specs.declared.model.Model.{Model}
use Rattle.vw_design.specs.declared.design.Design.{Design}
use Rattle.vw_design.specs.Paths.{Path, placing_of, placings, model_at, items_of}
use Rattle.vw_design.specs.Claims.{and_behind, numbered}
use Rattle.vw_design.specs.Preorder.{Site, inside, with_inside, sites_below, instances_at, paths_of, is_cell}
use Rattle.vw_instances.specs.Steps.Frames.{FrameLevel, sites_left, listed_with, cells_among}

abbrev pub level_of : Path → List Item → List Item → FrameLevel
level_of path front left = record { path = path; front = front; left = left }

-- the site of the item behind a front
abbrev pub site_of : Path → List Item → Item → Site
site_of path front item = record { path = path; number = length front; before = length (placings front); item = item }

pub placings_behind : (front : List Item) (item : Item) → length (placings (front ++ (item ∷ []))) ≡ and_behind item (length (placings front))
placings_behind front item =
    ap (λ list. length list) (filter_map-append placing_of front (item ∷ [])) ∙ length-append (placings front) (placings (item ∷ [])) ∙ by item (length (placings front))
  where
    by : (item : Item) (n : ℕ) → n + length (placings (item ∷ [])) ≡ and_behind item n
    by (Names line ins out cover) n = omega arith
    by (Latch line d q edge control init) n = omega arith
    by (Sub line model binds) n = omega arith

-- one more site
pub listed_more : (done : List Site) (site : Site) → listed_with (done ++ (site ∷ [])) ≡ listed_with done ++ instances_at site.path site.before site.item
listed_more done site =
    ap (λ (list : List Path). [] ∷ list)
    (flat_map-append (λ (s : Site). instances_at s.path s.before s.item) done (site ∷ []) ∙ ap (λ (list : List Path). paths_of done ++ list) (append-nil (instances_at site.path site.before site.item)))

pub cells_more : (done : List Site) (site : Site) → cells_among (done ++ (site ∷ [])) ≡ cells_among done ++ cond (is_cell site.item) (site ∷ []) []
cells_more done site = filter-append (λ (s : Site). is_cell s.item) done (site ∷ [])

module _ (design : Design) where
  abbrev pub below_of : Path → Path → List Site
  below_of path = sites_below design (64 + length design.models - length path)

  -- the first item that is left, what stands inside it, and the items behind it
  pub sites_cut : (path : Path) (front : List Item) (item : Item) (rest : List Item)
      → sites_left design (level_of path front (item ∷ rest))
      ≡ site_of path front item ∷ (inside (below_of path) path (length (placings front)) item ++ sites_left design (level_of path (front ++ (item ∷ [])) rest))
  sites_cut path front item rest =
      let longer : suc (length front) ≡ length (front ++ (item ∷ [])) = omega (arith, length-append front (item ∷ [])) in
      ap₂ (λ (n b : ℕ). site_of path front item ∷ (inside (below_of path) path (length (placings front)) item ++ flat_map (with_inside (below_of path) path) (numbered n b rest)))
      longer (sym (placings_behind front item))

  -- all sites below an instance are left where it is listed
  pub sites_start : (path : Path) (model : Model) → model_at design path ≡ Some model → length path ≤ 64
      → sites_below design (65 + length design.models - length path) path ≡ sites_left design (level_of path [] model.items)
  sites_start path model stands deep =
      let levels : 65 + length design.models - length path ≡ suc (64 + length design.models - length path) = omega arith in
      ap (λ (depth : ℕ). sites_below design depth path) levels
      ∙ ap (λ (m : Option Model). flat_map (with_inside (below_of path) path) (numbered 0 0 (items_of m))) stands

  -- what a placed instance has below it, as its placing item counts the levels
  pub levels_same : (path : Path) (place : ℕ) → 64 + length design.models - length path ≡ 65 + length design.models - length (place ∷ path)
  levels_same path place = omega arith
