-- Each site is an item of its instance.
use Rattle.std.proofs.Common.{◌≡◌, ◌+◌, ℕ, zero, suc, [], ◌∷◌, length, Some, ⊎_elim, refl, subst}
use Rattle.vw_design.specs.declared.item.Item.{Item}
use Rattle.vw_design.specs.declared.item.Item.TheVariants.{Names, Latch, Sub}
use Rattle.vw_design.specs.declared.design.Design.{Design}
use Rattle.vw_design.specs.Paths.{Path, model_at, items_of}
use Rattle.vw_design.specs.Claims.{Numbered, numbered}
use Rattle.vw_design.specs.Preorder.{Site, site_at, inside, with_inside, sites_below, sites}
use Rattle.vw_design.specs.PathValue.{item_at}
use Rattle.vw_design.proofs.ListElements.{Has, from-flat_map}
use Rattle.vw_design.proofs.Entries.{entry_of}

-- a site is a numbered item of what stands at its path
pub record IsSite (design : Design) (site : Site) : Type 0 where
  pub entry : Numbered
  pub has : Has entry (numbered 0 0 (items_of (model_at design site.path)))
  pub same : site_at site.path entry ≡ site

module _ (design : Design) where
  own_site : (path : Path) (entry : Numbered) → Has entry (numbered 0 0 (items_of (model_at design path))) → IsSite design (site_at path entry)
  own_site path entry has = record { entry = entry; has = has; same = refl }

  is_site : (depth : ℕ) (base : Path) (site : Site) → Has site (sites_below design depth base) → IsSite design site
  is_site zero base site has = absurd has
  is_site (suc depth) base site has =
      let below = sites_below design depth in
      let from = from-flat_map (with_inside below base) (numbered 0 0 (items_of (model_at design base))) site has in
      ⊎_elim (λ same. subst (IsSite design) same (own_site base from.0 from.1)) (λ deeper. by from.0 from.0.item deeper (is_site depth (suc from.0.before ∷ base) site)) from.2
    where
      by : (entry : Numbered) (item : Item) → Has site (inside (sites_below design depth) base entry.before item)
          → (Has site (sites_below design depth (suc entry.before ∷ base)) → IsSite design site) → IsSite design site
      by entry (Names line ins out cover) found deeper = absurd found
      by entry (Latch line d q edge control init) found deeper = absurd found
      by entry (Sub line name binds) found deeper = deeper found

  pub site_is : (site : Site) → Has site (sites design) → IsSite design site
  unfolding sites
  site_is site has = is_site (65 + length design.models) [] site has

  -- so it is the item with its number there
  pub site_item : (site : Site) → Has site (sites design) → item_at design site.path site.number ≡ Some site.item
  site_item site has =
      let is = site_is site has in
      let of_items = entry_of (items_of (model_at design site.path)) is.entry is.has in
      subst (λ (s : Site). item_at design site.path s.number ≡ Some s.item) is.same of_items.item
