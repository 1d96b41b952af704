-- Each instance that is listed has a model, where no model is unknown.
use Rattle.std.proofs.Common.{◌≡◌, ◌<◌, ◌+◌, ℕ, zero, suc, List, [], ◌∷◌, length, Option, Some, None, Contains, is_none, slice_get, option_and_then, if◌then◌else◌, ◌⊎◌, inl, inr, ⊎_elim, refl, sym, ◌∙◌, ap, subst, arith}
use Rattle.std.proofs.lemmas.Bool.{cases_lt}
use Rattle.std.proofs.lemmas.Option.{none-some}
use Rattle.vw_design.specs.declared.item.Bind.{Bind}
use Rattle.vw_design.specs.declared.item.Item.{Item}
use Rattle.vw_design.specs.declared.item.Item.TheVariants.{Names, Latch, Sub}
use Rattle.vw_design.specs.declared.model.Model.{Model}
use Rattle.vw_design.specs.declared.design.Design.{Design}
use Rattle.vw_design.specs.Paths.{Word, Path, Placing, model_named, model_placed, model_at, items_of}
use Rattle.vw_design.specs.Claims.{Numbered, numbered}
use Rattle.vw_design.specs.Preorder.{Site, site_at, inside, with_inside, sites_below, sites, instances_at, paths_of, instances}
use Rattle.vw_design.specs.ModelFaults.{unknown_model}
use Rattle.vw_design.specs.PathValue.{item_at}
use Rattle.vw_design.specs.Accepted.{HasNoModelFault}
use Rattle.vw_design.proofs.ListElements.{Has, Has-at, from-flat_map, Contains-Has, Has-Contains}
use Rattle.vw_design.proofs.Entries.{entry_of, item_entry}
use Rattle.vw_design.proofs.ListedInstances.{instance_listed, item_listed}
use Rattle.vw_design.proofs.Sites.{site_is}
use Rattle.vw_design.proofs.TurnsEnd.{IsShallow}
use Rattle.vw_design.proofs.ShallowDesigns.{nothing_placed, faultless_shallow}
use Rattle.vw_design.proofs.ModelNumbers.{root_model}

record HasModel (design : Design) (path : Path) : Type 0 where
  model : Model
  stands : model_at design path ≡ Some model

-- the model at a path, if there is one
some_or_none : (design : Design) (path : Path) (found : Option Model) → model_at design path ≡ found → HasModel design path ⊎ (model_at design path ≡ None)
some_or_none design path None is = inr is
some_or_none design path (Some model) is = inl (record { model = model; stands = is })

-- a model that an item names is known_model
pub known_model : (design : Design) (line : ℕ) (found : Option Model) → (if is_none found then Some line else None) ≡ None
    → (model : Model) × (found ≡ Some model)
known_model design line None none = absurd (none-some line (sym none))
known_model design line (Some model) none = (model, refl)

module _ (design : Design) (is_shallow : IsShallow design 64) (none : unknown_model design ≡ None) where
  -- what an item of an instance places has a model
  placed_here : (path : Path) (model : Model) → model_at design path ≡ Some model → (entry : Numbered) → Has entry (numbered 0 0 model.items)
      → (line : ℕ) (name : Word) (binds : List Bind) → entry.item ≡ Sub line name binds → HasModel design (suc entry.before ∷ path)
  placed_here path model stands entry has line name binds is =
      let of_model = entry_of model.items entry has in
      let sub : Has (Sub line name binds) model.items = subst (λ (i : Item). Has i model.items) is (Has-at entry.item model.items entry.number of_model.item) in
      let nothing = nothing_placed design is_shallow (λ l m bs. if is_none (model_named design.models m) then Some l else None) none path model stands line name binds sub in
      let found = known_model design line (model_named design.models name) nothing in
      record {
        model = found.0;
        stands = ap (option_and_then (model_placed design (suc entry.before))) stands ∙ ap (option_and_then (λ (p : Placing). model_named design.models p.model)) (of_model.placing line name binds is) ∙ found.1;
      }

  -- each instance that is listed below one has a model; by the item that places it
  all_placed : (depth : ℕ) (base : Path) → HasModel design base → (site : Site) → Has site (sites_below design depth base) → HasModel design site.path
  all_placed zero base at site has = absurd has
  all_placed (suc depth) base at site has =
      let below = sites_below design depth in
      let list = numbered 0 0 (items_of (model_at design base)) in
      let from = from-flat_map (with_inside below base) list site has in
      let entry : Has from.0 (numbered 0 0 at.model.items) = subst (λ (m : Option Model). Has from.0 (numbered 0 0 (items_of m))) at.stands from.1 in
      ⊎_elim (λ same. subst (λ (s : Site). HasModel design s.path) same at)
      (λ deeper. by from.0 entry from.0.item refl deeper (all_placed depth (suc from.0.before ∷ base))) from.2
    where
      by : (entry : Numbered) → Has entry (numbered 0 0 at.model.items) → (item : Item) → entry.item ≡ item
          → Has site (inside (sites_below design depth) base entry.before item)
          → (HasModel design (suc entry.before ∷ base) → (s : Site) → Has s (sites_below design depth (suc entry.before ∷ base)) → HasModel design s.path)
          → HasModel design site.path
      by entry has (Names line ins out cover) is found deeper = absurd found
      by entry has (Latch line d q edge control init) is found deeper = absurd found
      by entry has (Sub line name binds) is found deeper = deeper (placed_here base at.model at.stands entry has line name binds is) site found

  -- and so has each instance that a site places
  at_site : (path : Path) (site : Site) → Has site (sites design) → HasModel design site.path → (item : Item) → site.item ≡ item
      → Has path (instances_at site.path site.before item) → HasModel design path
  at_site path site listed at (Names line ins out cover) is found = absurd found
  at_site path site listed at (Latch line d q edge control init) is found = absurd found
  at_site path site listed at (Sub line name binds) is found =
      let of_site = site_is design site listed in
      let entry : Has of_site.entry (numbered 0 0 at.model.items) = subst (λ (m : Option Model). Has of_site.entry (numbered 0 0 (items_of m))) at.stands of_site.has in
      let placed = placed_here site.path at.model at.stands of_site.entry entry line name binds (ap (λ (s : Site). s.item) of_site.same ∙ is) in
      let here : HasModel design (suc site.before ∷ site.path) = subst (λ (k : ℕ). HasModel design (suc k ∷ site.path)) (ap (λ (s : Site). s.before) of_site.same) placed in
      ⊎_elim (λ same. subst (HasModel design) same here) (λ none. absurd none) found

  site_placed : (site : Site) → Has site (sites design) → HasModel design [] → HasModel design site.path
  unfolding sites
  site_placed site has root = all_placed (65 + length design.models) [] root site has

  path_placed : (path : Path) → Has path (instances design) → HasModel design [] → HasModel design path
  path_placed path has root =
      let by_site = λ (listed : Has path (paths_of (sites design))).
      let from = from-flat_map (λ s. instances_at s.path s.before s.item) (sites design) path listed in
      at_site path from.0 from.1 (site_placed from.0 from.1 root) from.0.item refl from.2 in
      ⊎_elim (λ same. subst (HasModel design) same root) by_site has

-- the root has a model
has_root : (design : Design) → HasModel design []
has_root design = let root = root_model design in record { model = root.0; stands = root.1 }

-- without a fault of models a path is an instance exactly where it is listed
pub faultless_listed : (design : Design) → HasNoModelFault design → (path : Path) (model : Model) → model_at design path ≡ Some model
    → Contains (instances design) path
faultless_listed design faultless path model stands =
    let is_shallow = faultless_shallow design faultless in
    let short : length path < 64 = ⊎_elim (λ short. short) (λ deep. absurd (none-some model (sym (is_shallow.shallow path deep) ∙ stands))) (cases_lt (length path) 64) in
    Contains-Has path (instances design) (instance_listed design path model stands (omega arith))

pub faultless_placed : (design : Design) → HasNoModelFault design → (path : Path) → Contains (instances design) path
    → (model : Model) × (model_at design path ≡ Some model)
faultless_placed design faultless path listed =
    let found = path_placed design (faultless_shallow design faultless) faultless.models_known path (Has-Contains path (instances design) listed) (has_root design) in
    (found.model, found.stands)

-- without a fault of models each item of an instance is a site
pub faultless_site : (design : Design) → HasNoModelFault design → (path : Path) (number : ℕ) (item : Item) → item_at design path number ≡ Some item
    → (site : Site) × Contains (sites design) site × (site.path ≡ path) × (site.number ≡ number) × (site.item ≡ item)
faultless_site design faultless path number item at = by (model_at design path) refl where
  by : (found : Option Model) → model_at design path ≡ found
      → (site : Site) × Contains (sites design) site × (site.path ≡ path) × (site.number ≡ number) × (site.item ≡ item)
  by None is = absurd (none-some item (sym (ap (λ (m : Option Model). slice_get (items_of m) number) is) ∙ at))
  by (Some model) is =
      let is_shallow = faultless_shallow design faultless in
      let short : length path < 64 = ⊎_elim (λ short. short) (λ deep. absurd (none-some model (sym (is_shallow.shallow path deep) ∙ is))) (cases_lt (length path) 64) in
      let entry = item_entry (items_of (model_at design path)) number item at in
      let listed = item_listed design path (instance_listed design path model is (omega arith)) (omega arith) entry.entry entry.has in
      (site_at path entry.entry, Contains-Has (site_at path entry.entry) (sites design) listed, refl, entry.number_is, entry.item_is)
