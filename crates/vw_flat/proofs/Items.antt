-- The item of a cell, looked up by numbers.
use Rattle.std.proofs.Common.{◌≡◌, ◌<◌, ℕ, true, true≢false, List, length, Option, Some, None, slice_get, get_or, refl, sym, ◌∙◌, ap}
use Rattle.std.proofs.lemmas.Option.{none-some, same_Some, slice_get_within, slice_get_read}
use Rattle.vw_design.specs.declared.item.Bind.{Bind}
use Rattle.vw_design.specs.declared.item.Item.{Item}
use Rattle.vw_design.specs.declared.item.Item.TheVariants.{Sub}
use Rattle.vw_design.specs.declared.model.Model.{Model}
use Rattle.vw_design.specs.declared.design.Design.{Design}
use Rattle.vw_design.specs.Paths.{Word, Path, model_at, items_of}
use Rattle.vw_design.specs.Preorder.{Site, is_cell, sites, instances, cells}
use Rattle.vw_design.specs.PathValue.{item_at}
use Rattle.vw_design.specs.Limits.{cell_count}
use Rattle.vw_design.proofs.ListElements.{Has-at, from-filter}
use Rattle.vw_design.proofs.Sites.{site_item}
use Rattle.vw_design.proofs.ListPlaces.{at_within}
use Rattle.vw_instances.specs.declared.tables.CellSite.{CellSite}
use Rattle.vw_instances.specs.Tables.{IsCellSite}
use Rattle.vw_elab.specs.declared.elaborated.Instance.{Instance}
use Rattle.vw_elab.specs.Numbers.{IsInstance}
use Rattle.vw_flat.specs.Steps.Numbers.{item_with_numbers}

-- what stands in a list at a number is what is read there
pub record IsAtNumber (A : Type 0) (xs : List A) (k : ℕ) (x : A) : Type 0 where
  pub within : k < length xs
  pub read : (y : A) → y ≡ get_or xs k y → x ≡ y

pub at_number : {A : Type 0} → (xs : List A) (k : ℕ) (x : A) → slice_get xs k ≡ Some x → IsAtNumber A xs k x
at_number xs k x is =
    let within = slice_get_within xs k x is in
    record {
      within = within;
      read = λ y at. same_Some x y (sym is ∙ slice_get_read xs (length xs) k y refl within at);
    }

module _ (design : Design) where
  -- a cell, its item, and that it is one
  pub record IsCell (cell : ℕ) : Type 0 where
    pub site : Site
    pub at : slice_get (cells design) cell ≡ Some site
    pub item : item_at design site.path site.number ≡ Some site.item
    pub is : is_cell site.item ≡ true

  pub cell_is : (cell : ℕ) → cell < cell_count design → IsCell cell
  cell_is cell within =
      let found = at_within (cells design) cell within in
      let listed = from-filter (λ (s : Site). is_cell s.item) found.0 (sites design) (Has-at found.0 (cells design) cell found.1) in
      record { site = found.0; at = found.1; item = site_item design found.0 listed.0; is = listed.1 }

  pub record IsLookedUp (cell : ℕ) (entry : CellSite) (instance : Instance) : Type 0 where
    pub model : Model
    pub model_is : slice_get design.models instance.model ≡ Some model
    pub item : Item
    pub item_is : slice_get model.items entry.item ≡ Some item
    pub same : item_with_numbers (slice_get (cells design) cell) ≡ Some item

  pub some_model : (path : Path) (number : ℕ) (item : Item) → item_at design path number ≡ Some item → (model : Model) × (model_at design path ≡ Some model)
  some_model path number item is = by (model_at design path) refl where
    by : (found : Option Model) → model_at design path ≡ found → (model : Model) × (model_at design path ≡ Some model)
    by None none = absurd (none-some item (sym (ap (λ (m : Option Model). slice_get (items_of m) number) none) ∙ is))
    by (Some model) stands = (model, stands)

  pub looked_up : (cell : ℕ) → IsCell cell → (entry : CellSite)
      → ((site : Site) → slice_get (cells design) cell ≡ Some site → IsCellSite (instances design) site entry)
      → (instance : Instance) → IsInstance design entry.instance instance → IsLookedUp cell entry instance
  looked_up cell is entry of_site instance is_instance =
      let site = is.site in
      let at = of_site site is.at in
      let path : is_instance.path ≡ site.path = same_Some is_instance.path site.path (sym is_instance.listed ∙ at.instance_is) in
      let model = some_model site.path site.number site.item is.item in
      record {
        model = model.0;
        model_is = is_instance.model ∙ ap (model_at design) path ∙ model.1;
        item = site.item;
        item_is = ap (slice_get model.0.items) at.item_is ∙ ap (λ (m : Option Model). slice_get (items_of m) site.number) (sym model.1) ∙ is.item;
        same = ap item_with_numbers is.at;
      }

  -- the item of a cell, as it is read: first its model among the models, then the item among those of the model
  pub record IsItemAt (cell number : ℕ) (items : List Item) : Type 0 where
    pub within : number < length items
    pub same : (item : Item) → item ≡ get_or items number item → item_with_numbers (slice_get (cells design) cell) ≡ Some item

  pub record IsModelAt (cell : ℕ) (entry : CellSite) (number : ℕ) (models : List Model) : Type 0 where
    pub within : number < length models
    pub items : (model : Model) → model ≡ get_or models number model → (items : List Item) → items ≡ model.items → IsItemAt cell entry.item items

  pub item_read : (cell : ℕ) → cell < cell_count design → (entry : CellSite)
      → ((site : Site) → slice_get (cells design) cell ≡ Some site → IsCellSite (instances design) site entry)
      → (instance : Instance) → IsInstance design entry.instance instance → (models : List Model) → models ≡ design.models
      → IsModelAt cell entry instance.model models
  item_read cell within entry of_site instance is_instance models are =
      let is = looked_up cell (cell_is cell within) entry of_site instance is_instance in
      let model = at_number models instance.model is.model (ap (λ (list : List Model). slice_get list instance.model) are ∙ is.model_is) in
      record {
        within = model.within;
        items = λ m at items same.
            let own : items ≡ is.model.items = same ∙ ap (λ (x : Model). x.items) (sym (model.read m at)) in
            let item : IsAtNumber Item items entry.item is.item = at_number items entry.item is.item (ap (λ (list : List Item). slice_get list entry.item) own ∙ is.item_is) in
            record {
              within = item.within;
              same = λ i here. is.same ∙ ap (λ (x : Item). Some x) (item.read i here);
            };
      }

  -- no cell is a placed model
  pub never_placed : (cell : ℕ) (item : Item) → item_with_numbers (slice_get (cells design) cell) ≡ Some item
      → (line : ℕ) (name : Word) (binds : List Bind) → item ≡ Sub line name binds → ⊥
  never_placed cell item is line name binds same = by (slice_get (cells design) cell) refl where
    by : (found : Option Site) → slice_get (cells design) cell ≡ found → ⊥
    by None at = none-some item (sym (ap item_with_numbers at) ∙ is)
    by (Some site) at =
        let listed = from-filter (λ (s : Site). is_cell s.item) site (sites design) (Has-at site (cells design) cell at) in
        let here : site.item ≡ Sub line name binds = same_Some site.item item (sym (ap item_with_numbers at) ∙ is) ∙ same in
        true≢false (sym listed.1 ∙ ap is_cell here)
