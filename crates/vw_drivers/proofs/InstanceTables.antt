-- What tables say of an instance: its entry, the claims on its nets, and how much stands before its items.
use Rattle.std.proofs.Common.{◌≡◌, ◌<◌, ◌+◌, ◌-◌, ◌^◌, ◌==◌, ℕ, suc, Bool, true, false, List, [], ◌∷◌, length, take, Option, Some, None, option_map, option_and_then, slice_get, nat_lt, if◌then◌else◌, refl, sym, ◌∙◌, ap, ap₂, subst, arith}
use Rattle.std.specs.Option.{unwrap_or}
use Rattle.std.proofs.lemmas.Bool.{lt-ltb, ne_eqb}
use Rattle.std.proofs.lemmas.Option.{slice_get_within}
use Rattle.vw_design.specs.declared.item.Item.{Item}
use Rattle.vw_design.specs.declared.item.Item.TheVariants.{Sub}
use Rattle.vw_design.specs.declared.model.Model.{Model}
use Rattle.vw_design.specs.declared.design.Design.{Design}
use Rattle.vw_design.specs.Accepted.{HasNoModelFault}
use Rattle.vw_design.specs.Counts.{placed_one, cell_one, items_weight, model_weight}
use Rattle.vw_design.specs.Limits.{weight_of}
use Rattle.vw_design.specs.PathValue.{item_at, place_of_site}
use Rattle.vw_design.specs.Paths.{Path, Placing, placings, items_of}
use Rattle.vw_design.specs.Preorder.{is_cell, instances, cells}
use Rattle.vw_design.proofs.FlatValues.{site_of_place}
use Rattle.vw_design.proofs.ListPlaces.{none_at_place}
use Rattle.vw_design.proofs.Numbers.{cell_number, instance_number}
use Rattle.vw_drivers.specs.declared.model_claims.ModelClaims.{ModelClaims}
use Rattle.vw_drivers.specs.Claimed.{AreClaims}
use Rattle.vw_instances.specs.declared.tables.ListedInstance.{ListedInstance}
use Rattle.vw_instances.specs.Tables.{IsEntryAt}
use Rattle.vw_instances.proofs.EntryNumbers.{stands_behind}
use Rattle.vw_instances.specs.declared.sizes.Before.{Before}
use Rattle.vw_drivers.specs.declared.model_names.ModelNames.{ModelNames}
use Rattle.vw_drivers.specs.declared.model_names.PlacedNames.{PlacedNames}
use Rattle.vw_drivers.specs.Names.{firsts_of, IsPlacedNames}
use Rattle.vw_drivers.specs.declared.source.Source.TheVariants.{Cell}
use Rattle.vw_drivers.specs.declared.tables.Tables.{Tables}
use Rattle.vw_drivers.specs.Tables.{AreDesignTables, instance_firsts}
use Rattle.vw_drivers.specs.Steps.FoundDrivers.{before_of, placed_of, cell_source, child_of}

-- a place isn't 0
pub no_root : (before : ℕ) → suc before == 0 ≡ false
no_root before = ne_eqb (suc before) 0 (omega arith)

-- the entry of an instance, and the claims of its model
pub record HasInstance (design : Design) (tables : Tables) (number : ℕ) (path : Path) : Type 0 where
  pub entry : ListedInstance
  pub at : slice_get tables.instances number ≡ Some entry
  pub is : IsEntryAt design (instances design) number path entry
  pub claims : ModelClaims
  pub claims_are : AreClaims design (Some is.model) claims
  pub firsts_are : firsts_of tables.claims (Some entry.model) ≡ claims.firsts
  pub own_firsts : instance_firsts tables number ≡ firsts_of tables.claims (Some entry.model)

module _ (design : Design) (faultless : HasNoModelFault design) (tables : Tables) (are : AreDesignTables design tables) where
  pub instance_of : (number : ℕ) (path : Path) → slice_get (instances design) number ≡ Some path → HasInstance design tables number path
  instance_of number path listed =
      let found = are.placed.each number path listed in
      let claims = are.claims.each found.0.model found.2.model found.2.model_is in
      record {
        entry = found.0;
        at = found.1;
        is = found.2;
        claims = claims.0;
        claims_are = claims.2;
        firsts_are = ap (λ (c : Option ModelClaims). unwrap_or (option_map (λ (f : ModelClaims). f.firsts) c) []) claims.1;
        own_firsts = ap (λ (e : Option ListedInstance). firsts_of tables.claims (option_map (λ (p : ListedInstance). p.model) e)) found.1;
      }

  module _ (number : ℕ) (path : Path) (listed : slice_get (instances design) number ≡ Some path) (has : HasInstance design tables number path) where
    -- how much stands before an item
    pub record HasBefore (item : ℕ) : Type 0 where
      pub before : Before
      pub at : before_of tables has.entry.model item ≡ Some before
      pub cells_are : before.cells ≡ items_weight cell_one (model_weight design cell_one (64 + length design.models - length path)) (take item has.is.model.items)
      pub instances_are : before.instances ≡ items_weight placed_one (model_weight design placed_one (64 + length design.models - length path)) (take item has.is.model.items)

    pub before_is : (item : ℕ) (what : Item) → slice_get has.is.model.items item ≡ Some what → HasBefore item
    before_is item what at =
        let entries = are.before.each path has.is.model has.entry.model has.is.stands has.is.model_is in
        by entries.0 entries.1 entries.2 entries.3 (slice_get entries.0 item) refl
      where
        by : (entries : List Before) → slice_get tables.before has.entry.model ≡ Some entries → length entries ≡ length has.is.model.items
            → ((k : ℕ) (entry : Before) → slice_get entries k ≡ Some entry
            → (entry.cells ≡ items_weight cell_one (model_weight design cell_one (64 + length design.models - length path)) (take k has.is.model.items))
            × (entry.instances ≡ items_weight placed_one (model_weight design placed_one (64 + length design.models - length path)) (take k has.is.model.items)))
            → (found : Option Before) → slice_get entries item ≡ found → HasBefore item
        by entries at_entries long each None none =
            absurd (none_at_place entries item (omega (arith, long, slice_get_within has.is.model.items item what at)) none)
        by entries at_entries long each (Some before) found = record {
          before = before;
          at = ap (option_and_then (λ (list : List Before). slice_get list item)) at_entries ∙ found;
          cells_are = (each item before found).0;
          instances_are = (each item before found).1;
        }

    -- an item of the instance
    item_here : (item : ℕ) (what : Item) → slice_get has.is.model.items item ≡ Some what → item_at design path item ≡ Some what
    item_here item what at = ap (λ (m : Option Model). slice_get (items_of m) item) has.is.stands ∙ at

    -- the number of a cell
    pub cell_is : (item : ℕ) (what : Item) → slice_get has.is.model.items item ≡ Some what → is_cell what ≡ true
        → cell_source tables has.entry item ≡ option_map (λ place. Cell place) (place_of_site (cells design) path item)
    cell_is item what at cell =
        let stands = stands_behind design tables.instances faultless.small are.placed number path listed has.entry has.at in
        let depth = 64 + length design.models - length path in
        let before = before_is item what at in
        let sum = has.entry.cells + before.before.cells in
        let place : place_of_site (cells design) path item ≡ Some sum =
        cell_number design stands.before stands.after depth path stands.split item what (item_here item what at) cell
        ∙ ap (λ (m : Option Model). Some (weight_of cell_one stands.before + items_weight cell_one (model_weight design cell_one depth) (take item (items_of m)))) has.is.stands
        ∙ ap₂ (λ (n k : ℕ). Some (n + k)) (sym stands.cells_before) (sym before.cells_are) in
        let site = site_of_place (cells design) path item sum place in
        let few : sum < 2 ^ 32 = omega (arith, faultless.small.cells, slice_get_within (cells design) sum site.0 site.1) in
        ap (option_and_then (λ (b : Before). if nat_lt (has.entry.cells + b.cells) (2 ^ 32) then Some (Cell (has.entry.cells + b.cells)) else None)) before.at
        ∙ ap (λ (b : Bool). if b then Some (Cell sum) else None) (lt-ltb sum (2 ^ 32) few)
        ∙ ap (option_map (λ (n : ℕ). Cell n)) (sym place)

    -- the numbers of the `.subckt` item at a place
    pub record HasPlaced (before : ℕ) (placing : Placing) : Type 0 where
      pub placed : PlacedNames
      pub at : placed_of tables has.entry.model (suc before) ≡ Some placed
      pub is : IsPlacedNames design tables.claims (firsts_of tables.claims (Some has.entry.model)) has.is.model.items before placing placed

    pub placed_is : (before : ℕ) (placing : Placing) → slice_get (placings has.is.model.items) before ≡ Some placing → HasPlaced before placing
    placed_is before placing at =
        let names = are.names.each has.entry.model has.is.model has.is.model_is in
        let placed = names.2.placed before placing at in
        let less : suc before - 1 ≡ before = omega arith in
        record {
          placed = placed.0;
          at = ap (λ (b : Bool). if b then None else option_and_then (λ (n : ModelNames). slice_get n.placed (suc before - 1)) (slice_get tables.names has.entry.model)) (no_root before)
              ∙ ap (option_and_then (λ (n : ModelNames). slice_get n.placed (suc before - 1))) names.1 ∙ ap (slice_get names.0.placed) less ∙ placed.1;
          is = placed.2;
        }

    -- the instance at a place
    pub record HasChild (place : ℕ) : Type 0 where
      pub child : ℕ
      pub is : child_of tables number has.entry place ≡ Some child
      pub later : number < child
      pub child_listed : slice_get (instances design) child ≡ Some (place ∷ path)

    pub child_is : (before : ℕ) (placing : Placing) → slice_get (placings has.is.model.items) before ≡ Some placing → HasChild (suc before)
    child_is before placing at =
        let placed = placed_is before placing at in
        let item = placed.placed.item in
        let sub = Sub placed.is.line placing.model placing.binds in
        let stands = stands_behind design tables.instances faultless.small are.placed number path listed has.entry has.at in
        let depth = 64 + length design.models - length path in
        let before_item = before_is item sub placed.is.item_is in
        let child = number + 1 + before_item.before.instances in
        let sum : 1 + (weight_of placed_one stands.before + items_weight placed_one (model_weight design placed_one depth) (take item has.is.model.items)) ≡ child =
        omega (arith, stands.number_is, before_item.instances_are) in
        record {
          child = child;
          is = ap (option_and_then (λ (p : PlacedNames). option_map (λ (b : Before). number + 1 + b.instances) (before_of tables has.entry.model p.item))) placed.at
              ∙ ap (option_map (λ (b : Before). number + 1 + b.instances)) before_item.at;
          later = omega arith;
          child_listed = ap (slice_get (instances design)) (sym sum)
              ∙ subst (λ (m : Option Model). slice_get (instances design) (1 + (weight_of placed_one stands.before + items_weight placed_one (model_weight design placed_one depth) (take item (items_of m))))
              ≡ Some (suc (length (placings (take item (items_of m)))) ∷ path)) has.is.stands
              (instance_number design stands.before stands.after depth path stands.split item placed.is.line placing.model placing.binds (item_here item sub placed.is.item_is))
              ∙ ap (λ (n : ℕ). Some (suc n ∷ path)) placed.is.before_is;
        }
