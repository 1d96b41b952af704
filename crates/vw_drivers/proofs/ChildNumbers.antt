-- The instance at a place of an instance: what the tables lead to is its place among all instances.
use Rattle.std.proofs.Common.{◌≡◌, ◌<◌, ◌+◌, ◌-◌, ◌^◌, ℕ, zero, suc, Bool, List, ◌∷◌, length, Option, Some, None, Result, Ok, Err, option_map, option_and_then, slice_get, if◌then◌else◌, ⊎_elim, refl, sym, ◌∙◌, ap, arith}
use Rattle.std.specs.Result.{OkIff, result_ok}
use Rattle.std.specs.Str.{bytes_eq}
use Rattle.std.proofs.lemmas.Bool.{cases_lt}
use Rattle.std.proofs.lemmas.Option.{none-some, same_Some, slice_get_past, slice_get_within}
use Rattle.vw_design.specs.declared.design.Design.{Design}
use Rattle.vw_design.specs.Accepted.{HasNoModelFault}
use Rattle.vw_design.specs.Paths.{Path, Placing, placings, placing_at, model_named, model_placed}
use Rattle.vw_design.specs.PathValue.{place_of_path}
use Rattle.vw_design.specs.Preorder.{instances}
use Rattle.vw_design.proofs.ListElements.{Has-at, at-place, Contains-Has}
use Rattle.vw_design.proofs.ListPlaces.{none_at_place}
use Rattle.vw_design.proofs.Names.{same_name}
use Rattle.vw_design.proofs.PathsOnce.{instance_once}
use Rattle.vw_design.proofs.PlacedInstances.{faultless_placed}
use Rattle.vw_instances.specs.declared.tables.ListedInstance.{ListedInstance}
use Rattle.vw_instances.specs.declared.sizes.Before.{Before}
use Rattle.vw_drivers.specs.declared.model_names.ModelNames.{ModelNames}
use Rattle.vw_drivers.specs.declared.model_names.PlacedNames.{PlacedNames}
use Rattle.vw_drivers.specs.declared.tables.Tables.{Tables}
use Rattle.vw_drivers.specs.Tables.{AreDesignTables}
use Rattle.vw_drivers.specs.Steps.FoundDrivers.{before_of, placed_of, child_of}
use Rattle.vw_drivers.proofs.InstanceTables.{HasInstance, instance_of, no_root, child_is}

-- past the end of one list is past the end of another one that is as long
past_both : {A B : Type 0} (xs : List A) (ys : List B) (k : ℕ) → length ys ≡ length xs → slice_get xs k ≡ None → slice_get ys k ≡ None
past_both xs ys k long none =
    ⊎_elim (λ within. absurd (none_at_place xs k within none)) (λ past. slice_get_past ys k (omega (arith, long, past))) (cases_lt k (length xs))

-- the path at the first place of a path is that path
path_of_place : (list : List Path) (path : Path) (place : ℕ) → place_of_path list path ≡ Some place → slice_get list place ≡ Some path
path_of_place list path place found =
    let at = at-place (λ (other : Path). bytes_eq other path) list place found in
    at.1 ∙ ap (λ (p : Path). Some p) (same_name at.0 path at.2)

module _ (design : Design) (faultless : HasNoModelFault design) (tables : Tables) (are : AreDesignTables design tables) (number : ℕ) (path : Path) (listed : slice_get (instances design) number ≡ Some path) (has : HasInstance design tables number path) where
  -- where no item places an instance, the tables lead to none, and none is listed
  none_led : (place : ℕ) → placing_at has.is.model.items place ≡ None → child_of tables number has.entry place ≡ None
  none_led zero none = refl
  none_led (suc before) none =
      let names = are.names.each has.entry.model has.is.model has.is.model_is in
      let less : suc before - 1 ≡ before = omega arith in
      let placed : placed_of tables has.entry.model (suc before) ≡ None =
      ap (λ (b : Bool). if b then None else option_and_then (λ (n : ModelNames). slice_get n.placed (suc before - 1)) (slice_get tables.names has.entry.model)) (no_root before)
      ∙ ap (option_and_then (λ (n : ModelNames). slice_get n.placed (suc before - 1))) names.1
      ∙ ap (slice_get names.0.placed) less
      ∙ past_both (placings has.is.model.items) names.0.placed before names.2.count none in
      ap (option_and_then (λ (p : PlacedNames). option_map (λ (b : Before). number + 1 + b.instances) (before_of tables has.entry.model p.item))) placed

  none_listed : (place : ℕ) → placing_at has.is.model.items place ≡ None → place_of_path (instances design) (place ∷ path) ≡ None
  none_listed place none = by (place_of_path (instances design) (place ∷ path)) refl where
    by : (found : Option ℕ) → place_of_path (instances design) (place ∷ path) ≡ found → found ≡ None
    by None is = refl
    by (Some child) is =
        let at = path_of_place (instances design) (place ∷ path) child is in
        let placed = faultless_placed design faultless (place ∷ path) (Contains-Has (place ∷ path) (instances design) (Has-at (place ∷ path) (instances design) child at)) in
        let nothing = ap (option_and_then (model_placed design place)) has.is.stands ∙ ap (option_and_then (λ (p : Placing). model_named design.models p.model)) none in
        absurd (none-some placed.0 (sym nothing ∙ placed.1))

  child_place : (place : ℕ) → child_of tables number has.entry place ≡ place_of_path (instances design) (place ∷ path)
  child_place zero = none_led zero refl ∙ sym (none_listed zero refl)
  child_place (suc before) = by (slice_get (placings has.is.model.items) before) refl where
    by : (found : Option Placing) → slice_get (placings has.is.model.items) before ≡ found
        → child_of tables number has.entry (suc before) ≡ place_of_path (instances design) (suc before ∷ path)
    by None none = none_led (suc before) none ∙ sym (none_listed (suc before) none)
    by (Some placing) at =
        let child = child_is design faultless tables are number path listed has before placing at in
        child.is ∙ sym (instance_once design child.child (suc before ∷ path) child.child_listed)

module _ (design : Design) (faultless : HasNoModelFault design) (tables : Tables) (are : AreDesignTables design tables) (number : ℕ) (path : Path) (listed : slice_get (instances design) number ≡ Some path) where
  -- by the entry that is read
  pub has_entry : slice_get tables.instances number ≡ None → ⊥
  has_entry none = let has = instance_of design faultless tables are number path listed in none-some has.entry (sym none ∙ has.at)

  pub entry_child : (entry : ListedInstance) → slice_get tables.instances number ≡ Some entry → (place : ℕ) → child_of tables number entry place ≡ place_of_path (instances design) (place ∷ path)
  entry_child entry at place =
      let has = instance_of design faultless tables are number path listed in
      ap (λ (e : ListedInstance). child_of tables number e place) (same_Some entry has.entry (sym at ∙ has.at))
      ∙ child_place design faultless tables are number path listed has place

  -- a number of an instance has 32 bits
  pub in_32_bits : {E : Type 0} (tried : Result ℕ E) (place child : ℕ) → OkIff tried (child < 2 ^ 32) child → Some child ≡ place_of_path (instances design) (place ∷ path)
      → result_ok tried ≡ place_of_path (instances design) (place ∷ path)
  in_32_bits (Ok value) place child fits is = ap (λ (n : ℕ). Some n) fits.1 ∙ is
  in_32_bits (Err error) place child fits is =
      let at = path_of_place (instances design) (place ∷ path) child (sym is) in
      absurd (fits (omega (arith, faultless.small.instances, slice_get_within (instances design) child (place ∷ path) at)))
