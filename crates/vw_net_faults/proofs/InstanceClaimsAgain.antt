-- The first item of an instance that claims a name again.
use Rattle.std.proofs.Common.{◌≡◌, ◌<◌, ◌≤◌, ◌+◌, ◌-◌, ℕ, zero, suc, List, [], ◌∷◌, length, take, Option, Some, None, slice_get, option_map, option_and_then, ⊎_elim, refl, sym, ◌∙◌, ap, ap₂, subst, arith}
use Rattle.std.proofs.lemmas.Bool.{cases_lt}
use Rattle.std.proofs.lemmas.Option.{same_Some, none-some, slice_get_within}
use Rattle.vw_design.specs.declared.design.Design.{Design}
use Rattle.vw_design.specs.declared.item.Item.{Item}
use Rattle.vw_design.specs.declared.model.Model.{Model}
use Rattle.vw_design.specs.Counts.{placed_one, cell_one, items_weight, model_weight}
use Rattle.vw_design.specs.Paths.{Word, Path, model_at, items_of}
use Rattle.vw_design.specs.PathValue.{item_at, place_of_site}
use Rattle.vw_design.specs.Preorder.{instances, sites}
use Rattle.vw_design.proofs.ListPlaces.{at_within}
use Rattle.vw_drivers.specs.declared.claim.RepeatedClaim.{RepeatedClaim}
use Rattle.vw_drivers.specs.declared.model_claims.ModelClaims.{ModelClaims}
use Rattle.vw_drivers.specs.Claimed.{IsRepeatedClaim}
use Rattle.vw_instances.specs.declared.sizes.Before.{Before}
use Rattle.vw_instances.specs.declared.tables.ListedInstance.{ListedInstance}
use Rattle.vw_instances.specs.Tables.{IsEntryAt}
use Rattle.vw_drivers.specs.declared.tables.Tables.{Tables}
use Rattle.vw_drivers.specs.Tables.{AreDesignTables}
use Rattle.vw_net_faults.specs.Steps.SecondClaims.{again_by, position_by, IsClaimedAt, AreFrom, AreNone}

-- more items weigh no less
module _ (weight : Item → ℕ) (below : Word → ℕ) where
  nothing : (n : ℕ) → items_weight weight below (take n []) ≡ 0
  nothing zero = refl
  nothing (suc n) = refl

  heavier : (items : List Item) (n k : ℕ) → n ≤ k → items_weight weight below (take n items) ≤ items_weight weight below (take k items)
  heavier [] n k more = omega (arith, nothing n, nothing k)
  heavier (item ∷ items) zero k more = omega arith
  heavier (item ∷ items) (suc n) zero more = absurd (omega arith)
  heavier (item ∷ items) (suc n) (suc k) more = omega (arith, heavier items n k (omega arith))

module _ (design : Design) (path : Path) where
  abbrev pub weight : (Item → ℕ) → ℕ → ℕ
  weight one place = items_weight one (model_weight design one (64 + length design.models - length path)) (take place (items_of (model_at design path)))

  abbrev pub weights : ℕ → ℕ
  weights place = weight cell_one place + weight placed_one place

  weights_rise : (n k : ℕ) → n ≤ k → weights n ≤ weights k
  weights_rise n k more =
      let cells = heavier cell_one (model_weight design cell_one (64 + length design.models - length path)) (items_of (model_at design path)) n k more in
      let placed = heavier placed_one (model_weight design placed_one (64 + length design.models - length path)) (items_of (model_at design path)) n k more in
      omega (arith, cells, placed)

  pub none_again : IsRepeatedClaim design (model_at design path) None → AreNone design path
  none_again none number position name claimed = none-some name (sym (none number claimed.item claimed.item_is) ∙ claimed.again)

  module _ (base : ℕ) (place_is : (place : ℕ) (item : Item) → item_at design path place ≡ Some item → place_of_site (sites design) path place ≡ Some (base + weights place)) where
    pub first_claimed : (again : RepeatedClaim) → IsRepeatedClaim design (model_at design path) (Some again)
        → IsClaimedAt design path again.item (base + weights again.item) again.name
    first_claimed again is = record { item = is.0.0; item_is = is.0.1; again = is.0.2; place = place_is again.item is.0.0 is.0.1 }

    pub first_least : (again : RepeatedClaim) → IsRepeatedClaim design (model_at design path) (Some again) → AreFrom design path (base + weights again.item)
    first_least again is number position name claimed = ⊎_elim
        (λ before. absurd (none-some name (sym (is.1 number claimed.item before claimed.item_is) ∙ claimed.again)))
        (λ behind.
        let same : position ≡ base + weights number = same_Some position (base + weights number) (sym claimed.place ∙ place_is number claimed.item claimed.item_is) in
        omega (arith, same, weights_rise again.item number behind))
        (cases_lt number again.item)

-- the tables of an instance
module _ (design : Design) (tables : Tables) (are : AreDesignTables design tables) (instance : ℕ) (path : Path) (listed : slice_get (instances design) instance ≡ Some path) where
  abbrev pub entry : (found : ListedInstance) × (slice_get tables.instances instance ≡ Some found) × IsEntryAt design (instances design) instance path found
  entry = are.placed.each instance path listed

  pub again_is : (again : Option RepeatedClaim) → again ≡ again_by tables instance → IsRepeatedClaim design (model_at design path) again
  again_is again is =
      let found = are.claims.each entry.0.model entry.2.model entry.2.model_is in
      let same : again ≡ found.0.again =
      is ∙ ap (option_and_then (λ (e : ListedInstance). option_and_then (λ (claims : ModelClaims). claims.again) (slice_get tables.claims e.model))) entry.1
      ∙ ap (option_and_then (λ (claims : ModelClaims). claims.again)) found.1 in
      subst (λ (again : Option RepeatedClaim). IsRepeatedClaim design (model_at design path) again) (sym same)
      (subst (λ (model : Option Model). IsRepeatedClaim design model found.0.again) (sym entry.2.stands) found.2.again)

  pub position_is : (place : ℕ) (item : Item) → item_at design path place ≡ Some item
      → position_by tables instance place ≡ Some (entry.0.cells + instance + weights design path place)
  position_is place item at =
      let found = are.before.each path entry.2.model entry.0.model entry.2.stands entry.2.model_is in
      let in_model : slice_get entry.2.model.items place ≡ Some item = sym (ap (λ (m : Option Model). slice_get (items_of m) place) entry.2.stands) ∙ at in
      let within : place < length found.0 = omega (arith, found.2, slice_get_within entry.2.model.items place item in_model) in
      let before = at_within found.0 place within in
      let weighs = found.3 place before.0 before.1 in
      let own = ap (λ (m : Option Model). items_of m) entry.2.stands in
      ap (option_and_then (λ (e : ListedInstance). option_and_then (λ (list : List Before). option_map (λ (b : Before). e.cells + instance + (b.cells + b.instances)) (slice_get list place)) (slice_get tables.before e.model))) entry.1
      ∙ ap (option_and_then (λ (list : List Before). option_map (λ (b : Before). entry.0.cells + instance + (b.cells + b.instances)) (slice_get list place))) found.1
      ∙ ap (option_map (λ (b : Before). entry.0.cells + instance + (b.cells + b.instances))) before.1
      ∙ ap₂ (λ (n k : ℕ). Some (entry.0.cells + instance + (n + k))) weighs.0 weighs.1
      ∙ ap (λ (items : List Item). Some (entry.0.cells + instance
      + (items_weight cell_one (model_weight design cell_one (64 + length design.models - length path)) (take place items)
      + items_weight placed_one (model_weight design placed_one (64 + length design.models - length path)) (take place items)))) (sym own)
