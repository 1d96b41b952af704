-- What a claim leads to is the driver of the nets that have it as first claim.
use Rattle.std.proofs.Common.{◌≡◌, ◌<◌, ◌==◌, ℕ, zero, suc, Bool, List, [], ◌∷◌, Option, Some, None, option_map, option_and_then, slice_get, if◌then◌else◌, refl, sym, ◌∙◌, ap, arith}
use Rattle.std.proofs.lemmas.Bool.{eq-eqb, ne_eqb}
use Rattle.std.proofs.lemmas.Option.{none-some, same_Some}
use Rattle.vw_design.specs.declared.item.Bind.{Bind}
use Rattle.vw_design.specs.declared.item.Item.{Item}
use Rattle.vw_design.specs.declared.model.Model.{Model}
use Rattle.vw_design.specs.declared.design.Design.{Design}
use Rattle.vw_design.specs.Accepted.{HasNoModelFault}
use Rattle.vw_design.specs.Claims.{Claim as NamedClaim, port, driven, bound, first_claim}
use Rattle.vw_design.specs.Drivers.{turn_by, follow_turn, driver}
use Rattle.vw_design.specs.Paths.{Word, Path, Placing, placings, placing_at, model_at}
use Rattle.vw_design.specs.Preorder.{Site, instances}
use Rattle.vw_design.specs.Limits.{weight_of}
use Rattle.vw_design.specs.Counts.{placed_one}
use Rattle.vw_design.proofs.ModelNumbers.{one_number}
use Rattle.vw_design.proofs.ShallowDesigns.{faultless_shallow, faultless_one_way}
use Rattle.vw_design.proofs.TurnsEnd.{claim_of_model as claim_of, no_port, driver-turn}
use Rattle.vw_drivers.specs.declared.claim.Claim.{Claim}
use Rattle.vw_drivers.specs.declared.claim.Claim.TheVariants as claims
use Rattle.vw_drivers.specs.Claimed.{bind_at, meant}
use Rattle.vw_drivers.specs.Firsts.{First, number_named, claim_at, claim_named}
use Rattle.vw_instances.specs.declared.tables.ListedInstance.{ListedInstance}
use Rattle.vw_instances.specs.Tables.{IsPlacedBy, IsJustBehind}
use Rattle.vw_drivers.specs.Names.{firsts_of}
use Rattle.vw_drivers.specs.declared.source.Source.TheVariants.{Port}
use Rattle.vw_drivers.specs.declared.tables.Tables.{Tables}
use Rattle.vw_drivers.specs.Sources.{source_of}
use Rattle.vw_drivers.specs.Tables.{AreDesignTables, root_firsts, instance_firsts}
use Rattle.vw_drivers.specs.Drivers.{at_rows, driver_by_numbers, HasOutputs}
use Rattle.vw_drivers.specs.Steps.FoundDrivers.{DriverRows, child_of, led_by, led_at, led}
use Rattle.vw_drivers.proofs.InstanceTables.{HasInstance, instance_of, cell_is, child_is}

-- the first claim by numbers and that of the design
none_first : (first : Option NamedClaim) → None ≡ option_map (λ claim. Some claim) first → first ≡ None
none_first None is = refl
none_first (Some claim) is = absurd (none-some (Some claim) is)

pub some_first : (found first : Option NamedClaim) → Some found ≡ option_map (λ claim. Some claim) first → (claim : NamedClaim) × (found ≡ Some claim) × (first ≡ Some claim)
some_first found None is = absurd (none-some found (sym is))
some_first found (Some claim) is = (claim, same_Some found (Some claim) is, refl)

-- the binding of a claim
record IsBinding (items : List Item) (place number : ℕ) (claim : NamedClaim) : Type 0 where
  before : ℕ
  placing : Placing
  bind : Bind
  place_is : place ≡ suc before
  placing_is : slice_get (placings items) before ≡ Some placing
  bind_is : slice_get placing.binds number ≡ Some bind
  claim_is : bound place bind.formal ≡ claim

binding_of : (items : List Item) (place number : ℕ) (claim : NamedClaim) → option_map (λ bind. bound place bind.formal) (bind_at items place number) ≡ Some claim
    → IsBinding items place number claim
binding_of items zero number claim is = absurd (none-some claim is)
binding_of items (suc before) number claim is = by (slice_get (placings items) before) refl is where
  by_bind : (placing : Placing) → slice_get (placings items) before ≡ Some placing → (found : Option Bind) → slice_get placing.binds number ≡ found
      → option_map (λ bind. bound (suc before) bind.formal) found ≡ Some claim → IsBinding items (suc before) number claim
  by_bind placing placing_is None bind_is gives = absurd (none-some claim gives)
  by_bind placing placing_is (Some bind) bind_is gives = record {
    before = before;
    placing = placing;
    bind = bind;
    place_is = refl;
    placing_is = placing_is;
    bind_is = bind_is;
    claim_is = same_Some (bound (suc before) bind.formal) claim gives;
  }

  by : (found : Option Placing) → slice_get (placings items) before ≡ found
      → option_map (λ bind. bound (suc before) bind.formal) (option_and_then (λ placing. slice_get placing.binds number) found) ≡ Some claim → IsBinding items (suc before) number claim
  by None placing_is gives = absurd (none-some claim gives)
  by (Some placing) placing_is gives = by_bind placing placing_is (slice_get placing.binds number) refl gives

-- the number of the root is 0, and that of no other instance
root_number : (path : Path) (number : ℕ) (before : List Site) → path ≡ [] → IsJustBehind path before → number ≡ weight_of placed_one before → number ≡ 0
root_number [] number before is none weight = weight ∙ ap (weight_of placed_one) none
root_number (place ∷ path) number before is none weight = cc

later_number : (listed : List Path) (number place : ℕ) (up path : Path) (entry : ListedInstance) → path ≡ place ∷ up → IsPlacedBy listed number path entry.parent entry.place → number ≡ 0 → ⊥
later_number listed number place up [] entry is by zero_is = cc
later_number listed number place up (at ∷ path) entry is by zero_is = omega (arith, by.2, zero_is)

module _ (design : Design) (faultless : HasNoModelFault design) (tables : Tables) (are : AreDesignTables design tables) where
  -- one turn from a net
  pub turned : (path : Path) (name : Word) (claim : Option NamedClaim) → first_claim design (model_at design path) name ≡ claim
      → driver design path name ≡ follow_turn (driver design) (turn_by design path name claim)
  turned path name claim is =
      driver-turn design (faultless_shallow design faultless) (faultless_one_way design faultless) path name
      ∙ ap (λ (c : Option NamedClaim). follow_turn (driver design) (turn_by design path name c)) is

  module _ (number : ℕ) (path : Path) (listed : slice_get (instances design) number ≡ Some path) (outputs ports : DriverRows)
      (later : (other : ℕ) → number < other → HasOutputs design tables outputs other) where
    abbrev here : HasInstance design tables number path
    here = instance_of design faultless tables are number path listed

    -- the rows of ports have the port of a name, where the instance isn't the root
    abbrev pub PortIs : Word → Type 0
    PortIs name = (place : ℕ) (up : Path) (claim : ℕ) → path ≡ place ∷ up → first_claim design (model_at design path) name ≡ Some port
        → number_named (instance_firsts tables number) name ≡ Some claim → at_rows ports number claim ≡ driver_by_numbers design tables path name

    module _ (name : Word) where
      -- the root's own ports
      port_root : (claim : ℕ) → number_named (instance_firsts tables number) name ≡ Some claim → path ≡ [] → first_claim design (model_at design path) name ≡ Some port
          → driver_by_numbers design tables path name ≡ Some (Port claim)
      port_root claim named root first =
          let at_root = λ (p : Path). driver_by_numbers design tables p name in
          let same : here.entry.model ≡ 0 = one_number design here.entry.model 0 here.is.model here.is.model_is (sym (ap (model_at design) root) ∙ here.is.stands) in
          let firsts : instance_firsts tables number ≡ root_firsts tables = here.own_firsts ∙ ap (λ (n : ℕ). firsts_of tables.claims (Some n)) same in
          ap at_root root
          ∙ ap (source_of design (root_firsts tables)) (turned [] name (Some port) (ap (λ (p : Path). first_claim design (model_at design p) name) (sym root) ∙ first))
          ∙ ap (λ (f : List First). option_map (λ (n : ℕ). Port n) (number_named f name)) (sym firsts)
          ∙ ap (option_map (λ (n : ℕ). Port n)) named

      by_port : PortIs name → (claim : ℕ) → number_named (instance_firsts tables number) name ≡ Some claim → first_claim design (model_at design path) name ≡ Some port
          → (p : Path) → path ≡ p → (if number == 0 then Some (Port claim) else at_rows ports number claim) ≡ driver_by_numbers design tables path name
      by_port right claim named first [] is =
          let root = root_number path number here.is.at.before is here.is.at.just_behind here.is.at.number_is in
          ap (λ (b : Bool). if b then Some (Port claim) else at_rows ports number claim) (eq-eqb number 0 root) ∙ sym (port_root claim named is first)
      by_port right claim named first (place ∷ up) is =
          ap (λ (b : Bool). if b then Some (Port claim) else at_rows ports number claim)
          (ne_eqb number 0 (later_number (instances design) number place up path here.entry is here.is.by))
          ∙ right place up claim is first named

      by_driven : (item : ℕ) → first_claim design (model_at design path) name ≡ Some (driven item) → (claim : ℕ)
          → led_by tables outputs ports number here.entry claim (Some (claims.Driven item)) ≡ driver_by_numbers design tables path name
      by_driven item first claim =
          let of_model = claim_of design name (driven item) (model_at design path) first in
          let same : of_model.0 ≡ here.is.model = same_Some of_model.0 here.is.model (sym of_model.1 ∙ here.is.stands) in
          let at : slice_get here.is.model.items item ≡ Some of_model.2.0 = ap (λ (m : Model). slice_get m.items item) (sym same) ∙ of_model.2.1 in
          cell_is design faultless tables are number path listed here item of_model.2.0 at of_model.2.2
          ∙ ap (source_of design (root_firsts tables)) (sym (turned path name (Some (driven item)) first))

      by_bound : (place bind : ℕ) (named : NamedClaim) → option_map (λ b. bound place b.formal) (bind_at here.is.model.items place bind) ≡ Some named
          → first_claim design (model_at design path) name ≡ Some named → (claim : ℕ)
          → led_by tables outputs ports number here.entry claim (Some (claims.Bound place bind)) ≡ driver_by_numbers design tables path name
      by_bound place bind named meant_is first claim =
          let is = binding_of here.is.model.items place bind named meant_is in
          let formal = is.bind.formal in
          let first_bound : first_claim design (model_at design path) name ≡ Some (bound place formal) = first ∙ ap (λ (c : NamedClaim). Some c) (sym is.claim_is) in
          let child = child_is design faultless tables are number path listed here is.before is.placing is.placing_is in
          let child_listed : slice_get (instances design) child.child ≡ Some (place ∷ path) = child.child_listed ∙ ap (λ (n : ℕ). Some (n ∷ path)) (sym is.place_is) in
          let at_place : placing_at here.is.model.items place ≡ Some is.placing = ap (placing_at here.is.model.items) is.place_is ∙ is.placing_is in
          let bind_is : option_and_then (λ model. bind_at model.items place bind) (model_at design path) ≡ Some is.bind =
          ap (option_and_then (λ (m : Model). bind_at m.items place bind)) here.is.stands
          ∙ ap (option_and_then (λ (p : Placing). slice_get p.binds bind)) at_place ∙ is.bind_is in
          ap (λ (p : ℕ). option_and_then (λ (c : ℕ). at_rows outputs c bind) (child_of tables number here.entry p)) is.place_is
          ∙ ap (option_and_then (λ (c : ℕ). at_rows outputs c bind)) child.is
          ∙ later child.child child.later place path bind is.bind child_listed bind_is
          (no_port design (faultless_one_way design faultless) place path name formal first_bound)
          ∙ ap (source_of design (root_firsts tables)) (sym (turned path name (Some (bound place formal)) first_bound))

      by_claim : PortIs name → (claim : ℕ) → number_named (instance_firsts tables number) name ≡ Some claim → (found : Option Claim)
          → option_map (meant here.is.model.items) found ≡ option_map (λ c. Some c) (first_claim design (model_at design path) name)
          → led_by tables outputs ports number here.entry claim found ≡ driver_by_numbers design tables path name
      by_claim right claim named None is =
          ap (source_of design (root_firsts tables)) (sym (turned path name None (none_first (first_claim design (model_at design path) name) is)))
      by_claim right claim named (Some claims.Port) is =
          let found = some_first (Some port) (first_claim design (model_at design path) name) is in
          by_port right claim named (found.2 ∙ sym found.1) path refl
      by_claim right claim named (Some (claims.Driven item)) is =
          let found = some_first (Some (driven item)) (first_claim design (model_at design path) name) is in
          by_driven item (found.2 ∙ sym found.1) claim
      by_claim right claim named (Some (claims.Bound place bind)) is =
          let found = some_first (meant here.is.model.items (claims.Bound place bind)) (first_claim design (model_at design path) name) is in
          by_bound place bind found.0 found.1 found.2 claim

      -- the first claim by numbers is the design's
      pub named_first : option_map (meant here.is.model.items) (claim_named (instance_firsts tables number) name) ≡ option_map (λ c. Some c) (first_claim design (model_at design path) name)
      named_first =
          ap (λ (f : List First). option_map (meant here.is.model.items) (claim_named f name)) (here.own_firsts ∙ here.firsts_are)
          ∙ here.claims_are.firsts name
          ∙ ap (λ (m : Option Model). option_map (λ (c : NamedClaim). Some c) (first_claim design m name)) (sym here.is.stands)

      by_number : PortIs name → (claim : Option ℕ) → claim ≡ number_named (instance_firsts tables number) name
          → led tables outputs ports number claim ≡ driver_by_numbers design tables path name
      by_number right None named =
          let none : option_map (meant here.is.model.items) (claim_named (instance_firsts tables number) name) ≡ None =
          ap (λ (n : Option ℕ). option_map (meant here.is.model.items) (option_and_then (claim_at (instance_firsts tables number)) n)) (sym named) in
          ap (source_of design (root_firsts tables)) (sym (turned path name None (none_first (first_claim design (model_at design path) name) (sym none ∙ named_first))))
      by_number right (Some claim) named =
          let found : claim_named (instance_firsts tables number) name ≡ claim_at (firsts_of tables.claims (Some here.entry.model)) claim =
          ap (option_and_then (claim_at (instance_firsts tables number))) (sym named) ∙ ap (λ (f : List First). claim_at f claim) here.own_firsts in
          ap (option_and_then (led_at tables outputs ports number claim)) here.at
          ∙ by_claim right claim (sym named) (claim_at (firsts_of tables.claims (Some here.entry.model)) claim)
          (ap (option_map (meant here.is.model.items)) (sym found) ∙ named_first)

      pub led_is : PortIs name → (claim : Option ℕ) → claim ≡ number_named (instance_firsts tables number) name
          → led tables outputs ports number claim ≡ driver_by_numbers design tables path name
      led_is = by_number
