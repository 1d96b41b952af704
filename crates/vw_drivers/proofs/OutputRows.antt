-- The row of an instance has the drivers of its formals that are no ports, where later rows have theirs.
use Rattle.std.proofs.Common.{◌≡◌, ◌<◌, ◌≤◌, ℕ, List, [], ◌∷◌, map, Option, Some, None, option_map, option_and_then, slice_get, slice_set, length, ⊎_elim, refl, sym, ◌∙◌, ap, subst, arith}
use Rattle.std.proofs.lemmas.Bool.{cases_lt}
use Rattle.std.proofs.lemmas.Option.{same_Some, slice_get-map}
use Rattle.vw_design.specs.declared.model.Model.{Model}
use Rattle.vw_design.specs.declared.design.Design.{Design}
use Rattle.vw_design.specs.Accepted.{HasNoModelFault}
use Rattle.vw_design.specs.Claims.{port, first_claim}
use Rattle.vw_design.specs.Paths.{Word, Path, Placing, model_at}
use Rattle.vw_design.specs.Preorder.{instances}
use Rattle.vw_drivers.specs.declared.claim.Claim.{Claim}
use Rattle.vw_drivers.specs.declared.claim.Claim.TheVariants as claims
use Rattle.vw_drivers.specs.Claimed.{bind_at, meant}
use Rattle.vw_drivers.specs.Firsts.{number_named, claim_named}
use Rattle.vw_instances.specs.declared.tables.ListedInstance.{ListedInstance}
use Rattle.vw_drivers.specs.declared.model_names.Way.{Way}
use Rattle.vw_drivers.specs.declared.model_names.Way.TheVariants.{Output}
use Rattle.vw_drivers.specs.Names.{way_by, way_of}
use Rattle.vw_drivers.specs.declared.source.Source.{Source}
use Rattle.vw_drivers.specs.declared.tables.Tables.{Tables}
use Rattle.vw_drivers.specs.Tables.{AreDesignTables, instance_firsts}
use Rattle.vw_drivers.specs.Drivers.{at_row, at_rows, driver_by_numbers, HasOutputs}
use Rattle.vw_drivers.specs.Steps.FoundDrivers.{DriverRows, ways_of, output_led, outputs_made}
use Rattle.vw_drivers.proofs.WrittenRows.{row_set, row_not_set}
use Rattle.vw_drivers.proofs.InstanceTables.{instance_of}
use Rattle.vw_drivers.proofs.LedClaims.{some_first, named_first, led_is}
use Rattle.vw_drivers.proofs.Formals.{placing_of}

module _ (design : Design) (faultless : HasNoModelFault design) (tables : Tables) (are : AreDesignTables design tables) (number : ℕ) (outputs : DriverRows)
    (later : (other : ℕ) → number < other → HasOutputs design tables outputs other) where
  module _ (path : Path) (listed : slice_get (instances design) number ≡ Some path) (formal : Word) (no_port : first_claim design (model_at design path) formal ≡ Some port → ⊥) where
    -- the first claim is no port
    by_output : (claim : Option ℕ) → claim ≡ number_named (instance_firsts tables number) formal → output_led tables outputs number (Output claim) ≡ driver_by_numbers design tables path formal
    by_output claim is =
        led_is design faultless tables are number path listed outputs [] later formal (λ place up at here first named. absurd (no_port first)) claim is

    by_way : (claim : Option ℕ) (kind : Option Claim) (actual : Option ℕ) → claim ≡ number_named (instance_firsts tables number) formal → kind ≡ claim_named (instance_firsts tables number) formal
        → output_led tables outputs number (way_by claim kind actual) ≡ driver_by_numbers design tables path formal
    by_way None kind actual is kind_is = by_output None is
    by_way (Some at) None actual is kind_is = by_output (Some at) is
    by_way (Some at) (Some (claims.Driven item)) actual is kind_is = by_output (Some at) is
    by_way (Some at) (Some (claims.Bound place bind)) actual is kind_is = by_output (Some at) is
    by_way (Some at) (Some claims.Port) actual is kind_is =
        let here = instance_of design faultless tables are number path listed in
        let first = named_first design faultless tables are number path listed outputs [] later formal in
        let found = some_first (Some port) (first_claim design (model_at design path) formal) (ap (option_map (meant here.is.model.items)) kind_is ∙ first) in
        absurd (no_port (found.2 ∙ sym found.1))

  pub outputs_right : (entry : ListedInstance) → slice_get tables.instances number ≡ Some entry → (rows : DriverRows)
      → ((at : ℕ) → at_rows rows number at ≡ at_row (outputs_made tables outputs number entry) at) → HasOutputs design tables rows number
  outputs_right entry at_entry rows row_is = λ place path at bind listed bind_is no_port.
      let is = placing_of design faultless tables are number place path listed in
      let binds = is.placing.binds in
      let way = way_of (instance_firsts tables is.entry.parent) (instance_firsts tables number) in
      let same : entry ≡ is.entry = same_Some entry is.entry (sym at_entry ∙ is.at) in
      let bind_here : slice_get binds at ≡ Some bind =
      ap (option_and_then (λ (p : Placing). slice_get p.binds at)) (sym is.placing_is)
      ∙ ap (option_and_then (λ (m : Model). bind_at m.items place at)) (sym is.parent_stands) ∙ bind_is in
      row_is at
      ∙ ap (λ (e : ListedInstance). at_row (map (output_led tables outputs number) (ways_of tables e)) at) same
      ∙ ap (λ (list : List Way). at_row (map (output_led tables outputs number) list) at) is.ways
      ∙ ap (option_and_then (λ (found : Option Source). found))
      (slice_get-map (output_led tables outputs number) (map way binds) at
      ∙ ap (option_map (output_led tables outputs number)) (slice_get-map way binds at ∙ ap (option_map way) bind_here))
      ∙ by_way (place ∷ path) listed bind.formal no_port
      (number_named (instance_firsts tables number) bind.formal) (claim_named (instance_firsts tables number) bind.formal) (number_named (instance_firsts tables is.entry.parent) bind.actual) refl refl

-- the row is written, and the later ones stay
pub outputs_set : (design : Design) → HasNoModelFault design → (tables : Tables) → AreDesignTables design tables → (number : ℕ) (rows : DriverRows)
    → ((other : ℕ) → number < other → HasOutputs design tables rows other) → (entry : ListedInstance) → slice_get tables.instances number ≡ Some entry → number < length rows
    → (row : List (Option Source)) → row ≡ outputs_made tables rows number entry → (other : ℕ) → number ≤ other → HasOutputs design tables (slice_set rows number row) other
outputs_set design faultless tables are number rows later entry at_entry within row row_is other least =
    ⊎_elim behind (λ most. here (omega (arith, least, most))) (cases_lt number other)
  where
    behind : number < other → HasOutputs design tables (slice_set rows number row) other
    behind less = λ place path at bind listed bind_is no_port.
        row_not_set rows row number other at (omega (arith, less)) ∙ later other less place path at bind listed bind_is no_port

    here : number ≡ other → HasOutputs design tables (slice_set rows number row) other
    here same =
        subst (λ (n : ℕ). HasOutputs design tables (slice_set rows number row) n) same
        (outputs_right design faultless tables are number rows later entry at_entry (slice_set rows number row)
        (λ at. row_set rows row number at within ∙ ap (λ (r : List (Option Source)). at_row r at) row_is))
