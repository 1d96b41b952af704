-- The row of an instance has the drivers of its ports, where the rows of outputs and earlier rows of ports have theirs.
use Rattle.std.proofs.Common.{◌≡◌, ◌<◌, ◌+◌, ℕ, true, List, [], ◌∷◌, map, Option, Some, None, option_map, option_and_then, slice_get, refl, sym, ◌∙◌, ap, ap₂, subst, length, ◌++◌, ⊎_elim, arith}
use Rattle.std.proofs.lemmas.Bool.{cases_lt}
use Rattle.std.proofs.lemmas.Option.{same_Some, none-some}
use Rattle.vw_design.specs.declared.item.Bind.{Bind}
use Rattle.vw_design.specs.declared.item.Item.{Item}
use Rattle.vw_design.specs.declared.model.Model.{Model}
use Rattle.vw_design.specs.declared.design.Design.{Design}
use Rattle.vw_design.specs.Accepted.{HasNoModelFault}
use Rattle.vw_design.specs.Claims.{Claim as NamedClaim, port, bound, first_claim}
use Rattle.vw_design.specs.Drivers.{actual_of, actual_among, turn_up, follow_turn, driver}
use Rattle.vw_design.specs.Paths.{Word, Path, Placing, model_at, placing_at, is_port}
use Rattle.vw_design.specs.Preorder.{instances}
use Rattle.vw_design.proofs.ListElements.{Has, Has-map, from-map}
use Rattle.vw_design.proofs.TurnsEnd.{claim_of_model as claim_of}
use Rattle.vw_drivers.specs.declared.claim.Claim.{Claim}
use Rattle.vw_drivers.specs.declared.claim.Claim.TheVariants as claims
use Rattle.vw_drivers.specs.Claimed.{bind_at, meant}
use Rattle.vw_drivers.specs.Firsts.{number_named, claim_named}
use Rattle.vw_instances.specs.declared.tables.ListedInstance.{ListedInstance}
use Rattle.vw_drivers.specs.declared.model_names.Way.{Way}
use Rattle.vw_drivers.specs.declared.model_names.Way.TheVariants as ways
use Rattle.vw_drivers.specs.Names.{way_by, way_of}
use Rattle.vw_drivers.specs.declared.source.Source.{Source}
use Rattle.vw_drivers.specs.declared.tables.Tables.{Tables}
use Rattle.vw_drivers.specs.Sources.{source_of}
use Rattle.vw_drivers.specs.Tables.{AreDesignTables, root_firsts, instance_firsts}
use Rattle.vw_drivers.specs.Drivers.{at_row, at_rows, driver_by_numbers, HasOutputs, HasPorts}
use Rattle.vw_drivers.specs.Steps.FoundDrivers.{DriverRows, led, with_ways, ports_made}
use Rattle.vw_drivers.proofs.WrittenRows.{found, row_before, row_last}
use Rattle.vw_drivers.proofs.InstanceTables.{instance_of}
use Rattle.vw_drivers.proofs.LedClaims.{PortIs, turned, named_first, led_is}
use Rattle.vw_design.proofs.ClaimedDrivers.{actual_is}
use Rattle.vw_drivers.proofs.Formals.{IsPlacing, placing_of, bound_port}
use Rattle.vw_drivers.proofs.ClaimLookups.{one_name}

-- a way to a port, by its number
port_way : (number : Option ℕ) (kind : Option Claim) (actual : Option ℕ) (to : ℕ) (other : Option ℕ) → way_by number kind actual ≡ ways.Port to other → (number ≡ Some to) × (actual ≡ other)
port_way None kind actual to other is = cc
port_way (Some at) None actual to other is = cc
port_way (Some at) (Some (claims.Driven item)) actual to other is = cc
port_way (Some at) (Some (claims.Bound place bind)) actual to other is = cc
port_way (Some at) (Some claims.Port) actual to other is = (cc, cc)

-- a claim by numbers that means a port is one
pub meant_port : (items : List Item) (claim : Option Claim) → option_map (meant items) claim ≡ Some (Some port) → claim ≡ Some claims.Port
meant_port items None is = absurd (none-some (Some port) is)
meant_port items (Some claims.Port) is = refl
meant_port items (Some (claims.Driven item)) is = cc
meant_port items (Some (claims.Bound place number)) is = by (bind_at items place number) (same_Some (meant items (claims.Bound place number)) (Some port) is) where
  by : (bind : Option Bind) → option_map (λ (b : Bind). bound place b.formal) bind ≡ Some port → Some (claims.Bound place number) ≡ Some claims.Port
  by None means = absurd (none-some port means)
  by (Some bind) means = cc

module _ (design : Design) (faultless : HasNoModelFault design) (tables : Tables) (are : AreDesignTables design tables) (outputs ports : DriverRows)
    (outputs_are : (other : ℕ) → HasOutputs design tables outputs other) where
  -- the rows of ports of an instance
  pub port_is : (number : ℕ) (path : Path) (listed : slice_get (instances design) number ≡ Some path) → HasPorts design tables ports number → (name : Word)
      → PortIs design faultless tables are number path listed outputs ports (λ other less. outputs_are other) name
  port_is number path listed have name = λ place up claim is first named.
      subst (λ (p : Path). first_claim design (model_at design p) name ≡ Some port → at_rows ports number claim ≡ driver_by_numbers design tables p name) (sym is)
      (λ f. have place up name claim (listed ∙ ap (λ (p : Path). Some p) is) f named) first

  module _ (number : ℕ) (earlier : (other : ℕ) → other < number → HasPorts design tables ports other) (place : ℕ) (path : Path)
      (listed : slice_get (instances design) number ≡ Some (place ∷ path)) (is : IsPlacing design tables number place path)
      (name : Word) (claim : ℕ) (named : number_named (instance_firsts tables number) name ≡ Some claim)
      (first : first_claim design (model_at design (place ∷ path)) name ≡ Some port) where
    abbrev way_of_bind : Bind → Way
    way_of_bind = way_of (instance_firsts tables is.entry.parent) (instance_firsts tables number)

    -- the actual of the port has the driver of the port
    bind_leads : (bind : Bind) → Has bind is.placing.binds → bind.formal ≡ name
        → led tables outputs ports is.entry.parent (number_named (instance_firsts tables is.entry.parent) bind.actual) ≡ driver_by_numbers design tables (place ∷ path) name
    bind_leads bind has formal =
        let actual : actual_of design place path name ≡ Some bind.actual =
        ap (option_and_then (λ (m : Model). option_and_then (λ (p : Placing). actual_among p.binds name) (placing_at m.items place))) is.parent_stands
        ∙ ap (option_and_then (λ (p : Placing). actual_among p.binds name)) is.placing_is
        ∙ actual_is is.placing.binds bind name is.distinct has formal in
        let up : driver design (place ∷ path) name ≡ driver design path bind.actual =
        turned design faultless tables are (place ∷ path) name (Some port) first
        ∙ ap (λ (a : Option Word). follow_turn (driver design) (turn_up path a)) actual in
        led_is design faultless tables are is.entry.parent path is.parent_listed outputs ports (λ other less. outputs_are other) bind.actual
        (port_is is.entry.parent path is.parent_listed (earlier is.entry.parent is.parent_before) bind.actual)
        (number_named (instance_firsts tables is.entry.parent) bind.actual) refl
        ∙ ap (source_of design (root_firsts tables)) (sym up)

    -- each way to the port leads there
    way_leads : (actual : Option ℕ) → Has (ways.Port claim actual) (map way_of_bind is.placing.binds) → led tables outputs ports is.entry.parent actual ≡ driver_by_numbers design tables (place ∷ path) name
    way_leads actual has =
        let bind = from-map way_of_bind (ways.Port claim actual) is.placing.binds has in
        let to = port_way (number_named (instance_firsts tables number) bind.0.formal) (claim_named (instance_firsts tables number) bind.0.formal)
        (number_named (instance_firsts tables is.entry.parent) bind.0.actual) claim actual bind.2 in
        ap (led tables outputs ports is.entry.parent) (sym to.1)
        ∙ bind_leads bind.0 bind.1 (one_name (instance_firsts tables number) bind.0.formal name claim to.0 named)

    -- and there is one
    some_way : (actual : Option ℕ) × Has (ways.Port claim actual) (map way_of_bind is.placing.binds)
    some_way =
        let here = instance_of design faultless tables are number (place ∷ path) listed in
        let of_model = claim_of design name port (model_at design (place ∷ path)) first in
        let is_port_here : is_port is.model name ≡ true = ap (λ (m : Model). is_port m name) (same_Some is.model of_model.0 (sym is.stands ∙ of_model.1)) ∙ of_model.2 in
        let bind = bound_port design faultless tables are number place path is name is_port_here in
        let formal = bind.0.formal in
        let actual = number_named (instance_firsts tables is.entry.parent) bind.0.actual in
        let kind : claim_named (instance_firsts tables number) name ≡ Some claims.Port =
        meant_port here.is.model.items (claim_named (instance_firsts tables number) name)
        (named_first design faultless tables are number (place ∷ path) listed outputs ports (λ other less. outputs_are other) name ∙ ap (option_map (λ (c : NamedClaim). Some c)) first) in
        let to : way_of_bind bind.0 ≡ ways.Port claim actual =
        ap₂ (λ (n : Option ℕ) (k : Option Claim). way_by n k actual)
        (ap (number_named (instance_firsts tables number)) bind.2 ∙ named) (ap (claim_named (instance_firsts tables number)) bind.2 ∙ kind) in
        (actual, subst (λ (w : Way). Has w (map way_of_bind is.placing.binds)) to (Has-map way_of_bind bind.0 is.placing.binds bind.1))

  pub ports_right : (number : ℕ) → ((other : ℕ) → other < number → HasPorts design tables ports other) → (entry : ListedInstance) → slice_get tables.instances number ≡ Some entry → (rows : DriverRows)
      → ((at : ℕ) → at_rows rows number at ≡ at_row (ports_made tables outputs ports entry) at) → HasPorts design tables rows number
  ports_right number earlier entry at_entry rows row_is = λ place path name claim listed first named.
      let is = placing_of design faultless tables are number place path listed in
      let some = some_way number earlier place path listed is name claim named first in
      let binds = map (way_of (instance_firsts tables is.entry.parent) (instance_firsts tables number)) is.placing.binds in
      row_is claim
      ∙ ap (λ (e : ListedInstance). at_row (ports_made tables outputs ports e) claim) (same_Some entry is.entry (sym at_entry ∙ is.at))
      ∙ ap (λ (list : List Way). at_row (with_ways tables outputs ports is.entry.parent list []) claim) is.ways
      ∙ found tables outputs ports is.entry.parent claim (driver_by_numbers design tables (place ∷ path) name) binds [] some.0
      (way_leads number earlier place path listed is name claim named first) some.1

  -- one row more
  pub ports_more : (number : ℕ) → number ≡ length ports → ((other : ℕ) → other < number → HasPorts design tables ports other) → (entry : ListedInstance) → slice_get tables.instances number ≡ Some entry
      → (row : List (Option Source)) → row ≡ ports_made tables outputs ports entry → (rows : DriverRows) → rows ≡ ports ++ row ∷ [] → (other : ℕ) → other < number + 1 → HasPorts design tables rows other
  ports_more number long earlier entry at_entry row row_is rows rows_are other within =
      subst (λ (r : DriverRows). HasPorts design tables r other) (sym rows_are)
      (⊎_elim before (λ least. last (omega (arith, within, least))) (cases_lt other number))
    where
      before : other < number → HasPorts design tables (ports ++ row ∷ []) other
      before less = λ place path name claim listed first named.
          row_before ports row other claim (omega (arith, less, long)) ∙ earlier other less place path name claim listed first named

      last : number ≡ other → HasPorts design tables (ports ++ row ∷ []) other
      last same =
          subst (λ (n : ℕ). HasPorts design tables (ports ++ row ∷ []) n) same
          (ports_right number earlier entry at_entry (ports ++ row ∷ [])
          (λ at. row_last ports row number at (sym long) ∙ ap (λ (r : List (Option Source)). at_row r at) row_is))
