-- A driver has numbers, so that there is an answer exactly where there is a driver.
use Rattle.std.proofs.Common.{◌≡◌, ℕ, Bool, true, List, [], ◌∷◌, ◌++◌, flat_map, if◌then◌else◌, Option, Some, None, is_none, slice_get, option_map, option_and_then, refl, ◌∙◌, ap}
use Rattle.std.specs.Option.{unwrap_or}
use Rattle.std.proofs.lemmas.Option.{none-some}
use Rattle.vw_design.specs.declared.model.Model.{Model}
use Rattle.vw_design.specs.declared.design.Design.{Design}
use Rattle.vw_design.specs.Accepted.{HasNoModelFault}
use Rattle.vw_design.specs.Claims.{Numbered, numbered, Claim as NamedClaim, port, item_claims, first_claim}
use Rattle.vw_design.specs.Drivers.{Source as PathSource, at_port, at_cell, driver}
use Rattle.vw_design.specs.Paths.{Word, Path, model_at, is_port}
use Rattle.vw_design.specs.Preorder.{instances}
use Rattle.vw_design.proofs.DriverNumbers.{IsPossibleSource, driver_is, cell_place}
use Rattle.vw_drivers.specs.declared.claim.Claim.{Claim}
use Rattle.vw_drivers.specs.declared.claim.Claim.TheVariants.{Port as ClaimedPort}
use Rattle.vw_drivers.specs.declared.model_claims.ModelClaims.{ModelClaims}
use Rattle.vw_drivers.specs.Firsts.{First, number_named, claim_at, claim_named}
use Rattle.vw_drivers.specs.declared.drivers.Drivers.{Drivers}
use Rattle.vw_drivers.specs.declared.source.Source.{Source}
use Rattle.vw_drivers.specs.declared.source.Source.TheVariants.{Port, Cell}
use Rattle.vw_drivers.specs.declared.tables.Tables.{Tables}
use Rattle.vw_drivers.specs.Sources.{source_of}
use Rattle.vw_drivers.specs.Tables.{AreDesignTables, root_firsts, instance_firsts}
use Rattle.vw_drivers.specs.Drivers.{driver_by_numbers, IsSource, AreDrivers}
use Rattle.vw_drivers.specs.Steps.FoundDrivers.{led}
use Rattle.vw_drivers.proofs.LedClaims.{led_is}
use Rattle.vw_drivers.proofs.PortRows.{meant_port, port_is}

-- a name with a claim has a number
numbered_claim : (firsts : List First) (name : Word) (claim : Claim) → claim_named firsts name ≡ Some claim → (number : ℕ) × (number_named firsts name ≡ Some number)
numbered_claim firsts name claim is = by (number_named firsts name) refl is where
  by : (found : Option ℕ) → number_named firsts name ≡ found → option_and_then (claim_at firsts) found ≡ Some claim → (number : ℕ) × (number_named firsts name ≡ Some number)
  by None found none = absurd (none-some claim none)
  by (Some number) found some = (number, found)

module _ (design : Design) (faultless : HasNoModelFault design) (tables : Tables) (are : AreDesignTables design tables) where
  -- a port of the root is claimed
  pub port_number : (name : Word) (root : Model) → model_at design [] ≡ Some root → is_port root name ≡ true → (number : ℕ) × (number_named (root_firsts tables) name ≡ Some number)
  port_number name root stands is =
      let claims = are.claims.each 0 root stands in
      let first : first_claim design (Some root) name ≡ Some port =
      ap (λ (b : Bool). slice_get ((if b then port ∷ [] else []) ++ flat_map (λ (entry : Numbered). item_claims design name entry.number entry.before entry.item) (numbered 0 0 root.items)) 0) is in
      let kind : claim_named claims.0.firsts name ≡ Some ClaimedPort =
      meant_port root.items (claim_named claims.0.firsts name) (claims.2.firsts name ∙ ap (option_map (λ (c : NamedClaim). Some c)) first) in
      let named = numbered_claim claims.0.firsts name ClaimedPort kind in
      (named.0, ap (λ (c : Option ModelClaims). number_named (unwrap_or (option_map (λ (f : ModelClaims). f.firsts) c) []) name) claims.1 ∙ named.1)

  has_numbers : (source : PathSource) → IsPossibleSource design source → is_none (source_of design (root_firsts tables) (Some source)) ≡ is_none (Some source)
  has_numbers (at_port name) is = ap (λ (n : Option ℕ). is_none (option_map (λ (k : ℕ). Port k) n)) (port_number name is.0 is.1 is.2).1
  has_numbers (at_cell path item) is = ap (λ (n : Option ℕ). is_none (option_map (λ (k : ℕ). Cell k) n)) (cell_place design faultless path item is.0 is.1 is.2).1

  all_numbered : (path : Path) (name : Word) → is_none (driver_by_numbers design tables path name) ≡ is_none (driver design path name)
  all_numbered path name = by (driver design path name) refl where
    by : (found : Option PathSource) → driver design path name ≡ found → is_none (source_of design (root_firsts tables) found) ≡ is_none found
    by None is = refl
    by (Some source) is = has_numbers source (driver_is design path name source is)

  pub source_is : (drivers : Drivers) → AreDrivers design tables drivers → (instance : ℕ) (claim : Option ℕ) → IsSource design tables instance claim (led tables drivers.outputs drivers.ports instance claim)
  source_is drivers have instance claim = record {
    is = λ path name listed named. is path name listed named;
    none = λ path name listed named. ap (λ (s : Option Source). is_none s) (is path name listed named) ∙ all_numbered path name;
  } where
    is : (path : Path) (name : Word) → slice_get (instances design) instance ≡ Some path → claim ≡ number_named (instance_firsts tables instance) name
        → led tables drivers.outputs drivers.ports instance claim ≡ driver_by_numbers design tables path name
    is path name listed named =
        led_is design faultless tables are instance path listed drivers.outputs drivers.ports (λ other less. have.outputs other) name
        (port_is design faultless tables are drivers.outputs drivers.ports have.outputs instance path listed (have.ports instance) name) claim named
