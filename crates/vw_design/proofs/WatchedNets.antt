-- Nets that have a bit at each clock: each is one of an instance, and has a number.
use Rattle.std.proofs.Common.{◌≡◌, ◌<◌, ◌+◌, ℕ, true, false, true≢false, length, Option, Some, None, option_map, refl, sym, ap, subst, arith}
use Rattle.std.specs.Str.{bytes_eq}
use Rattle.std.proofs.lemmas.Option.{none-some, slice_get_within}
use Rattle.vw_design.specs.declared.model.Model.{Model}
use Rattle.vw_design.specs.declared.design.Design.{Design}
use Rattle.vw_design.specs.Distinct.{has_name}
use Rattle.vw_design.specs.Paths.{Word, Path, model_at}
use Rattle.vw_design.specs.Claims.{first_claim}
use Rattle.vw_design.specs.Drivers.{Source, at_port, at_cell, turn_by, follow_turn, source_after, driver}
use Rattle.vw_design.specs.Preorder.{cells}
use Rattle.vw_design.specs.Clocks.{columns}
use Rattle.vw_design.specs.Probes.{has_bit}
use Rattle.vw_design.specs.Flattened.{number_of_source, number_of}
use Rattle.vw_design.specs.Accepted.{IsAccepted}
use Rattle.vw_design.proofs.ListElements.{Has, some-place, at-place, Has-at}
use Rattle.vw_design.proofs.Names.{Has-has_name, name_same, has_name-Has, same_name}
use Rattle.vw_design.proofs.DriverNumbers.{IsPossibleSource, driver_is, cell_place}
use Rattle.vw_design.proofs.FlatValues.{place_within, site_of_place}

module _ (design : Design) where
  -- a driver with a number gives a bit
  numbered_bit : (source : Option Source) (number : ℕ) → number_of_source design source ≡ Some number → has_bit design source ≡ true
  numbered_bit None number is = absurd (none-some number is)
  numbered_bit (Some (at_port name)) number is =
      let at = at-place (λ (other : Word). bytes_eq other name) (columns design) number is in
      has_name-Has (columns design) name (subst (λ (n : Word). Has n (columns design)) (same_name at.0 name at.2) (Has-at at.0 (columns design) number at.1))
  numbered_bit (Some (at_cell path item)) number is = refl

  pub bit_of_number : (path : Path) (name : Word) (number : ℕ) → number_of design path name ≡ Some number → has_bit design (driver design path name) ≡ true
  bit_of_number path name number is = numbered_bit (driver design path name) number is

  -- a net that has a driver is one of an instance
  pub bit_of_instance : (path : Path) (name : Word) → has_bit design (driver design path name) ≡ true → (model : Model) × (model_at design path ≡ Some model)
  unfolding driver
  bit_of_instance path name bit = by (model_at design path) refl bit where
    by : (found : Option Model) → model_at design path ≡ found
        → has_bit design (follow_turn (source_after design 127) (turn_by design path name (first_claim design found name))) ≡ true
        → (model : Model) × (model_at design path ≡ Some model)
    by None is bit = absurd (true≢false (sym bit))
    by (Some model) is bit = (model, is)

  module _ (accepted : IsAccepted design) where
    -- a driver that gives a bit has a number
    numbered_source : (source : Source) → IsPossibleSource design source → has_bit design (Some source) ≡ true
        → (number : ℕ) × (number_of_source design (Some source) ≡ Some number) × (number < length (columns design) + length (cells design))
    numbered_source (at_port name) is bit =
        let place = some-place (λ (other : Word). bytes_eq other name) name (columns design) (Has-has_name (columns design) name bit) (name_same name) in
        (place.0, place.1, omega (arith, place_within (columns design) name place.0 place.1))
    numbered_source (at_cell path item) is bit =
        let place = cell_place design accepted.models path item is.0 is.1 is.2 in
        let site = site_of_place (cells design) path item place.0 place.1 in
        (length (columns design) + place.0, ap (option_map (λ (at : ℕ). length (columns design) + at)) place.1, omega (arith, slice_get_within (cells design) place.0 site.0 site.1))

    pub number_of_bit : (path : Path) (name : Word) → has_bit design (driver design path name) ≡ true
        → (number : ℕ) × (number_of design path name ≡ Some number) × (number < length (columns design) + length (cells design))
    number_of_bit path name bit = by (driver design path name) refl bit where
      by : (source : Option Source) → driver design path name ≡ source → has_bit design source ≡ true
          → (number : ℕ) × (number_of_source design source ≡ Some number) × (number < length (columns design) + length (cells design))
      by None is bit = absurd (true≢false (sym bit))
      by (Some source) is bit = numbered_source source (driver_is design path name source is) bit
