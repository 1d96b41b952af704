-- What a driver is: a port of the root, or a gate or latch of an instance; and in an accepted design it has a number.
use Rattle.std.proofs.Common.{◌≡◌, ◌<◌, ◌+◌, ℕ, zero, suc, true, false, not, [], ◌∷◌, ◌++◌, length, Option, Some, None, Contains, is_none, slice_get, option_map, ⊎_elim, refl, sym, ◌∙◌, ap, subst, true≢false, eqb, flat_map, arith}
use Rattle.std.specs.Str.{bytes_eq}
use Rattle.std.proofs.lemmas.Bool.{and_from, or_cases, eq-eqb, not_from_false}
use Rattle.std.proofs.lemmas.Option.{none-some, same_Some, slice_get_within}
use Rattle.vw_design.specs.declared.item.Item.{Item}
use Rattle.vw_design.specs.declared.model.Model.{Model}
use Rattle.vw_design.specs.declared.design.Design.{Design}
use Rattle.vw_design.specs.Distinct.{has_name}
use Rattle.vw_design.specs.Paths.{Word, Path, Net, model_at, items_of, is_port}
use Rattle.vw_design.specs.Claims.{Claim, port, driven, bound, first_claim}
use Rattle.vw_design.specs.Drivers.{Source, at_port, at_cell, actual_of, turn_up, turn_by, follow_turn, source_after, driver}
use Rattle.vw_design.specs.Preorder.{Site, is_cell, sites, cells}
use Rattle.vw_design.specs.NetReads.{nets_at, data_of, controls_of, root_outputs, net_reads, data_reads}
use Rattle.vw_design.specs.Clocks.{inputs_of, clocks_of, control_ports, clock_ports, columns}
use Rattle.vw_design.specs.PathValue.{item_at, place_of_name, place_of_site, is_site_of}
use Rattle.vw_design.specs.NetFaults.{is_clock_source}
use Rattle.vw_design.specs.Accepted.{HasNoModelFault, IsAccepted}
use Rattle.vw_design.specs.Flattened.{number_of_source, number_of}
use Rattle.vw_design.proofs.ListElements.{Has, Has-left, Has-right, Has-append, Has-filter, Has-flat_map, from-flat_map, Has-map, from-map, some-place, none-find, Has-Contains}
use Rattle.vw_design.proofs.Names.{equal_names, has_name-Has, Has-has_name, name_same}
use Rattle.vw_design.proofs.TurnsEnd.{claim_of_model}
use Rattle.vw_design.proofs.PlacedInstances.{faultless_site}
use Rattle.vw_design.proofs.FlatValues.{place_within, site_of_place}

-- what a driver can be
abbrev pub IsPossibleSource : Design → Source → Type 0
IsPossibleSource design (at_port name) = (root : Model) × (model_at design [] ≡ Some root) × (is_port root name ≡ true)
IsPossibleSource design (at_cell path number) = (item : Item) × (item_at design path number ≡ Some item) × (is_cell item ≡ true)

module _ (design : Design) where
  turned_up : (turns : ℕ) → ((path : Path) (name : Word) (source : Source) → source_after design turns path name ≡ Some source → IsPossibleSource design source)
      → (path : Path) (actual : Option Word) (source : Source) → follow_turn (source_after design turns) (turn_up path actual) ≡ Some source
      → IsPossibleSource design source
  turned_up turns further path None source found = absurd (none-some source found)
  turned_up turns further path (Some actual) source found = further path actual source found

  by_claim : (turns : ℕ) → ((path : Path) (name : Word) (source : Source) → source_after design turns path name ≡ Some source → IsPossibleSource design source)
      → (path : Path) (name : Word) (claim : Option Claim) → first_claim design (model_at design path) name ≡ claim
      → (source : Source) → follow_turn (source_after design turns) (turn_by design path name claim) ≡ Some source → IsPossibleSource design source
  by_claim turns further path name None is source found = absurd (none-some source found)
  by_claim turns further [] name (Some port) is source found =
      let at = claim_of_model design name port (model_at design []) is in
      subst (IsPossibleSource design) (same_Some (at_port name) source found) (at.0, at.1, at.2)
  by_claim turns further (place ∷ path) name (Some port) is source found = turned_up turns further path (actual_of design place path name) source found
  by_claim turns further path name (Some (driven number)) is source found =
      let at = claim_of_model design name (driven number) (model_at design path) is in
      let item : item_at design path number ≡ Some at.2.0 = ap (λ (m : Option Model). slice_get (items_of m) number) at.1 ∙ at.2.1 in
      subst (IsPossibleSource design) (same_Some (at_cell path number) source found) (at.2.0, item, at.2.2)
  by_claim turns further path name (Some (bound place formal)) is source found = further (place ∷ path) formal source found

  followed : (turns : ℕ) (path : Path) (name : Word) (source : Source) → source_after design turns path name ≡ Some source → IsPossibleSource design source
  followed zero path name source found = absurd (none-some source found)
  followed (suc turns) path name source found = by_claim turns (followed turns) path name (first_claim design (model_at design path) name) refl source found

  pub driver_is : (path : Path) (name : Word) (source : Source) → driver design path name ≡ Some source → IsPossibleSource design source
  unfolding driver
  driver_is path name source found = followed 128 path name source found

module _ (design : Design) (faultless : HasNoModelFault design) where
  -- a gate or latch of an instance is among the cells
  pub cell_place : (path : Path) (number : ℕ) (item : Item) → item_at design path number ≡ Some item → is_cell item ≡ true
      → (place : ℕ) × (place_of_site (cells design) path number ≡ Some place)
  cell_place path number item at cell =
      let site = faultless_site design faultless path number item at in
      let listed = Has-filter (λ (s : Site). is_cell s.item) site.0 (sites design) (Has-Contains site.0 (sites design) site.1) (ap is_cell site.4 ∙ cell) in
      some-place (is_site_of path number) site.0 (cells design) listed
      (and_from (bytes_eq site.0.path path) (eqb site.0.number number) (equal_names site.0.path path site.2) (eq-eqb site.0.number number site.3))

module _ (design : Design) (accepted : IsAccepted design) where
  -- a port of the root that is no clock port is a column
  port_place : (name : Word) (root : Model) → model_at design [] ≡ Some root → is_port root name ≡ true → has_name (clock_ports design) name ≡ false
      → (place : ℕ) × (place_of_name (columns design) name ≡ Some place)
  unfolding clock_ports columns
  port_place name root stands is no_clock =
      let clock = λ (has : has_name root.clocks name ≡ true).
      let among = has_name-Has (clock_ports design) name (Has-left name (clocks_of (model_at design [])) (control_ports design)
      (subst (λ (m : Option Model). Has name (clocks_of m)) (sym stands) (Has-has_name root.clocks name has))) in
      absurd (true≢false (sym among ∙ no_clock)) in
      let input : has_name root.inputs name ≡ true = ⊎_elim (λ has. has) clock (or_cases (has_name root.inputs name) (has_name root.clocks name) is) in
      let listed : Has name (inputs_of (model_at design [])) = subst (λ (m : Option Model). Has name (inputs_of m)) (sym stands) (Has-has_name root.inputs name input) in
      let column = Has-filter (λ (n : Word). not (has_name (clock_ports design) n)) name (inputs_of (model_at design [])) listed (not_from_false (has_name (clock_ports design) name) no_clock) in
      some-place (λ (other : Word). bytes_eq other name) name (columns design) column (name_same name)

  -- a driver that is no clock port has a number, of a column or a cell
  numbered_source : (source : Source) → IsPossibleSource design source → is_clock_source design (Some source) ≡ false
      → (net : ℕ) × (number_of_source design (Some source) ≡ Some net) × (net < length (columns design) + length (cells design))
  numbered_source (at_port name) is no_clock =
      let place = port_place name is.0 is.1 is.2 no_clock in
      (place.0, place.1, omega (arith, place_within (columns design) name place.0 place.1))
  numbered_source (at_cell path number) is no_clock =
      let place = cell_place design accepted.models path number is.0 is.1 is.2 in
      let site = site_of_place (cells design) path number place.0 place.1 in
      (length (columns design) + place.0, ap (option_map (λ (at : ℕ). length (columns design) + at)) place.1, omega (arith, slice_get_within (cells design) place.0 site.0 site.1))

  -- what is read as data is read
  data_is_read : (net : Net) → Has net (data_reads design) → Has net (net_reads design)
  data_is_read net has =
      let at_data = λ (site : Site). nets_at site (data_of site.item) in
      let at_all = λ (site : Site). nets_at site (data_of site.item ++ controls_of site.item) in
      let of_items = λ (found : Has net (flat_map at_data (sites design))).
      let from = from-flat_map at_data (sites design) net found in
      let name = from-map (λ (n : Word). record { path = from.0.path; name = n }) net (data_of from.0.item) from.2 in
      let there = Has-map (λ (n : Word). record { path = from.0.path; name = n }) name.0 (data_of from.0.item ++ controls_of from.0.item)
      (Has-left name.0 (data_of from.0.item) (controls_of from.0.item) name.1) in
      Has-left net (flat_map at_all (sites design)) (root_outputs design)
      (Has-flat_map at_all from.0 (sites design) net from.1 (subst (λ (n : Net). Has n (at_all from.0)) name.2 there)) in
      ⊎_elim of_items (λ found. Has-right net (flat_map at_all (sites design)) (root_outputs design) found) (Has-append net (flat_map at_data (sites design)) (root_outputs design) has)

  -- each net that is read as data has a number
  pub read_numbered : (net : Net) → Contains (data_reads design) net
      → (number : ℕ) × (number_of design net.path net.name ≡ Some number) × (number < length (columns design) + length (cells design))
  read_numbered net listed =
      let has = Has-Contains net (data_reads design) listed in
      let found = none-find (λ (n : Net). is_none (driver design n.path n.name)) net (net_reads design) accepted.driven (data_is_read net has) in
      let no_clock = none-find (λ (n : Net). is_clock_source design (driver design n.path n.name)) net (data_reads design) accepted.no_clock_read has in
      by (driver design net.path net.name) refl found no_clock
    where
      by : (source : Option Source) → driver design net.path net.name ≡ source → is_none source ≡ false → is_clock_source design source ≡ false
          → (number : ℕ) × (number_of_source design source ≡ Some number) × (number < length (columns design) + length (cells design))
      by None is found no_clock = absurd (true≢false found)
      by (Some source) is found no_clock = numbered_source source (driver_is design net.path net.name source is) no_clock
