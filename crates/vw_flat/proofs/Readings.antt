-- The numbers of what is read as data.
use Rattle.std.proofs.Common.{◌≡◌, ◌<◌, ◌+◌, ◌^◌, ◌==◌, ℕ, true, List, length, flat_map, Option, Some, None, option_map, slice_get, refl, sym, ◌∙◌, ap, subst, arith}
use Rattle.std.proofs.lemmas.Bool.{eqb-true}
use Rattle.std.proofs.lemmas.List.{length-map}
use Rattle.std.proofs.lemmas.Option.{none-some, same_Some, slice_get-map, slice_get_within, get_or_from_slice_get}
use Rattle.vw_net.specs.declared.cover.Cover.{Cover}
use Rattle.vw_design.specs.declared.item.Item.{Item}
use Rattle.vw_design.specs.declared.item.Item.TheVariants.{Names}
use Rattle.vw_design.specs.declared.model.Model.{Model}
use Rattle.vw_design.specs.Shape.{has_its_shape, IsWellMade}
use Rattle.vw_design.specs.declared.design.Design.{Design}
use Rattle.vw_design.specs.Paths.{Word, Net, items_of}
use Rattle.vw_design.specs.Drivers.{Source, at_port, at_cell, driver}
use Rattle.vw_design.specs.Preorder.{Site, is_cell, sites, cells}
use Rattle.vw_design.specs.NetReads.{net_at, nets_at, data_of, controls_of, root_outputs, data_reads}
use Rattle.vw_design.specs.Clocks.{columns}
use Rattle.vw_design.specs.PathValue.{place_of_name, place_of_site}
use Rattle.vw_design.specs.Flattened.{number_of_source, number_of}
use Rattle.vw_design.specs.Accepted.{IsAccepted}
use Rattle.vw_design.proofs.ListElements.{Has, Has-at, at-Has, all-Has, Has-left, Has-right, Has-map, Has-flat_map, from-filter, Contains-Has}
use Rattle.vw_design.proofs.Sites.{site_item}
use Rattle.vw_design.proofs.ShallowDesigns.{model_in_file}
use Rattle.vw_design.proofs.Sizes.{few_columns}
use Rattle.vw_design.proofs.DriverNumbers.{read_numbered}
use Rattle.vw_design.proofs.ListPlaces.{at_within, in_front}
use Rattle.vw_drivers.specs.Names.{reads_of}
use Rattle.vw_elab.specs.declared.driver.Driver.{Driver}
use Rattle.vw_elab.specs.declared.driver.Driver.TheVariants as drivers
use Rattle.vw_elab.specs.Numbers.{of_port, driver_of}
use Rattle.vw_flat.specs.Steps.Numbers.{number_by, HasNumber, net_count, item_with_numbers, numbers_at}
use Rattle.vw_flat.proofs.Items.{some_model}

module _ (design : Design) where
  -- the number of a driver is that of its source
  pub numbers_agree : (source : Option Source) → number_by (length (columns design)) (driver_of design source) ≡ number_of_source design source
  numbers_agree None = refl
  numbers_agree (Some (at_port name)) = by (place_of_name (columns design) name) where
    by : (place : Option ℕ) → number_by (length (columns design)) (Some (of_port place)) ≡ place
    by None = refl
    by (Some place) = refl
  numbers_agree (Some (at_cell path item)) = by (place_of_site (cells design) path item) where
    by : (place : Option ℕ)
        → number_by (length (columns design)) (option_map (λ number. drivers.Cell number) place) ≡ option_map (λ at. length (columns design) + at) place
    by None = refl
    by (Some place) = refl

  -- a net that is read as data has the number of its driver
  pub record IsNumbered (net : Net) (count : ℕ) (driven : Option Driver) : Type 0 where
    pub has : HasNumber count driven
    pub number : (n : ℕ) → number_by count driven ≡ Some n → number_of design net.path net.name ≡ Some n
    pub fits : (n : ℕ) → number_by count driven ≡ Some n → n < net_count design

  module _ (accepted : IsAccepted design) where
    few_nets : net_count design < 2 ^ 32
    few_nets = omega (arith, few_columns design, accepted.models.small.inputs, accepted.models.small.cells)

    pub numbered : (net : Net) → Has net (data_reads design) → (count : ℕ) → count ≡ length (columns design)
        → (driven : Option Driver) → driven ≡ driver_of design (driver design net.path net.name) → IsNumbered net count driven
    numbered net has count counted driven is =
        let found = read_numbered design accepted net (Contains-Has net (data_reads design) has) in
        let agree : number_by count driven ≡ number_of design net.path net.name =
        ap (λ (n : ℕ). number_by n driven) counted ∙ ap (number_by (length (columns design))) is ∙ numbers_agree (driver design net.path net.name) in
        record {
          has = record {
            number = found.0;
            is = agree ∙ found.1;
            fits = omega (arith, found.2, few_nets);
          };
          number = λ n same. sym agree ∙ same;
          fits = λ n same. subst (λ (k : ℕ). k < net_count design) (same_Some found.0 n (sym found.1 ∙ sym agree ∙ same)) found.2;
        }

  -- what a cell reads as data, by its place
  pub record IsReadAt (cell input : ℕ) : Type 0 where
    pub site : Site
    pub at : slice_get (cells design) cell ≡ Some site
    pub name : Word
    pub reads : slice_get (reads_of site.item) input ≡ Some name
    pub has : Has (net_at site.path name) (data_reads design)
    pub listed : slice_get (numbers_at design (slice_get (cells design) cell)) input ≡ Some (number_of design site.path name)

  pub read_at : (cell input : ℕ) → input < length (numbers_at design (slice_get (cells design) cell)) → IsReadAt cell input
  read_at cell input within = by (slice_get (cells design) cell) refl where
    by : (found : Option Site) → slice_get (cells design) cell ≡ found → IsReadAt cell input
    by None is = absurd (omega (arith, within, ap (λ (s : Option Site). length (numbers_at design s)) is))
    by (Some site) is =
        let names = data_of site.item in
        let at_data = λ (s : Site). nets_at s (data_of s.item) in
        let long : length (numbers_at design (slice_get (cells design) cell)) ≡ length names = ap (λ (s : Option Site). length (numbers_at design s)) is ∙ length-map names (number_of design site.path) in
        let name = at_within names input (omega (arith, within, long)) in
        let listed = (from-filter (λ (s : Site). is_cell s.item) site (sites design) (Has-at site (cells design) cell is)).0 in
        let here = Has-map (net_at site.path) name.0 names (Has-at name.0 names input name.1) in
        record {
          site = site;
          at = is;
          name = name.0;
          reads = in_front names (controls_of site.item) input name.0 name.1;
          has = Has-left (net_at site.path name.0) (flat_map at_data (sites design)) (root_outputs design) (Has-flat_map at_data site (sites design) (net_at site.path name.0) listed here);
          listed =
              ap (λ (s : Option Site). slice_get (numbers_at design s) input) is ∙ slice_get-map (number_of design site.path) names input ∙ ap (option_map (number_of design site.path)) name.1;
        }

  -- an output of the root is read as data
  pub output_has : (net : Net) (place : ℕ) → slice_get (root_outputs design) place ≡ Some net → Has net (data_reads design)
  output_has net place is = Has-right net (flat_map (λ (s : Site). nets_at s (data_of s.item)) (sites design)) (root_outputs design) (Has-at net (root_outputs design) place is)

  -- a gate reads as many nets as its table has inputs
  pub gate_reads_all : (cell : ℕ) (item : Item) → item_with_numbers (slice_get (cells design) cell) ≡ Some item
      → (line : ℕ) (ins : List Word) (out : Word) (cover : Cover) → item ≡ Names line ins out cover
      → length (numbers_at design (slice_get (cells design) cell)) ≡ cover.inputs
  gate_reads_all cell item is line ins out cover same = by (slice_get (cells design) cell) refl where
    by : (found : Option Site) → slice_get (cells design) cell ≡ found → length (numbers_at design (slice_get (cells design) cell)) ≡ cover.inputs
    by None at = absurd (none-some item (sym (ap item_with_numbers at) ∙ is))
    by (Some site) at =
        let listed = from-filter (λ (s : Site). is_cell s.item) site (sites design) (Has-at site (cells design) cell at) in
        let here : site.item ≡ Names line ins out cover = same_Some site.item item (sym (ap item_with_numbers at) ∙ is) ∙ same in
        let stands = site_item design site listed.0 in
        let model = some_model design site.path site.number site.item stands in
        let of_model : slice_get model.0.items site.number ≡ Some site.item = ap (λ (m : Option Model). slice_get (items_of m) site.number) (sym model.1) ∙ stands in
        let place = at-Has model.0 design.models (model_in_file design site.path model.0 model.1) in
        let made : IsWellMade model.0 =
        subst IsWellMade (get_or_from_slice_get design.models place.0 model.0 model.0 place.1) (design.well_made place.0 model.0 (slice_get_within design.models place.0 model.0 place.1)) in
        let shape = all-Has has_its_shape site.item model.0.items made.items (Has-at site.item model.0.items site.number of_model) in
        let shaped : length ins == cover.inputs ≡ true = ap has_its_shape (sym here) ∙ shape in
        ap (λ (s : Option Site). length (numbers_at design s)) at ∙ length-map (data_of site.item) (number_of design site.path) ∙ ap (λ (i : Item). length (data_of i)) here ∙ eqb-true (length ins) cover.inputs shaped
