-- Each latch of an instance has a place among the latches of the design, and stands there.
use Rattle.std.proofs.Common.{◌≡◌, ◌<◌, ℕ, true, length, Some, slice_get, sym, ◌∙◌, ap, ap₂, eqb}
use Rattle.std.specs.Str.{bytes_eq}
use Rattle.std.proofs.lemmas.Bool.{and_from, eq-eqb}
use Rattle.std.proofs.lemmas.Option.{same_Some, slice_get_within}
use Rattle.vw_design.specs.declared.item.Item.{Item}
use Rattle.vw_design.specs.declared.design.Design.{Design}
use Rattle.vw_design.specs.Paths.{Path}
use Rattle.vw_design.specs.Preorder.{Site, is_latch_item, sites, latches}
use Rattle.vw_design.specs.PathValue.{item_at, is_site_of, place_of_site}
use Rattle.vw_design.specs.Accepted.{HasNoModelFault}
use Rattle.vw_design.proofs.ListElements.{Has-at, Has-filter, from-filter, some-place, Has-Contains}
use Rattle.vw_design.proofs.Names.{equal_names}
use Rattle.vw_design.proofs.FlatValues.{site_of_place}
use Rattle.vw_design.proofs.PlacedInstances.{faultless_site}
use Rattle.vw_design.proofs.Sites.{site_item}

-- where a latch stands among the latches
pub record HasLatchPlace (design : Design) (path : Path) (number : ℕ) (item : Item) : Type 0 where
  pub place : ℕ
  pub place_is : place_of_site (latches design) path number ≡ Some place
  pub within : place < length (latches design)
  pub site : Site
  pub stands : slice_get (latches design) place ≡ Some site
  pub path_is : site.path ≡ path
  pub number_is : site.number ≡ number
  pub item_is : site.item ≡ item

-- a latch of an instance has a place
pub latch_place : (design : Design) → HasNoModelFault design → (path : Path) (number : ℕ) (item : Item)
    → item_at design path number ≡ Some item → is_latch_item item ≡ true → HasLatchPlace design path number item
latch_place design faultless path number item at latch =
    let listed = faultless_site design faultless path number item at in
    let among = Has-filter (λ (s : Site). is_latch_item s.item) listed.0 (sites design) (Has-Contains listed.0 (sites design) listed.1) (ap is_latch_item listed.4 ∙ latch) in
    let place = some-place (is_site_of path number) listed.0 (latches design) among
    (and_from (bytes_eq listed.0.path path) (eqb listed.0.number number) (equal_names listed.0.path path listed.2) (eq-eqb listed.0.number number listed.3)) in
    let site = site_of_place (latches design) path number place.0 place.1 in
    let has = from-filter (λ (s : Site). is_latch_item s.item) site.0 (sites design) (Has-at site.0 (latches design) place.0 site.1) in
    record {
      place = place.0;
      place_is = place.1;
      within = slice_get_within (latches design) place.0 site.0 site.1;
      site = site.0;
      stands = site.1;
      path_is = site.2;
      number_is = site.3;
      item_is = same_Some site.0.item item (sym (site_item design site.0 has.0) ∙ ap₂ (item_at design) site.2 site.3 ∙ at);
    }
