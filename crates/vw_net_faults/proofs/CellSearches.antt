-- The cells one by one.
use Rattle.std.proofs.Common.{◌≡◌, ◌<◌, ◌≤◌, ◌+◌, ℕ, Bool, List, [], ◌∷◌, drop, length, get_or, Option, Some, None, slice_get, find, flat_map, option_map, sym, ◌∙◌, ap, subst, arith}
use Rattle.std.specs.Option.{option_or}
use Rattle.std.proofs.lemmas.List.{drop_more, drop_all}
use Rattle.std.proofs.lemmas.List.Folds.{find-append}
use Rattle.std.proofs.lemmas.Option.{same_Some, slice_get-get_or, get_or_from_slice_get}
use Rattle.vw_design.specs.declared.design.Design.{Design}
use Rattle.vw_design.specs.Paths.{Word, Net}
use Rattle.vw_design.specs.PathValue.{item_at}
use Rattle.vw_design.specs.Preorder.{Site, is_cell, instances, sites, cells}
use Rattle.vw_design.specs.NetReads.{net_at, nets_at}
use Rattle.vw_design.proofs.ListElements.{Has-at, from-filter}
use Rattle.vw_design.proofs.Sites.{site_item}
use Rattle.vw_design.proofs.PairedLists.{AllZip-at, AllZip-length}
use Rattle.vw_design.proofs.ListPlaces.{at_within}
use Rattle.vw_instances.specs.declared.tables.CellSite.{CellSite}
use Rattle.vw_instances.specs.Tables.{IsCellSite}
use Rattle.vw_net_faults.specs.declared.nets.Nets.{Nets}
use Rattle.vw_net_faults.proofs.SearchSteps.{find_map}

-- what stands behind the end of a table of cells
abbrev pub no_cell : CellSite
no_cell = record { instance = 0; item = 0 }

-- the site of a cell
pub record IsHere (design : Design) (i : ℕ) (cell : CellSite) : Type 0 where
  pub site : Site
  pub listed : slice_get (instances design) cell.instance ≡ Some site.path
  pub item_is : item_at design site.path cell.item ≡ Some site.item
  pub cut : drop i (cells design) ≡ site ∷ drop (i + 1) (cells design)

module _ (nets : Nets) where
  same_count : length (cells nets.design.now) ≡ length nets.cells.now
  same_count = AllZip-length (IsCellSite (instances nets.design.now)) (cells nets.design.now) nets.cells.now nets.has_cells

  pub here : (i : ℕ) → i < length nets.cells.now → IsHere nets.design.now i (get_or nets.cells.now i no_cell)
  here i within =
      let design = nets.design.now in
      let table = nets.cells.now in
      let cell = get_or table i no_cell in
      let inside : i < length (cells design) = omega (arith, same_count) in
      let site = at_within (cells design) i inside in
      let found = AllZip-at (IsCellSite (instances design)) (cells design) table i site.0 nets.has_cells site.1 in
      let is : IsCellSite (instances design) site.0 cell =
      subst (λ (e : CellSite). IsCellSite (instances design) site.0 e) (same_Some found.0 cell (sym found.1 ∙ slice_get-get_or table i no_cell within)) found.2 in
      let among = from-filter (λ (s : Site). is_cell s.item) site.0 (sites design) (Has-at site.0 (cells design) i site.1) in
      record {
        site = site.0;
        listed = is.instance_is;
        item_is = ap (item_at design site.0.path) is.item_is ∙ site_item design site.0 among.0;
        cut = drop_more (cells design) i site.0 inside ∙ ap (λ (s : Site). s ∷ drop (i + 1) (cells design)) (get_or_from_slice_get (cells design) i site.0 site.0 site.1);
      }

  pub past : (i : ℕ) → length nets.cells.now ≤ i → drop i (cells nets.design.now) ≡ []
  past i over = drop_all i (cells nets.design.now) (omega (arith, same_count))

-- a search among the nets that the items of cells name
module _ (design : Design) (test : Net → Bool) (names : Site → List Word) where
  abbrev pub of_cells : List Site → Option Net
  of_cells list = find test (flat_map (λ site. nets_at site (names site)) list)

  pub of_site : (site : Site) (list : List Site)
      → of_cells (site ∷ list) ≡ option_or (option_map (net_at site.path) (find (λ name. test (net_at site.path name)) (names site))) (of_cells list)
  of_site site list =
      find-append test (nets_at site (names site)) (flat_map (λ (s : Site). nets_at s (names s)) list)
      ∙ ap (λ (o : Option Net). option_or o (of_cells list)) (find_map (net_at site.path) test (names site))

  module _ (i : ℕ) (cell : CellSite) (is : IsHere design i cell) (far : of_cells (drop i (cells design)) ≡ of_cells (cells design)) where
    pub nothing_here : None ≡ find (λ name. test (net_at is.site.path name)) (names is.site) → of_cells (drop (i + 1) (cells design)) ≡ of_cells (cells design)
    nothing_here none =
        ap (λ (o : Option Word). option_or (option_map (net_at is.site.path) o) (of_cells (drop (i + 1) (cells design)))) none
        ∙ sym (of_site is.site (drop (i + 1) (cells design))) ∙ sym (ap of_cells is.cut) ∙ far

    pub found_here : (name : Word) → Some name ≡ find (λ name. test (net_at is.site.path name)) (names is.site)
        → Some (net_at is.site.path name) ≡ of_cells (cells design)
    found_here name some =
        ap (λ (o : Option Word). option_or (option_map (net_at is.site.path) o) (of_cells (drop (i + 1) (cells design)))) some
        ∙ sym (of_site is.site (drop (i + 1) (cells design))) ∙ sym (ap of_cells is.cut) ∙ far
