-- Which gates read which, by paths and by numbers of the netlist.
use Rattle.std.proofs.Common.{◌≡◌, ◌+◌, ◌&&◌, ◌||◌, ◌==◌, ℕ, Bool, true, false, List, [], ◌∷◌, length, map, Option, Some, None, slice_get, option_map, refl, sym, ◌∙◌, ap, ap₂, subst, true≢false, eqb, arith}
use Rattle.std.specs.List.{list_any}
use Rattle.std.specs.Str.{bytes_eq}
use Rattle.std.proofs.lemmas.Bool.{and_parts, and_from, eqb-true, eq-eqb, ne_eqb}
use Rattle.std.proofs.lemmas.Option.{none-some, same_Some}
use Rattle.vw_net.specs.declared.cell.Cell.{Cell}
use Rattle.vw_net.specs.declared.cell.Cell.TheVariants.{Gate as FlatGate, Latch}
use Rattle.vw_net.specs.declared.cover.Cover.{Cover}
use Rattle.vw_net.specs.declared.flat.Flat.{Flat}
use Rattle.vw_net.specs.Order.{read_nets_at}
use Rattle.vw_design.specs.declared.item.Item.{Item}
use Rattle.vw_design.specs.declared.item.Item.TheVariants.{Names}
use Rattle.vw_design.specs.declared.design.Design.{Design}
use Rattle.vw_design.specs.Paths.{Word, Path, Net}
use Rattle.vw_design.specs.Drivers.{Source, at_port, at_cell, driver}
use Rattle.vw_design.specs.Preorder.{Site, is_cell, sites, cells}
use Rattle.vw_design.specs.Clocks.{columns}
use Rattle.vw_design.specs.PathValue.{item_at, place_of_site}
use Rattle.vw_design.specs.Flattened.{number_of_source, number_of, IsCellOf, IsFlatOf}
use Rattle.vw_design.specs.Loops.{gate_at, is_driven_by, reads_from, gate_reads}
use Rattle.vw_design.proofs.ListElements.{Has-at, from-filter}
use Rattle.vw_design.proofs.Names.{same_name, equal_names}
use Rattle.vw_design.proofs.Sites.{site_item}
use Rattle.vw_design.proofs.FlatValues.{place_within, site_of_place}
use Rattle.vw_design.proofs.SitesOnce.{cell_once}
use Rattle.vw_design.proofs.PairedLists.{AllZip-at}

module _ (design : Design) where
  -- a driver is a cell exactly where its number is the cell's
  same_driver : (place : ℕ) (site : Site) → slice_get (cells design) place ≡ Some site → (source : Option Source) (net : ℕ)
      → number_of_source design source ≡ Some net
      → is_driven_by (gate_at site) source ≡ (net == length (columns design) + place)
  same_driver place site at None net number = absurd (none-some net number)
  same_driver place site at (Some (at_port name)) net number =
      let within = place_within (columns design) name net number in
      sym (ne_eqb net (length (columns design) + place) (λ same. omega (arith, within, same)))
  same_driver place site at (Some (at_cell path item)) net number = by (place_of_site (cells design) path item) refl number where
    here : (found : ℕ) → place_of_site (cells design) path item ≡ Some found → found ≡ place → (bytes_eq path site.path && eqb item site.number) ≡ true
    here found is same =
        let other = site_of_place (cells design) path item found is in
        let one : other.0 ≡ site = same_Some other.0 site (sym other.1 ∙ ap (slice_get (cells design)) same ∙ at) in
        and_from (bytes_eq path site.path) (eqb item site.number) (equal_names path site.path (sym other.2 ∙ ap (λ (s : Site). s.path) one)) (eq-eqb item site.number (sym other.3 ∙ ap (λ (s : Site). s.number) one))

    there : (found : ℕ) → place_of_site (cells design) path item ≡ Some found → (bytes_eq path site.path && eqb item site.number) ≡ true → found ≡ place
    there found is same =
        let parts = and_parts (bytes_eq path site.path) (eqb item site.number) same in
        let once : place_of_site (cells design) path item ≡ Some place =
        ap₂ (place_of_site (cells design)) (same_name path site.path parts.0) (eqb-true item site.number parts.1) ∙ cell_once design place site at in
        same_Some found place (sym is ∙ once)

    by : (found : Option ℕ) → place_of_site (cells design) path item ≡ found → option_map (λ (n : ℕ). length (columns design) + n) found ≡ Some net
        → (bytes_eq path site.path && eqb item site.number) ≡ (net == length (columns design) + place)
    by None is number = absurd (none-some net number)
    by (Some found) is number =
        let net_is : length (columns design) + found ≡ net = same_Some (length (columns design) + found) net number in
        decide (bytes_eq path site.path && eqb item site.number) refl
      where
        decide : (b : Bool) → (bytes_eq path site.path && eqb item site.number) ≡ b
            → (bytes_eq path site.path && eqb item site.number) ≡ (net == length (columns design) + place)
        decide true passes = passes ∙ sym (eq-eqb net (length (columns design) + place) (omega (arith, same_Some (length (columns design) + found) net number, there found is passes)))
        decide false fails =
            fails ∙ sym (ne_eqb net (length (columns design) + place) (λ same.
            true≢false (sym (here found is (omega (arith, same_Some (length (columns design) + found) net number, same))) ∙ fails)))

  -- of each net that is read
  any_driver : (place : ℕ) (site : Site) → slice_get (cells design) place ≡ Some site → (path : Path) (ins : List Word) (nets : List ℕ)
      → map (number_of design path) ins ≡ map (λ net. Some net) nets
      → list_any (λ name. is_driven_by (gate_at site) (driver design path name)) ins ≡ list_any (λ net. net == length (columns design) + place) nets
  any_driver place site at path [] [] are = refl
  any_driver place site at path [] (net ∷ nets) are = cc
  any_driver place site at path (name ∷ ins) [] are = cc
  any_driver place site at path (name ∷ ins) (net ∷ nets) are =
      let first : number_of design path name ≡ Some net = cc in
      let rest : map (number_of design path) ins ≡ map (λ (n : ℕ). Some n) nets = cc in
      ap₂ (λ (a b : Bool). a || b) (same_driver place site at (driver design path name) net first) (any_driver place site at path ins nets rest)

  -- a gate reads a cell exactly where its cell of the netlist reads the cell's net
  pub reads_agree : (watched : List Net) (flat : Flat) → IsFlatOf design watched flat → (place other : ℕ) (site read : Site)
      → slice_get (cells design) place ≡ Some site → slice_get (cells design) other ≡ Some read
      → (line : ℕ) (ins : List Word) (out : Word) (cover : Cover) → site.item ≡ Names line ins out cover
      → gate_reads design (gate_at site) (gate_at read) ≡ list_any (λ net. net == flat.inputs + other) (read_nets_at (slice_get flat.cells place))
  reads_agree watched flat made place other site read at at_read line ins out cover is =
      let listed = from-filter (λ (s : Site). is_cell s.item) site (sites design) (Has-at site (cells design) place at) in
      let item : item_at design site.path site.number ≡ Some (Names line ins out cover) = site_item design site listed.0 ∙ ap (λ (i : Item). Some i) is in
      let along = AllZip-at (λ (s : Site) (cell : Cell). IsCellOf design s.path s.item cell) (cells design) flat.cells place site made.cells at in
      let of_item : IsCellOf design site.path (Names line ins out cover) along.0 = subst (λ (i : Item). IsCellOf design site.path i along.0) is along.2 in
      ap (reads_from design site.path (gate_at read)) item ∙ by along.0 of_item
      ∙ ap (λ (inputs : ℕ). list_any (λ (net : ℕ). net == inputs + other) (read_nets_at (Some along.0))) (sym made.inputs)
      ∙ ap (λ (cell : Option Cell). list_any (λ (net : ℕ). net == flat.inputs + other) (read_nets_at cell)) (sym along.1)
    where
      by : (cell : Cell) → IsCellOf design site.path (Names line ins out cover) cell
          → list_any (λ name. is_driven_by (gate_at read) (driver design site.path name)) ins ≡ list_any (λ net. net == length (columns design) + other) (read_nets_at (Some cell))
      by (FlatGate nets table) of_item = any_driver other read at_read site.path ins nets of_item.0
      by (Latch net start) of_item = absurd of_item
