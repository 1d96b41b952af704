-- The netlist of a design gives each numbered net the value that the design gives it by its paths.
use Rattle.std.proofs.Common.{◌≡◌, ◌<◌, ◌+◌, ◌-◌, ℕ, zero, suc, Bool, true, false, cond, List, [], ◌∷◌, length, map, take, Option, Some, None, slice_get, option_map, nat_lt, filter, refl, sym, ◌∙◌, ap, ap₂, subst, arith}
use Rattle.std.specs.List.{AllZip}
use Rattle.std.specs.Str.{bytes_eq}
use Rattle.std.proofs.lemmas.Bool.{lt-ltb, le-ltb, and_parts, eqb-true}
use Rattle.std.proofs.lemmas.Option.{same_Some, none-some, slice_get_within}
use Rattle.vw_net.specs.declared.cell.Cell.{Cell}
use Rattle.vw_net.specs.declared.cell.Cell.TheVariants.{Gate, Latch}
use Rattle.vw_net.specs.declared.cover.Cover.{Cover}
use Rattle.vw_net.specs.declared.flat.Flat.{Flat}
use Rattle.vw_net.specs.Cells.{latch_count}
use Rattle.vw_net.specs.Cover.{cover_value}
use Rattle.vw_net.specs.Value.{driven_value, level_value}
use Rattle.vw_design.specs.declared.item.Item.{Item}
use Rattle.vw_design.specs.declared.item.Item.TheVariants.{Names, Latch as LatchItem, Sub}
use Rattle.vw_design.specs.declared.design.Design.{Design}
use Rattle.vw_design.specs.Paths.{Word, Path, Net}
use Rattle.vw_design.specs.Drivers.{Source, at_port, at_cell, driver}
use Rattle.vw_design.specs.Preorder.{Site, is_cell, is_latch_item, sites, cells, latches}
use Rattle.vw_design.specs.Clocks.{columns}
use Rattle.vw_design.specs.PathValue.{item_at, place_of_name, place_of_site, is_site_of, bit_at, item_value, source_value, path_level}
use Rattle.vw_design.specs.Flattened.{number_of_source, number_of, IsTableOf, IsCellOf, IsFlatOf}
use Rattle.vw_design.proofs.ListElements.{Has-at, at-place, from-filter}
use Rattle.vw_design.proofs.Names.{same_name}
use Rattle.vw_design.proofs.Sites.{site_item}
use Rattle.vw_design.proofs.FilteredLists.{filter-filter, place_in_filter, map_numbered}
use Rattle.vw_design.proofs.PairedLists.{AllZip-at}

-- the first place of a name is one of the names
pub place_within : (names : List Word) (name : Word) (place : ℕ) → place_of_name names name ≡ Some place → place < length names
place_within names name place found =
    let at = at-place (λ (other : Word). bytes_eq other name) names place found in
    slice_get_within names place at.0 at.1

-- a latch is a cell
latch_cell : (site : Site) → is_latch_item site.item ≡ true → is_cell site.item ≡ true
latch_cell site latch = by site.item latch where
  by : (item : Item) → is_latch_item item ≡ true → is_cell item ≡ true
  by (Names line ins out cover) latch = refl
  by (LatchItem line d q edge control init) latch = refl
  by (Sub line model binds) latch = cc

-- the latches among the cells are the latches
pub latches_of_cells : (design : Design) → filter (λ site. is_latch_item site.item) (cells design) ≡ latches design
latches_of_cells design = filter-filter (λ (s : Site). is_cell s.item) (λ (s : Site). is_latch_item s.item) latch_cell (sites design)

-- as many latches stand before a cell of the netlist as before the cell of the design
count_latches : (design : Design) (list : List Site) (made : List Cell) → AllZip (λ site cell. IsCellOf design site.path site.item cell) list made → (k : ℕ)
    → length (filter (λ (s : Site). is_latch_item s.item) (take k list)) ≡ latch_count (take k made)
count_latches design list made along zero = refl
count_latches design [] [] along (suc k) = refl
count_latches design [] (cell ∷ made) along (suc k) = absurd along
count_latches design (site ∷ list) [] along (suc k) = absurd along
count_latches design (site ∷ list) (cell ∷ made) along (suc k) = by site.item refl cell along.0 (count_latches design list made along.1 k) where
  by : (item : Item) → site.item ≡ item → (cell : Cell) → IsCellOf design site.path item cell
      → length (filter (λ (s : Site). is_latch_item s.item) (take k list)) ≡ latch_count (take k made)
      → length (cond (is_latch_item item) (site ∷ filter (λ (s : Site). is_latch_item s.item) (take k list)) (filter (λ (s : Site). is_latch_item s.item) (take k list))) ≡ latch_count (cell ∷ take k made)
  by (Names line ins out cover) is (Gate nets table) made_of rest = rest
  by (Names line ins out cover) is (Latch net start) made_of rest = absurd made_of
  by (LatchItem line d q edge control init) is (Gate nets table) made_of rest = absurd made_of
  by (LatchItem line d q edge control init) is (Latch net start) made_of rest = ap suc rest
  by (Sub line model binds) is (Gate nets table) made_of rest = absurd made_of
  by (Sub line model binds) is (Latch net start) made_of rest = absurd made_of

-- a table with the same rows has the same value
same_table : (cover table : Cover) → IsTableOf cover table → (bits : List Bool) → cover_value table bits ≡ cover_value cover bits
same_table cover table same bits = rw (same.on, same.rows) refl

-- the site at the first place of an item is of that item
pub site_of_place : (list : List Site) (path : Path) (number place : ℕ) → place_of_site list path number ≡ Some place
    → (site : Site) × (slice_get list place ≡ Some site) × (site.path ≡ path) × (site.number ≡ number)
site_of_place list path number place found =
    let at = at-place (is_site_of path number) list place found in
    let parts = and_parts (bytes_eq at.0.path path) _ at.2 in
    (at.0, at.1, same_name at.0.path path parts.0, eqb-true at.0.number number parts.1)

module _ (design : Design) (watched : List Net) (flat : Flat) (made : IsFlatOf design watched flat) (row state : List Bool) where
  -- a net with a column
  column_value : (level : ℕ) (name : Word) (net : ℕ) → place_of_name (columns design) name ≡ Some net
      → level_value (suc level) flat row state net ≡ bit_at row (place_of_name (columns design) name)
  column_value level name net found =
      let within : nat_lt net flat.inputs ≡ true = lt-ltb net flat.inputs (omega (arith, place_within (columns design) name net found, made.inputs)) in
      rw within (sym (ap (bit_at row) found))

  -- a cell's net, as the cell stands with its number
  cell_level : (level net : ℕ) → level_value (suc level) flat row state (flat.inputs + net)
      ≡ driven_value (level_value level flat row state) state (latch_count (take net flat.cells)) (slice_get flat.cells net)
  cell_level level net =
      let no_input : nat_lt (flat.inputs + net) flat.inputs ≡ false = le-ltb (flat.inputs + net) flat.inputs (omega arith) in
      let back : flat.inputs + net - flat.inputs ≡ net = omega arith in
      rw (no_input, back) refl

  -- what a cell gives its net is what the item gives it
  cell_value : (level : ℕ)
      → ((path : Path) (name : Word) (net : ℕ) → number_of design path name ≡ Some net → level_value level flat row state net ≡ path_level level design row state path name)
      → (path : Path) (number before : ℕ) (item : Item) (cell : Cell) → IsCellOf design path item cell
      → (is_latch_item item ≡ true → place_of_site (latches design) path number ≡ Some before)
      → driven_value (level_value level flat row state) state before (Some cell) ≡ item_value design state (path_level level design row state) path number (Some item)
  cell_value level below path number before (Names line ins out cover) (Gate nets table) is latch =
      let reads = map_numbered (number_of design path) (level_value level flat row state) (path_level level design row state path) (below path) ins nets is.0 in
      same_table cover table is.1 (map (level_value level flat row state) nets) ∙ ap (cover_value cover) reads
  cell_value level below path number before (Names line ins out cover) (Latch net start) is latch = absurd is
  cell_value level below path number before (LatchItem line d q edge control init) (Gate nets table) is latch = absurd is
  cell_value level below path number before (LatchItem line d q edge control init) (Latch net start) is latch = sym (ap (bit_at state) (latch refl))
  cell_value level below path number before (Sub line model binds) (Gate nets table) is latch = absurd is
  cell_value level below path number before (Sub line model binds) (Latch net start) is latch = absurd is

  -- a net whose driver is a cell
  driven_level : (level : ℕ)
      → ((path : Path) (name : Word) (net : ℕ) → number_of design path name ≡ Some net → level_value level flat row state net ≡ path_level level design row state path name)
      → (path : Path) (number place : ℕ) → place_of_site (cells design) path number ≡ Some place
      → level_value (suc level) flat row state (length (columns design) + place) ≡ item_value design state (path_level level design row state) path number (item_at design path number)
  driven_level level below path number place found =
      let site = site_of_place (cells design) path number place found in
      let listed = from-filter (λ (s : Site). is_cell s.item) site.0 (sites design) (Has-at site.0 (cells design) place site.1) in
      let item : item_at design path number ≡ Some site.0.item = ap₂ (item_at design) (sym site.2) (sym site.3) ∙ site_item design site.0 listed.0 in
      let along = AllZip-at (λ (s : Site) (cell : Cell). IsCellOf design s.path s.item cell) (cells design) flat.cells place site.0 made.cells site.1 in
      let of_item : IsCellOf design path site.0.item along.0 = subst (λ (p : Path). IsCellOf design p site.0.item along.0) site.2 along.2 in
      let latch = λ (is : is_latch_item site.0.item ≡ true).
      ap (λ (list : List Site). place_of_site list path number) (sym (latches_of_cells design))
      ∙ place_in_filter (is_site_of path number) (λ (s : Site). is_latch_item s.item) (cells design) place site.0 found site.1 is
      ∙ ap (λ (n : ℕ). Some n) (count_latches design (cells design) flat.cells made.cells place) in
      ap (λ (inputs : ℕ). level_value (suc level) flat row state (inputs + place)) (sym made.inputs)
      ∙ cell_level level place
      ∙ ap (driven_value (level_value level flat row state) state (latch_count (take place flat.cells))) along.1
      ∙ cell_value level below path number (latch_count (take place flat.cells)) site.0.item along.0 of_item latch
      ∙ sym (ap (item_value design state (path_level level design row state) path number) item)

  by_source : (level : ℕ)
      → ((path : Path) (name : Word) (net : ℕ) → number_of design path name ≡ Some net → level_value level flat row state net ≡ path_level level design row state path name)
      → (source : Option Source) (net : ℕ) → number_of_source design source ≡ Some net
      → level_value (suc level) flat row state net ≡ source_value design row state (path_level level design row state) source
  by_source level below None net number = absurd (none-some net number)
  by_source level below (Some (at_port name)) net number = column_value level name net number
  by_source level below (Some (at_cell path item)) net number = of_place (place_of_site (cells design) path item) refl number where
    of_place : (place : Option ℕ) → place_of_site (cells design) path item ≡ place → option_map (λ at. length (columns design) + at) place ≡ Some net
        → level_value (suc level) flat row state net ≡ item_value design state (path_level level design row state) path item (item_at design path item)
    of_place None is found = absurd (none-some net found)
    of_place (Some place) is found =
        ap (level_value (suc level) flat row state) (sym (same_Some (length (columns design) + place) net found)) ∙ driven_level level below path item place is

  -- at every level
  pub levels_agree : (level : ℕ) (path : Path) (name : Word) (net : ℕ) → number_of design path name ≡ Some net
      → level_value level flat row state net ≡ path_level level design row state path name
  levels_agree zero path name net number = refl
  levels_agree (suc level) path name net number = by_source level (levels_agree level) (driver design path name) net number
