-- What the tables of a design have of an instance and of a cell.
use Rattle.std.proofs.Common.{◌≡◌, ◌<◌, ℕ, List, [], map, Option, Some, option_map, option_and_then, length, get_or, slice_get, refl, sym, ◌∙◌, ap, subst, arith}
use Rattle.std.proofs.lemmas.Option.{same_Some, slice_get_read, slice_get-map, slice_get-get_or, get_or_from_slice_get}
use Rattle.vw_design.specs.declared.item.Item.{Item}
use Rattle.vw_design.specs.declared.model.Model.{Model}
use Rattle.vw_design.specs.declared.design.Design.{Design}
use Rattle.vw_design.specs.Paths.{Word, Path, items_of}
use Rattle.vw_design.specs.Drivers.{driver}
use Rattle.vw_design.specs.Preorder.{Site, is_cell, sites, instances, cells}
use Rattle.vw_design.proofs.ListElements.{Has-at, from-filter}
use Rattle.vw_design.proofs.Sites.{site_item}
use Rattle.vw_design.proofs.DriverNumbers.{driver_is}
use Rattle.vw_design.proofs.PairedLists.{AllZip-at}
use Rattle.vw_design.specs.Limits.{instance_count}
use Rattle.vw_drivers.specs.Firsts.{First, number_named}
use Rattle.vw_drivers.specs.declared.model_names.ModelNames.{ModelNames}
use Rattle.vw_drivers.specs.Names.{reads_of, firsts_of}
use Rattle.vw_instances.specs.declared.tables.ListedInstance.{ListedInstance}
use Rattle.vw_instances.specs.declared.tables.CellSite.{CellSite}
use Rattle.vw_instances.specs.Tables.{ArePlaced, AreCellSites, IsCellSite}
use Rattle.vw_drivers.specs.declared.source.Source.{Source}
use Rattle.vw_drivers.specs.declared.tables.Tables.{Tables}
use Rattle.vw_drivers.specs.Tables.{root_firsts, instance_firsts}
use Rattle.vw_drivers.specs.Drivers.{IsSource}
use Rattle.vw_net_faults.specs.declared.columns.Columns.{Columns}
use Rattle.vw_net_faults.specs.Columns.{AreColumns}
use Rattle.vw_elab.specs.declared.elaborated.Instance.{Instance}
use Rattle.vw_elab.specs.declared.elaborated.Reading.{Reading}
use Rattle.vw_elab.specs.declared.parts.NumberedParts.{NumberedParts}
use Rattle.vw_elab.specs.Steps.DesignParts.{AreDesignParts}
use Rattle.vw_elab.specs.Numbers.{IsInstance, driver_of}
use Rattle.vw_elab.specs.Steps.ByColumns.{driver_by, reading_of}
use Rattle.vw_elab.proofs.PortColumns.{by_columns}

-- what a table has at a number, where it is read through a reference
pub listed_at : {X : Type 0} {table shown : List X} {number : ℕ} {x : X} → shown ≡ table → number < length shown → x ≡ get_or shown number x → slice_get table number ≡ Some x
listed_at {shown = shown} {number = number} {x = x} same within at = ap (λ (list : List _). slice_get list number) (sym same) ∙ slice_get_read shown (length shown) number x refl within at

-- what a cell reads, look-up by look-up
pub reading_is : (parts : NumberedParts) (cell input : ℕ) (site : CellSite) (entry : ListedInstance) (names : ModelNames) (reads : List (Option ℕ)) (claim : Option ℕ)
    → slice_get parts.cells cell ≡ Some site → slice_get parts.tables.instances site.instance ≡ Some entry → slice_get parts.tables.names entry.model ≡ Some names
    → slice_get names.reads site.item ≡ Some reads → slice_get reads input ≡ Some claim → reading_of parts cell input ≡ Some (record { instance = site.instance; claim = claim })
reading_is parts cell input site entry names reads claim first second third fourth last = rw (first, second, third, fourth, last) refl

-- the instance of an entry
abbrev pub instance_of : ListedInstance → Instance
instance_of entry = record { model = entry.model; parent = entry.parent; place = entry.place }

module _ (design : Design) where
  pub instance_is : (table : List ListedInstance) → ArePlaced design table → (number : ℕ) (path : Path) → slice_get (instances design) number ≡ Some path
      → (entry : ListedInstance) → slice_get table number ≡ Some entry → IsInstance design number (instance_of entry)
  instance_is table are number path listed entry at =
      let found = are.each number path listed in
      let same : found.0 ≡ entry = same_Some found.0 entry (sym found.1 ∙ at) in
      let stands = found.2.stands in
      subst (λ (e : ListedInstance). IsInstance design number (instance_of e)) same
      (record { path = path; listed = listed; model = found.2.model_is ∙ sym stands; by = found.2.by })

  -- the driver of a source
  pub driver_found : (tables : Tables) (numbers : Columns) → AreColumns design (root_firsts tables) numbers
      → (instance : ℕ) (claim : Option ℕ) (source : Option Source) → IsSource design tables instance claim source
      → (path : Path) (name : Word) → slice_get (instances design) instance ≡ Some path → claim ≡ number_named (instance_firsts tables instance) name
      → driver_by numbers.ports source ≡ driver_of design (driver design path name)
  driver_found tables numbers are instance claim source is path name listed same =
      by_columns design (root_firsts tables) numbers are (driver design path name) (driver_is design path name) source (is.is path name listed same) (is.none path name listed same)

  -- what a cell reads is in the tables
  pub record IsReadInTables (parts : NumberedParts) (cell input : ℕ) (site : Site) (name : Word) : Type 0 where
    pub instance : ℕ
    pub listed : slice_get (instances design) instance ≡ Some site.path
    pub reading : reading_of parts cell input ≡ Some (record { instance = instance; claim = number_named (instance_firsts parts.tables instance) name })

  pub read_is : (parts : NumberedParts) → AreDesignParts design parts
      → (cell input : ℕ) (site : Site) (name : Word) → slice_get (cells design) cell ≡ Some site → slice_get (reads_of site.item) input ≡ Some name → IsReadInTables parts cell input site name
  read_is parts are cell input site name at reads =
      let tables = parts.tables in
      let found = AllZip-at (IsCellSite (instances design)) (cells design) parts.cells cell site are.cells at in
      let entry = found.0 in
      let placed = are.tables.placed.each entry.instance site.path found.2.instance_is in
      let model = placed.2.model in
      let names = are.tables.names.each placed.0.model model placed.2.model_is in
      let own = firsts_of tables.claims (Some placed.0.model) in
      let each = λ (item : Item). map (number_named own) (reads_of item) in
      let listed = (from-filter (λ (s : Site). is_cell s.item) site (sites design) (Has-at site (cells design) cell at)).0 in
      let item : slice_get model.items entry.item ≡ Some site.item =
      ap (slice_get model.items) found.2.item_is ∙ ap (λ (m : Option Model). slice_get (items_of m) site.number) (sym placed.2.stands) ∙ site_item design site listed in
      let all_reads : slice_get names.0.reads entry.item ≡ Some (each site.item) =
      ap (λ (list : List (List (Option ℕ))). slice_get list entry.item) names.2.reads ∙ slice_get-map each model.items entry.item ∙ ap (option_map each) item in
      let claim : slice_get (each site.item) input ≡ Some (number_named own name) = slice_get-map (number_named own) (reads_of site.item) input ∙ ap (option_map (number_named own)) reads in
      let firsts : instance_firsts tables entry.instance ≡ own = ap (λ (e : Option ListedInstance). firsts_of tables.claims (option_map (λ p. p.model) e)) placed.1 in
      let made : Option ℕ → Reading = λ number. record { instance = entry.instance; claim = number } in
      let last = λ (list : List (Option ℕ)). option_map made (slice_get list input) in
      let third = λ (n : ModelNames). option_and_then last (slice_get n.reads entry.item) in
      let second = λ (p : ListedInstance). option_and_then third (slice_get tables.names p.model) in
      let made_at : CellSite → Option ℕ → Reading = λ s number. record { instance = s.instance; claim = number } in
      let first = λ (s : CellSite). option_and_then (λ (p : ListedInstance). option_and_then (λ (n : ModelNames). option_and_then (λ (list : List (Option ℕ)).
      option_map (made_at s) (slice_get list input)) (slice_get n.reads s.item)) (slice_get tables.names p.model)) (slice_get tables.instances s.instance) in
      record {
        instance = entry.instance;
        listed = found.2.instance_is;
        reading =
            ap (option_and_then first) found.1 ∙ ap (option_and_then second) placed.1 ∙ ap (option_and_then third) names.1 ∙ ap (option_and_then last) all_reads ∙ ap (option_map made) claim
            ∙ ap (λ (firsts : List First). Some (made (number_named firsts name))) (sym firsts);
      }

  -- the instance and the site at a number
  pub instance_read : (table : List ListedInstance) → ArePlaced design table → (number : ℕ) → number < instance_count design → (default : ListedInstance)
      → IsInstance design number (instance_of (get_or table number default))
  instance_read table are number within default =
      instance_is table are number (get_or (instances design) number []) (slice_get-get_or (instances design) number [] within) (get_or table number default)
      (slice_get-get_or table number default (omega (arith, within, are.same_length)))

  pub site_read : (made : List CellSite) → AreCellSites design made → (cell : ℕ) (default : CellSite) (site : Site) → slice_get (cells design) cell ≡ Some site → IsCellSite (instances design) site (get_or made cell default)
  site_read made are cell default site at =
      let found = AllZip-at (IsCellSite (instances design)) (cells design) made cell site are at in
      subst (IsCellSite (instances design) site) (sym (get_or_from_slice_get made cell found.0 default found.1)) found.2
