-- Items of cells, and the numbers of what they read.
use Rattle.std.proofs.Common.{◌≡◌, ◌<◌, ℕ, List, length, get_or, Option, Some, slice_get, map, option_map, option_and_then, refl, sym, ◌∙◌, ap}
use Rattle.std.proofs.lemmas.Option.{slice_get-map, slice_get_read, same_Some}
use Rattle.std.specs.Coded.{Coded-set}
use Rattle.std.proofs.Props.{props}
use mathlib.Core.Logic.{∥∥₁_elim}
use Rattle.vw_design.specs.declared.design.Design.{Design}
use Rattle.vw_design.specs.declared.item.Item.{Item}
use Rattle.vw_design.specs.contracts.item.Item as items
use Rattle.vw_design.specs.declared.model.Model.{Model}
use Rattle.vw_design.specs.Paths.{Word, Path, items_of}
use Rattle.vw_design.specs.PathValue.{item_at}
use Rattle.vw_design.specs.Preorder.{instances}
use Rattle.vw_drivers.specs.Firsts.{First, number_named}
use Rattle.vw_drivers.specs.declared.model_names.ModelNames.{ModelNames}
use Rattle.vw_drivers.specs.Names.{reads_of, firsts_of}
use Rattle.vw_instances.specs.declared.tables.CellSite.{CellSite}
use Rattle.vw_instances.specs.declared.tables.ListedInstance.{ListedInstance}
use Rattle.vw_instances.specs.Tables.{IsEntryAt}
use Rattle.vw_drivers.specs.declared.tables.Tables.{Tables}
use Rattle.vw_drivers.specs.Tables.{AreDesignTables, instance_firsts}
use Rattle.vw_net_faults.specs.declared.nets.Nets.{Nets}
use Rattle.vw_net_faults.specs.Steps.Items.{item_at_site, numbers_by, AreNumbersOf}

-- what a list has at a number, where it is read through a reference
pub listed_at : {X : Type 0} {list shown : List X} {number : ℕ} {x : X} → shown ≡ list → number < length shown → x ≡ get_or shown number x
    → slice_get list number ≡ Some x
listed_at {shown = shown} {number = number} {x = x} same within at = ap (λ (l : List _). slice_get l number) (sym same) ∙ slice_get_read shown (length shown) number x refl within at

numbers_of_names : (firsts : List First) (names : List Word) (numbers : List (Option ℕ)) → numbers ≡ map (number_named firsts) names
    → AreNumbersOf firsts names numbers
numbers_of_names firsts names numbers are place name at =
    ap (λ (list : List (Option ℕ)). option_and_then (λ (number : Option ℕ). number) (slice_get list place)) are
    ∙ ap (option_and_then (λ (number : Option ℕ). number)) (slice_get-map (number_named firsts) names place)
    ∙ ap (λ (found : Option Word). option_and_then (λ (number : Option ℕ). number) (option_map (number_named firsts) found)) at

module _ (design : Design) (tables : Tables) (are : AreDesignTables design tables) (cell : CellSite) (path : Path) (item : Item) (listed : slice_get (instances design) cell.instance ≡ Some path) (at : item_at design path cell.item ≡ Some item) where
  abbrev entry : (found : ListedInstance) × (slice_get tables.instances cell.instance ≡ Some found) × IsEntryAt design (instances design) cell.instance path found
  entry = are.placed.each cell.instance path listed

  in_model : slice_get entry.2.model.items cell.item ≡ Some item
  in_model = sym (ap (λ (m : Option Model). slice_get (items_of m) cell.item) entry.2.stands) ∙ at

  item_is : item_at_site design tables cell ≡ Some item
  item_is =
      ap (option_and_then (λ (e : ListedInstance). option_and_then (λ (model : Model). slice_get model.items cell.item) (slice_get design.models e.model))) entry.1
      ∙ ap (option_and_then (λ (model : Model). slice_get model.items cell.item)) entry.2.model_is ∙ in_model

  firsts_are : instance_firsts tables cell.instance ≡ firsts_of tables.claims (Some entry.0.model)
  firsts_are = ap (λ (e : Option ListedInstance). firsts_of tables.claims (option_map (λ (x : ListedInstance). x.model) e)) entry.1

  numbers_are : numbers_by tables cell ≡ Some (map (number_named (instance_firsts tables cell.instance)) (reads_of item))
  numbers_are =
      let found = are.names.each entry.0.model entry.2.model entry.2.model_is in
      let own = firsts_of tables.claims (Some entry.0.model) in
      let of = λ (x : Item). map (number_named own) (reads_of x) in
      ap (option_and_then (λ (e : ListedInstance). option_and_then (λ (names : ModelNames). slice_get names.reads cell.item) (slice_get tables.names e.model))) entry.1
      ∙ ap (option_and_then (λ (names : ModelNames). slice_get names.reads cell.item)) found.1
      ∙ ap (λ (list : List (List (Option ℕ))). slice_get list cell.item) found.2.reads
      ∙ slice_get-map of entry.2.model.items cell.item ∙ ap (option_map of) in_model
      ∙ ap (λ (firsts : List First). Some (map (number_named firsts) (reads_of item))) (sym firsts_are)

-- the same of nets
module _ (nets : Nets) (cell : CellSite) (path : Path) (item : Item) (listed : slice_get (instances nets.design.now) cell.instance ≡ Some path) (at : item_at nets.design.now path cell.item ≡ Some item) where
  pub item_stands : item_at_site nets.design.now nets.tables.now cell ≡ Some item
  item_stands = ∥∥₁_elim nets.has_tables (hlevel (props, Coded-set items.the_row.coded)) (λ are. item_is nets.design.now nets.tables.now are cell path item listed at)

  pub numbers_stand : numbers_by nets.tables.now cell ≡ Some (map (number_named (instance_firsts nets.tables.now cell.instance)) (reads_of item))
  numbers_stand = ∥∥₁_elim nets.has_tables (hlevel props) (λ are. numbers_are nets.design.now nets.tables.now are cell path item listed at)

  pub item_here : (found : Item) → Some found ≡ item_at_site nets.design.now nets.tables.now cell → found ≡ item
  item_here found is = same_Some found item (is ∙ item_stands)

  pub numbers_here : (numbers : List (Option ℕ)) → Some numbers ≡ numbers_by nets.tables.now cell
      → AreNumbersOf (instance_firsts nets.tables.now cell.instance) (reads_of item) numbers
  numbers_here numbers is =
      let own = instance_firsts nets.tables.now cell.instance in
      numbers_of_names own (reads_of item) numbers (same_Some numbers (map (number_named own) (reads_of item)) (is ∙ numbers_stand))
