-- The items of cells by the tables.
use Rattle.std.specs.Prelude.{◌≡◌, ℕ, List, Option, Some, option_map, option_and_then, slice_get}
use Rattle.std.specs.Borrow.{Bor}
use Rattle.vw_design.specs.declared.item.Item.{Item}
use Rattle.vw_design.specs.declared.design.Design.{Design}
use Rattle.vw_design.specs.Paths.{Word}
use Rattle.vw_instances.specs.declared.tables.CellSite.{CellSite}
use Rattle.vw_drivers.specs.Firsts.{First, number_named}
use Rattle.vw_drivers.specs.declared.tables.Tables.{Tables}

-- an item, and a name, that lies elsewhere, if there is one
abbrev pub lent_item : Option (Bor Item) → Option Item
lent_item item = option_map (λ item. item.now) item

-- the item of a cell, and the numbers of the first claims on what it reads
abbrev pub item_at_site : Design → Tables → CellSite → Option Item
item_at_site design tables cell =
    option_and_then (λ entry. option_and_then (λ model. slice_get model.items cell.item) (slice_get design.models entry.model)) (slice_get tables.instances cell.instance)

abbrev pub numbers_by : Tables → CellSite → Option (List (Option ℕ))
numbers_by tables cell =
    option_and_then (λ entry. option_and_then (λ names. slice_get names.reads cell.item) (slice_get tables.names entry.model)) (slice_get tables.instances cell.instance)

-- names have the numbers of the first claims on them
abbrev pub AreNumbersOf : List First → List Word → List (Option ℕ) → Type 0
AreNumbersOf firsts names numbers =
    (place : ℕ) (name : Word) → slice_get names place ≡ Some name → option_and_then (λ number. number) (slice_get numbers place) ≡ number_named firsts name
