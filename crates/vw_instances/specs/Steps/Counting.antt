-- Counts over models by their numbers, with an end: a count that would be greater stays at the greatest number of its type.
use Rattle.std.specs.Prelude.{◌≡◌, ◌+◌, ◌<◌, ℕ, min, max, List, length, take, Option, Some, None, slice_get, slice_index_or, IsTrue}
use Rattle.vw_design.specs.declared.item.Item.{Item}
use Rattle.vw_design.specs.declared.item.Item.TheVariants.{Names, Latch, Sub}
use Rattle.vw_design.specs.declared.design.Design.{Design}
use Rattle.vw_design.specs.Paths.{Word, model_named, items_of}
use Rattle.vw_design.specs.ModelFaults.{is_reached, place_in_file}
use Rattle.vw_design.specs.Limits.{binding_weight}
use Rattle.vw_design.specs.Counts.{placed_one, cell_one, items_weight, items_height, IsRanking}
use Rattle.vw_instances.specs.declared.measure.Measure.{Measure}
use Rattle.vw_instances.specs.declared.measure.Measure.TheVariants.{Instances, Bindings, Cells, Levels}
use Rattle.vw_instances.specs.declared.sizes.Before.{Before}
use Rattle.vw_instances.specs.declared.counting_tables.CountingTables.{CountingTables}

-- the greatest count
abbrev pub most : ℕ
most = 4294967295

-- two parts together: levels aren't added
abbrev pub merged : Measure → ℕ → ℕ → ℕ
merged Instances one other = one + other
merged Bindings one other = one + other
merged Cells one other = one + other
merged Levels one other = max one other

-- what a placed model counts by itself, with so many bindings, and what a gate or latch counts
abbrev pub own : Measure → ℕ → ℕ
own Instances bindings = 1
own Bindings bindings = bindings
own Cells bindings = 0
own Levels bindings = 1

abbrev pub cell_amount : Measure → ℕ
cell_amount Instances = 0
cell_amount Bindings = 0
cell_amount Cells = 1
cell_amount Levels = 0

-- the amount of an item, where that of the model that it places is given
abbrev pub single : Measure → Item → ℕ → ℕ
single measure (Names line ins out cover) below = cell_amount measure
single measure (Latch line d q edge control init) below = cell_amount measure
single measure (Sub line model binds) below = own measure (length binds) + below

-- the amount of items, where those of models are given
abbrev pub amount : Measure → (Word → ℕ) → List Item → ℕ
amount Instances below items = items_weight placed_one below items
amount Bindings below items = items_weight binding_weight below items
amount Cells below items = items_weight cell_one below items
amount Levels below items = items_height below items

-- the number at an item's place, and the count at a number
abbrev pub target_in : List (Option ℕ) → ℕ → Item → Option ℕ
target_in targets place (Names line ins out cover) = None
target_in targets place (Latch line d q edge control init) = None
target_in targets place (Sub line model binds) = slice_index_or targets place None

abbrev pub count_at : List ℕ → Option ℕ → ℕ
count_at counts None = 0
count_at counts (Some number) = slice_index_or counts number 0

abbrev pub IsWithinModels : ℕ → Option ℕ → Type 0
IsWithinModels count None = Unit {0}
IsWithinModels count (Some number) = number < count

-- the count of a name; none where the file has no model of the name
abbrev pub count_in : Design → List ℕ → Word → ℕ
count_in design counts name = slice_index_or counts (place_in_file design name) 0

-- for each model by number a count, which for those that are reached is that of its items
pub record AreCounts (design : Design) (measure : Measure) (counts : List ℕ) : Type 0 where
  pub each : length counts ≡ length design.models
  pub counted : (name : Word) → IsTrue (is_reached design name)
      → count_in design counts name ≡ min most (amount measure (count_in design counts) (items_of (model_named design.models name)))

-- ranks that are less than there are models
pub record IsRanked (design : Design) : Type 0 where
  pub rank : Word → ℕ
  pub ranking : IsRanking design (is_reached design) rank
  pub low : (name : Word) → IsTrue (is_reached design name) → rank name < length design.models

-- the tables of a design
pub record AreCountingTables (design : Design) (tables : CountingTables) : Type 0 where
  pub ranked : IsRanked design
  pub instances : AreCounts design Instances tables.instances.items
  pub bindings : AreCounts design Bindings tables.bindings.items
  pub cells : AreCounts design Cells tables.cells.items
  pub levels : AreCounts design Levels tables.levels.items

-- what stands before each of some items
abbrev pub AreEntries : Design → CountingTables → List Item → List Before → Type 0
AreEntries design tables items entries = (length entries ≡ length items)
    × ((k : ℕ) (entry : Before) → slice_get entries k ≡ Some entry
    → (entry.cells ≡ min most (amount Cells (count_in design tables.cells.items) (take k items)))
    × (entry.instances ≡ min most (amount Instances (count_in design tables.instances.items) (take k items))))
