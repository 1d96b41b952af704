-- Tables of the instances and the cells of a design by numbers: their places in preorder, from 0. Source: this project.
use Rattle.std.specs.Prelude.{◌≡◌, ◌<◌, ◌+◌, ◌-◌, ℕ, List, [], ◌∷◌, ◌++◌, length, slice_get, Some}
use Rattle.std.specs.List.{AllZip}
use Rattle.vw_design.specs.declared.design.Design.{Design}
use Rattle.vw_design.specs.declared.model.Model.{Model}
use Rattle.vw_design.specs.Paths.{Path, model_at}
use Rattle.vw_design.specs.Preorder.{Site, sites_below, sites, instances_at, instances, cells}
use Rattle.vw_design.specs.Limits.{weight_of}
use Rattle.vw_design.specs.Counts.{placed_one, cell_one}
use Rattle.vw_instances.specs.declared.tables.ListedInstance.{ListedInstance}
use Rattle.vw_instances.specs.declared.tables.CellSite.{CellSite}

-- two lists are of one length, and elements with the same number are related
pub record AreNumbered {A B : Type 0} (Related : ℕ → A → B → Type 0) (xs : List A) (ys : List B) : Type 0 where
  pub same_length : length xs ≡ length ys
  pub each : (number : ℕ) (x : A) → slice_get xs number ≡ Some x
      → (y : B) × (slice_get ys number ≡ Some y) × Related number x y

-- by which instance, and at which place there, a path is placed, among listed paths; the root is by none
abbrev pub IsPlacedBy : List Path → ℕ → Path → ℕ → ℕ → Type 0
IsPlacedBy listed number [] parent at = (parent ≡ 0) × (at ≡ 0)
IsPlacedBy listed number (place ∷ path) parent at = (at ≡ place) × (slice_get listed parent ≡ Some path) × (parent < number)

-- what stands before the items of an instance: nothing at the root, else the site that places it comes last
abbrev pub IsJustBehind : Path → List Site → Type 0
IsJustBehind [] before = before ≡ []
IsJustBehind (place ∷ path) before =
    (front : List Site) × (site : Site) × (before ≡ front ++ site ∷ []) × (instances_at site.path site.before site.item ≡ (place ∷ path) ∷ [])

-- where the items of an instance stand among all sites: so many cells stand before them, and so many instances are
-- placed before them, its own placing counted
pub record StandsBehind (design : Design) (path : Path) (cells number : ℕ) : Type 0 where
  pub before : List Site
  pub after : List Site
  pub split : sites design ≡ before ++ (sites_below design (65 + length design.models - length path) path ++ after)
  pub just_behind : IsJustBehind path before
  pub cells_before : cells ≡ weight_of cell_one before
  pub number_is : number ≡ weight_of placed_one before

-- the entry of the instance with a number
pub record IsEntryAt (design : Design) (listed : List Path) (number : ℕ) (path : Path) (entry : ListedInstance) : Type 0 where
  pub model : Model
  pub stands : model_at design path ≡ Some model
  pub model_is : slice_get design.models entry.model ≡ Some model
  pub by : IsPlacedBy listed number path entry.parent entry.place
  pub at : StandsBehind design path entry.cells number

-- the entries of all instances, in preorder
abbrev pub ArePlaced : Design → List ListedInstance → Type 0
ArePlaced design table = AreNumbered (IsEntryAt design (instances design)) (instances design) table

-- the entry of a gate or a latch: its instance, among listed paths, and its item there
pub record IsCellSite (listed : List Path) (site : Site) (entry : CellSite) : Type 0 where
  pub instance_is : slice_get listed entry.instance ≡ Some site.path
  pub item_is : entry.item ≡ site.number

-- the entries of all gates and latches, in preorder
abbrev pub AreCellSites : Design → List CellSite → Type 0
AreCellSites design table = AllZip (IsCellSite (instances design)) (cells design) table
