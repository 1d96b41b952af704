-- How far a walk over a design has come.
use Rattle.std.specs.Prelude.{◌≡◌, ◌≤◌, ◌+◌, ◌-◌, ◌*◌, ℕ, List, [], ◌∷◌, ◌++◌, length, reverse, filter, flat_map, slice_get, Some}
use Rattle.std.specs.List.{AllZip}
use Rattle.vw_design.specs.declared.design.Design.{Design}
use Rattle.vw_design.specs.declared.item.Item.{Item}
use Rattle.vw_design.specs.declared.model.Model.{Model}
use Rattle.vw_design.specs.Paths.{Path, placings, model_at}
use Rattle.vw_design.specs.Claims.{numbered}
use Rattle.vw_design.specs.Preorder.{Site, with_inside, sites_below, sites, is_cell, paths_of}
use Rattle.vw_design.specs.Limits.{instance_count, cell_count}
use Rattle.vw_instances.specs.declared.tables.ListedInstance.{ListedInstance}
use Rattle.vw_instances.specs.declared.tables.CellSite.{CellSite}
use Rattle.vw_instances.specs.declared.frame.Frame.{Frame}
use Rattle.vw_instances.specs.Tables.{AreNumbered, IsEntryAt, IsCellSite}

-- an instance whose items are being listed: those that are listed, and those that are left
pub record FrameLevel : Type 0 where
  pub path : Path
  pub front : List Item
  pub left : List Item

-- the sites that are left in it
abbrev pub sites_left : Design → FrameLevel → List Site
sites_left design level =
    flat_map (with_inside (sites_below design (64 + length design.models - length level.path)) level.path)
    (numbered (length level.front) (length (placings level.front)) level.left)

-- the paths that are listed with some sites
abbrev pub listed_with : List Site → List Path
listed_with done = [] ∷ paths_of done

abbrev pub cells_among : List Site → List Site
cells_among done = filter (λ site. is_cell site.item) done

-- a frame stands for such an instance, among listed paths, where so many sites are done
pub record IsFrame (design : Design) (listed : List Path) (done : ℕ) (level : FrameLevel) (frame : Frame) : Type 0 where
  pub model : Model
  pub stands : model_at design level.path ≡ Some model
  pub items : model.items ≡ level.front ++ level.left
  pub instance_is : slice_get listed frame.instance ≡ Some level.path
  pub model_is : slice_get design.models frame.model ≡ Some model
  pub item_is : frame.item ≡ length level.front
  pub before_is : frame.before ≡ length (placings level.front)
  pub short : length level.front ≤ done

-- the frame of an instance of which no item is listed, and a frame behind one more item, with so many `.subckt` items
-- before that
abbrev pub entered : ℕ → ℕ → Frame
entered instance model = record { instance = instance; model = model; item = 0; before = 0 }

abbrev pub behind_item : Frame → ℕ → Frame
behind_item frame before = record { instance = frame.instance; model = frame.model; item = frame.item + 1; before = before }

-- the entry of the next item of a frame: of a gate or a latch, and of an instance of a model, behind so many cells
abbrev pub site_of_frame : Frame → CellSite
site_of_frame frame = record { instance = frame.instance; item = frame.item }

abbrev pub placed_in_frame : Frame → ℕ → ℕ → ListedInstance
placed_in_frame frame model cells = record { model = model; parent = frame.instance; place = frame.before + 1; cells = cells }

-- the tables have the sites that are done, and the frames, of which the last one comes first, have the others
pub record IsPartlyListed (design : Design) (table : List ListedInstance) (made : List CellSite) (frames : List Frame) : Type 0 where
  pub done : List Site
  pub levels : List FrameLevel
  pub all : done ++ flat_map (sites_left design) levels ≡ sites design
  pub placed : AreNumbered (IsEntryAt design (listed_with done)) (listed_with done) table
  pub cells : AllZip (IsCellSite (listed_with done)) (cells_among done) made
  pub stack : AllZip (IsFrame design (listed_with done) (length done)) levels (reverse frames)

-- how many steps a walk has left at most
abbrev pub steps_left : Design → List ListedInstance → List CellSite → List Frame → ℕ
steps_left design table made frames =
    2 * (instance_count design + cell_count design - (length table + length made)) + length frames
