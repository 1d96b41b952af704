-- The items of all instances in one order: an instance's items in text order, and behind a `.subckt` item all that it
-- places. Instances, cells and latches are numbered in this order, which is this project's choice.
use Rattle.std.specs.Prelude.{ℕ, zero, suc, ◌+◌, Bool, true, false, List, [], ◌∷◌, length, filter, flat_map}
use Rattle.vw_design.specs.declared.item.Item.{Item}
use Rattle.vw_design.specs.declared.item.Item.TheVariants.{Names, Latch, Sub}
use Rattle.vw_design.specs.declared.design.Design.{Design}
use Rattle.vw_design.specs.Paths.{Path, model_at, items_of}
use Rattle.vw_design.specs.Claims.{Numbered, numbered}

-- an item of an instance, with its number among the instance's items and the `.subckt` items before it
pub record Site : Type 0 where
  pub path : Path
  pub number : ℕ
  pub before : ℕ
  pub item : Item

-- an item of a model, at an instance of it
abbrev pub site_at : Path → Numbered → Site
site_at path entry = record { path = path; number = entry.number; before = entry.before; item = entry.item }

-- what stands inside an item: at a `.subckt` item, what stands below its place
abbrev pub inside : (Path → List Site) → Path → ℕ → Item → List Site
inside below path before (Names line ins out cover) = []
inside below path before (Latch line d q edge control init) = []
inside below path before (Sub line model binds) = below (suc before ∷ path)

-- an item of an instance, and what stands inside it
abbrev pub with_inside : (Path → List Site) → Path → Numbered → List Site
with_inside below path entry = site_at path entry ∷ inside below path entry.before entry.item

-- the items of an instance and of all those below it, at most so many levels deep
abbrev pub sites_below : Design → ℕ → Path → List Site
sites_below design zero path = []
sites_below design (suc depth) path =
    flat_map (with_inside (sites_below design depth) path) (numbered 0 0 (items_of (model_at design path)))

-- those of the whole design. Without models that place each other in a circle no instance lies deeper than there are
-- models; the further levels make a design that is too deep too deep here, too
unfoldable pub sites : Design → List Site
sites design = sites_below design (65 + length design.models) []

-- the instance that a site places
abbrev pub instances_at : Path → ℕ → Item → List Path
instances_at path before (Names line ins out cover) = []
instances_at path before (Latch line d q edge control init) = []
instances_at path before (Sub line model binds) = (suc before ∷ path) ∷ []

-- the instances that the items at some sites make
abbrev pub paths_of : List Site → List Path
paths_of list = flat_map (λ site. instances_at site.path site.before site.item) list

-- all instances: the root, and those that are placed
abbrev pub instances : Design → List Path
instances design = [] ∷ paths_of (sites design)

-- whether an item is a gate or a latch, and whether it is a latch
abbrev pub is_cell : Item → Bool
is_cell (Names line ins out cover) = true
is_cell (Latch line d q edge control init) = true
is_cell (Sub line model binds) = false

-- whether an item is a latch
abbrev pub is_latch_item : Item → Bool
is_latch_item (Names line ins out cover) = false
is_latch_item (Latch line d q edge control init) = true
is_latch_item (Sub line model binds) = false

-- the cells of a design in preorder: its tables and latches
abbrev pub cells : Design → List Site
cells design = filter (λ site. is_cell site.item) (sites design)

-- the latches of a design in preorder
abbrev pub latches : Design → List Site
latches design = filter (λ site. is_latch_item site.item) (sites design)
