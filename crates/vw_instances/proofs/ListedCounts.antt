-- How many sites, cells and paths there are, and how many a walk has listed.
use Rattle.std.proofs.Common.{◌≡◌, ◌<◌, ◌≤◌, ◌+◌, ◌^◌, suc, List, [], ◌∷◌, ◌++◌, length, length-append, filter, flat_map, reverse, refl, sym, ◌∙◌, ap, subst, arith}
use Rattle.std.specs.List.{AllZip}
use Rattle.vw_design.specs.declared.item.Item.{Item}
use Rattle.vw_design.specs.declared.item.Item.TheVariants.{Names, Latch, Sub}
use Rattle.vw_design.specs.declared.design.Design.{Design}
use Rattle.vw_design.specs.Paths.{placings}
use Rattle.vw_design.specs.Preorder.{Site, sites, instances_at, paths_of, is_cell}
use Rattle.vw_design.specs.Limits.{IsSmall, instance_count, cell_count}
use Rattle.vw_design.proofs.PairedLists.{AllZip-length}
use Rattle.vw_instances.specs.declared.tables.ListedInstance.{ListedInstance}
use Rattle.vw_instances.specs.declared.tables.CellSite.{CellSite}
use Rattle.vw_instances.specs.declared.frame.Frame.{Frame}
use Rattle.vw_instances.specs.Tables.{IsCellSite}
use Rattle.vw_instances.specs.Steps.Frames.{FrameLevel, sites_left, listed_with, cells_among, IsFrame, IsPartlyListed}
use Rattle.vw_instances.proofs.GrownLists.{last_first}

-- a site is a cell, or it places an instance
pub sites_count : (list : List Site) → length list ≡ length (cells_among list) + length (paths_of list)
sites_count [] = refl
sites_count (site ∷ list) = by site.item (sites_count list) where
  by : (item : Item) → length list ≡ length (cells_among list) + length (paths_of list)
      → suc (length list) ≡ length (filter (λ (s : Site). is_cell s.item) (record { path = site.path; number = site.number; before = site.before; item = item } ∷ list))
      + length (instances_at site.path site.before item ++ paths_of list)
  by (Names line ins out cover) rest = omega arith
  by (Latch line d q edge control init) rest = omega arith
  by (Sub line model binds) rest = omega arith

placings_count : (items : List Item) → length (placings items) ≤ length items
placings_count [] = omega arith
placings_count (Names line ins out cover ∷ items) = omega (arith, placings_count items)
placings_count (Latch line d q edge control init ∷ items) = omega (arith, placings_count items)
placings_count (Sub line model binds ∷ items) = omega (arith, placings_count items)

module _ (design : Design) where
  -- what a walk has listed is no more than there is
  pub walk_within : (table : List ListedInstance) (made : List CellSite) (frames : List Frame) → IsPartlyListed design table made frames
      → length table + length made ≤ instance_count design + cell_count design
  walk_within table made frames walk =
      let whole : length walk.done + length (flat_map (sites_left design) walk.levels) ≡ length (sites design) =
      sym (length-append walk.done (flat_map (sites_left design) walk.levels)) ∙ ap (λ (list : List Site). length list) walk.all in
      omega (
        arith,
        whole,
        sites_count walk.done,
        sites_count (sites design),
        walk.placed.same_length,
        AllZip-length (IsCellSite (listed_with walk.done)) (cells_among walk.done) made walk.cells,
      )

  -- the last frame apart
  pub record IsTop (table : List ListedInstance) (made : List CellSite) (frames : List Frame) (frame : Frame) (walk : IsPartlyListed design table made (frames ++ (frame ∷ []))) : Type 0 where
    pub level : FrameLevel
    pub levels : List FrameLevel
    pub all : walk.done ++ flat_map (sites_left design) (level ∷ levels) ≡ sites design
    pub top : IsFrame design (listed_with walk.done) (length walk.done) level frame
    pub below : AllZip (IsFrame design (listed_with walk.done) (length walk.done)) levels (reverse frames)

  pub top_of : (table : List ListedInstance) (made : List CellSite) (frames : List Frame) (frame : Frame) (walk : IsPartlyListed design table made (frames ++ (frame ∷ []))) → IsTop table made frames frame walk
  top_of table made frames frame walk =
      by walk.levels walk.all (subst (λ (list : List Frame). AllZip (IsFrame design (listed_with walk.done) (length walk.done)) walk.levels list) (last_first frames frame) walk.stack)
    where
      by : (levels : List FrameLevel) → walk.done ++ flat_map (sites_left design) levels ≡ sites design
          → AllZip (IsFrame design (listed_with walk.done) (length walk.done)) levels (frame ∷ reverse frames) → IsTop table made frames frame walk
      by [] all along = absurd along
      by (level ∷ levels) all along = record { level = level; levels = levels; all = all; top = along.0; below = along.1 }

  -- the numbers of a walk are small
  pub record IsSmallWalk (table : List ListedInstance) (made : List CellSite) (frame : Frame) : Type 0 where
    pub item : frame.item + 1 < 2 ^ 32
    pub before : frame.before + 1 < 2 ^ 32
    pub instances : length table < 2 ^ 32
    pub cells : length made < 2 ^ 32

  pub are_small : IsSmall design → (table : List ListedInstance) (made : List CellSite) (frames : List Frame) (frame : Frame) → IsPartlyListed design table made (frames ++ (frame ∷ [])) → IsSmallWalk table made frame
  are_small small table made frames frame walk =
      let top = top_of table made frames frame walk in
      let within = walk_within table made (frames ++ (frame ∷ [])) walk in
      let count = sites_count walk.done in
      let longer = placings_count top.level.front in
      let listed = walk.placed.same_length in
      let kept = AllZip-length (IsCellSite (listed_with walk.done)) (cells_among walk.done) made walk.cells in
      record {
        item = omega (arith, top.top.short, top.top.item_is, small.instances, small.cells);
        before = omega (arith, top.top.short, top.top.before_is, small.instances, small.cells);
        instances = omega (arith, small.instances, small.cells);
        cells = omega (arith, small.instances, small.cells);
      }
