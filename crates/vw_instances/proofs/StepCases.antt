-- What a step does, by what the frame has next.
use Rattle.std.proofs.Common.{◌≡◌, ◌<◌, ◌+◌, ℕ, List, [], ◌∷◌, ◌++◌, length, length-append, Option, None, slice_get, reverse, flat_map, Result, Ok, Err, OnOk, refl, sym, ◌∙◌, ap, subst, arith}
use Rattle.std.specs.List.{AllZip}
use Rattle.std.specs.declared.alloc.AllocError.{AllocError}
use Rattle.vw_design.specs.declared.item.Item.{Item}
use Rattle.vw_design.specs.declared.item.Item.TheVariants.{Names, Latch, Sub}
use Rattle.vw_design.specs.declared.design.Design.{Design}
use Rattle.vw_design.specs.Paths.{Path}
use Rattle.vw_design.specs.Preorder.{sites}
use Rattle.vw_design.specs.ModelFaults.{unknown_model}
use Rattle.vw_design.specs.ModelNumbers.{AreTargets}
use Rattle.vw_design.specs.Limits.{IsSmall}
use Rattle.vw_instances.specs.declared.tables.ListedInstance.{ListedInstance}
use Rattle.vw_instances.specs.declared.tables.CellSite.{CellSite}
use Rattle.vw_instances.specs.declared.frame.Frame.{Frame}
use Rattle.vw_instances.specs.declared.next.Next.{Next}
use Rattle.vw_instances.specs.declared.next.Next.TheVariants.{End, Cell, Place}
use Rattle.vw_instances.specs.Steps.Nexts.{target_at, next_placed, next_by, next_of}
use Rattle.vw_instances.specs.Steps.Frames.{FrameLevel, sites_left, listed_with, IsFrame, entered, behind_item, site_of_frame, placed_in_frame, IsPartlyListed, steps_left}
use Rattle.vw_instances.proofs.Nexts.{next_is, placed_next}
use Rattle.vw_instances.proofs.ListedCounts.{walk_within, IsTop, top_of}
use Rattle.vw_instances.proofs.SitesLeft.{level_of}
use Rattle.vw_instances.proofs.WalkSteps.{ended, cell_listed, placed_listed}

cell_end : Cell ≡ End → ⊥
cell_end e = cc

place_end : (model : ℕ) → Place model ≡ End → ⊥
place_end model e = cc

place_cell : (model : ℕ) → Place model ≡ Cell → ⊥
place_cell model e = cc

place_same : (one other : ℕ) → Place one ≡ Place other → one ≡ other
place_same one other e = cc

module _ (design : Design) (targets : List (List (Option ℕ))) (are_targets : AreTargets design targets) (none_unknown : unknown_model design ≡ None) (small : IsSmall design)
    (table : List ListedInstance) (made : List CellSite) (frames : List Frame) (frame : Frame) (walk : IsPartlyListed design table made (frames ++ (frame ∷ []))) where
  abbrev coming : Next
  coming = next_of design targets frame.model frame.item frame.before

  abbrev Left : FrameLevel → List FrameLevel → Type 0
  Left level levels = walk.done ++ flat_map (sites_left design) (level ∷ levels) ≡ sites design

  abbrev Below : List FrameLevel → Type 0
  Below levels = AllZip (IsFrame design (listed_with walk.done) (length walk.done)) levels (reverse frames)

  abbrev Top : FrameLevel → Type 0
  Top level = IsFrame design (listed_with walk.done) (length walk.done) level frame

  top : IsTop design table made frames frame walk
  top = top_of design table made frames frame walk

  by_left : (next : Next) → coming ≡ next → next_by (target_at targets frame.model frame.before) (slice_get top.level.left 0) ≡ next
  by_left next is = sym (next_is design targets (listed_with walk.done) (length walk.done) top.level frame top.top) ∙ is

  -- nothing is next where no item is left
  pub ends : coming ≡ End → IsPartlyListed design table made frames
  ends is = by top.level.path top.level.front top.level.left top.levels top.all top.top top.below (by_left End is) where
    by : (path : Path) (front left : List Item) (levels : List FrameLevel) → Left (level_of path front left) levels → Top (level_of path front left) → Below levels
        → next_by (target_at targets frame.model frame.before) (slice_get left 0) ≡ End → IsPartlyListed design table made frames
    by path front [] levels all is_top below none = ended design table made frames frame walk path front levels below all
    by path front (Names line ins out cover ∷ rest) levels all is_top below none = absurd (cell_end none)
    by path front (Latch line d q edge control init ∷ rest) levels all is_top below none = absurd (cell_end none)
    by path front (Sub line name binds ∷ rest) levels all is_top below none =
        let found = placed_next design targets are_targets none_unknown small (listed_with walk.done) (length walk.done) path front rest line name binds frame is_top in
        absurd (place_end found.number (sym (ap next_placed found.target_is) ∙ none))

  -- a gate or a latch is next
  pub lists_cell : coming ≡ Cell
      → IsPartlyListed design table (made ++ (site_of_frame frame ∷ [])) (frames ++ (behind_item frame frame.before ∷ []))
  lists_cell is = by top.level.path top.level.front top.level.left top.levels top.all top.top top.below (by_left Cell is) where
    by : (path : Path) (front left : List Item) (levels : List FrameLevel) → Left (level_of path front left) levels → Top (level_of path front left) → Below levels
        → next_by (target_at targets frame.model frame.before) (slice_get left 0) ≡ Cell
        → IsPartlyListed design table (made ++ (site_of_frame frame ∷ [])) (frames ++ (behind_item frame frame.before ∷ []))
    by path front [] levels all is_top below cell = absurd (cell_end (sym cell))
    by path front (Names line ins out cover ∷ rest) levels all is_top below cell =
        cell_listed design table made frames frame walk path front levels below (Names line ins out cover) rest all is_top
        (record { cell = refl; nowhere = λ p b. refl; within = λ f p b. refl; stays = λ b. refl })
    by path front (Latch line d q edge control init ∷ rest) levels all is_top below cell =
        cell_listed design table made frames frame walk path front levels below (Latch line d q edge control init) rest all is_top
        (record { cell = refl; nowhere = λ p b. refl; within = λ f p b. refl; stays = λ b. refl })
    by path front (Sub line name binds ∷ rest) levels all is_top below cell =
        let found = placed_next design targets are_targets none_unknown small (listed_with walk.done) (length walk.done) path front rest line name binds frame is_top in
        absurd (place_cell found.number (sym (ap next_placed found.target_is) ∙ cell))

  -- an instance is next
  pub lists_instance : (model : ℕ) → coming ≡ Place model
      → IsPartlyListed design (table ++ (placed_in_frame frame model (length made) ∷ [])) made
      (frames ++ (behind_item frame (frame.before + 1) ∷ entered (length table) model ∷ []))
  lists_instance model is = by top.level.path top.level.front top.level.left top.levels top.all top.top top.below (by_left (Place model) is) where
    by : (path : Path) (front left : List Item) (levels : List FrameLevel) → Left (level_of path front left) levels → Top (level_of path front left) → Below levels
        → next_by (target_at targets frame.model frame.before) (slice_get left 0) ≡ Place model
        → IsPartlyListed design (table ++ (placed_in_frame frame model (length made) ∷ [])) made
        (frames ++ (behind_item frame (frame.before + 1) ∷ entered (length table) model ∷ []))
    by path front [] levels all is_top below place = absurd (place_end model (sym place))
    by path front (Names line ins out cover ∷ rest) levels all is_top below place = absurd (place_cell model (sym place))
    by path front (Latch line d q edge control init ∷ rest) levels all is_top below place = absurd (place_cell model (sym place))
    by path front (Sub line name binds ∷ rest) levels all is_top below place =
        let found = placed_next design targets are_targets none_unknown small (listed_with walk.done) (length walk.done) path front rest line name binds frame is_top in
        let same : found.number ≡ model = place_same found.number model (sym (ap next_placed found.target_is) ∙ place) in
        subst (λ (m : ℕ). IsPartlyListed design (table ++ (placed_in_frame frame m (length made) ∷ [])) made
        (frames ++ (behind_item frame (frame.before + 1) ∷ entered (length table) m ∷ []))) same
        (placed_listed design table made frames frame walk path front levels below line name binds rest all is_top targets small found)

  abbrev falls : List ListedInstance → List CellSite → List Frame → Type 0
  falls new_table new_made new_frames = steps_left design new_table new_made new_frames < steps_left design table made (frames ++ (frame ∷ []))

  -- so a walk goes on, and has fewer steps left
  pub cell_step : (result : Result (Unit {0}) AllocError) (new_table : List ListedInstance) (new_made : List CellSite) (new_frames : List Frame) → coming ≡ Cell → new_table ≡ table
      → OnOk result (new_made ≡ made ++ (site_of_frame frame ∷ []))
      → OnOk result (new_frames ≡ frames ++ (behind_item frame frame.before ∷ []))
      → OnOk result (IsPartlyListed design new_table new_made new_frames)
  cell_step (Err error) new_table new_made new_frames is same cells next = tt
  cell_step (Ok done) new_table new_made new_frames is same cells next =
      subst (λ (t : List ListedInstance). IsPartlyListed design t new_made new_frames) (sym same)
      (subst (λ (m : List CellSite). IsPartlyListed design table m new_frames) (sym cells) (subst (λ (f : List Frame). IsPartlyListed design table (made ++ (site_of_frame frame ∷ [])) f) (sym next) (lists_cell is)))

  pub cell_falls : (result : Result (Unit {0}) AllocError) (new_table : List ListedInstance) (new_made : List CellSite) (new_frames : List Frame) → OnOk result (IsPartlyListed design new_table new_made new_frames)
      → new_table ≡ table
      → OnOk result (new_made ≡ made ++ (site_of_frame frame ∷ []))
      → OnOk result (new_frames ≡ frames ++ (behind_item frame frame.before ∷ []))
      → OnOk result (falls new_table new_made new_frames)
  cell_falls (Err error) new_table new_made new_frames goes_on same cells next = tt
  cell_falls (Ok done) new_table new_made new_frames goes_on same cells next =
      omega (
        arith,
        walk_within design new_table new_made new_frames goes_on,
        ap (λ (t : List ListedInstance). length t) same,
        ap (λ (m : List CellSite). length m) cells,
        ap (λ (f : List Frame). length f) next,
        length-append made (site_of_frame frame ∷ []),
        length-append frames (frame ∷ []),
        length-append frames (behind_item frame frame.before ∷ []),
      )

  pub instance_step : (result : Result (Unit {0}) AllocError) (new_table : List ListedInstance) (new_made : List CellSite) (new_frames : List Frame) (model : ℕ) → coming ≡ Place model → new_made ≡ made
      → OnOk result (new_table ≡ table ++ (placed_in_frame frame model (length made) ∷ []))
      → OnOk result (new_frames ≡ frames ++ (behind_item frame (frame.before + 1) ∷ entered (length table) model ∷ []))
      → OnOk result (IsPartlyListed design new_table new_made new_frames)
  instance_step (Err error) new_table new_made new_frames model is same listed next = tt
  instance_step (Ok done) new_table new_made new_frames model is same listed next =
      subst (λ (m : List CellSite). IsPartlyListed design new_table m new_frames) (sym same)
      (subst (λ (t : List ListedInstance). IsPartlyListed design t made new_frames) (sym listed)
      (subst (λ (f : List Frame). IsPartlyListed design (table ++ (placed_in_frame frame model (length made) ∷ [])) made f) (sym next) (lists_instance model is)))

  pub instance_falls : (result : Result (Unit {0}) AllocError) (new_table : List ListedInstance) (new_made : List CellSite) (new_frames : List Frame) (model : ℕ) → OnOk result (IsPartlyListed design new_table new_made new_frames)
      → new_made ≡ made
      → OnOk result (new_table ≡ table ++ (placed_in_frame frame model (length made) ∷ []))
      → OnOk result (new_frames ≡ frames ++ (behind_item frame (frame.before + 1) ∷ entered (length table) model ∷ []))
      → OnOk result (falls new_table new_made new_frames)
  instance_falls (Err error) new_table new_made new_frames model goes_on same listed next = tt
  instance_falls (Ok done) new_table new_made new_frames model goes_on same listed next =
      omega (
        arith,
        walk_within design new_table new_made new_frames goes_on,
        ap (λ (m : List CellSite). length m) same,
        ap (λ (t : List ListedInstance). length t) listed,
        ap (λ (f : List Frame). length f) next,
        length-append table (placed_in_frame frame model (length made) ∷ []),
        length-append frames (frame ∷ []),
        length-append frames (behind_item frame (frame.before + 1) ∷ entered (length table) model ∷ []),
      )
