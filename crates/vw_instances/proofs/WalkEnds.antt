-- The start and the end of a walk.
use Rattle.std.proofs.Common.{◌≡◌, ◌+◌, ◌-◌, ℕ, List, [], ◌∷◌, ◌++◌, length, append-nil, take, reverse, flat_map, refl, sym, ◌∙◌, ap, subst, arith}
use Rattle.std.specs.List.{AllZip}
use Rattle.vw_design.specs.declared.design.Design.{Design}
use Rattle.vw_design.specs.Preorder.{Site, sites_below, sites}
use Rattle.vw_design.proofs.ModelNumbers.{root_model}
use Rattle.vw_instances.specs.declared.tables.ListedInstance.{ListedInstance}
use Rattle.vw_instances.specs.declared.tables.CellSite.{CellSite}
use Rattle.vw_instances.specs.declared.frame.Frame.{Frame}
use Rattle.vw_instances.specs.Tables.{AreNumbered, StandsBehind, IsEntryAt, IsCellSite, ArePlaced, AreCellSites}
use Rattle.vw_instances.specs.Steps.Frames.{FrameLevel, sites_left, listed_with, cells_among, IsFrame, IsPartlyListed}
use Rattle.vw_instances.proofs.GrownLists.{none_numbered, more_numbered}
use Rattle.vw_instances.proofs.SitesLeft.{level_of, sites_start}

module _ (design : Design) where
  pub starts : IsPartlyListed design (record { model = 0; parent = 0; place = 0; cells = 0 } ∷ []) [] (record { instance = 0; model = 0; item = 0; before = 0 } ∷ [])
  unfolding sites
  starts =
      let root = root_model design in
      let entry : ListedInstance = record { model = 0; parent = 0; place = 0; cells = 0 } in
      let first : Frame = record { instance = 0; model = 0; item = 0; before = 0 } in
      let level = level_of [] [] root.0.items in
      let all : sites design ≡ sites_below design (65 + length design.models - 0) [] = ap (λ (depth : ℕ). sites_below design depth []) (omega arith) in
      let at : StandsBehind design [] 0 0 = record {
        before = [];
        after = [];
        split = all ∙ sym (append-nil (sites_below design (65 + length design.models - 0) []));
        just_behind = refl;
        cells_before = refl;
        number_is = refl;
      } in
      let placed : IsEntryAt design ([] ∷ []) 0 [] entry = record { model = root.0; stands = root.1; model_is = root.1; by = (refl, refl); at = at } in
      let frame : IsFrame design ([] ∷ []) 0 level first = record {
        model = root.0;
        stands = root.1;
        items = refl;
        instance_is = refl;
        model_is = root.1;
        item_is = refl;
        before_is = refl;
        short = omega arith;
      } in
      record {
        done = [];
        levels = level ∷ [];
        all = append-nil (sites_left design level) ∙ sym (sites_start design [] root.0 root.1 (omega arith)) ∙ sym all;
        placed = more_numbered (IsEntryAt design ([] ∷ [])) (IsEntryAt design ([] ∷ [])) (λ number path e is. is) [] [] [] entry (none_numbered (IsEntryAt design ([] ∷ []))) placed;
        cells = tt;
        stack = (frame, tt);
      }

  module _ (table : List ListedInstance) (made : List CellSite) (frames : List Frame) (walk : IsPartlyListed design table made frames) (count : ℕ) (others : List Frame)
      (whole : frames ≡ others ++ []) (none_left : count ≡ 0) (are : others ≡ take (count - 1) frames) where
    -- where no frame is left, all is done
    no_frames : frames ≡ []
    no_frames = whole ∙ append-nil others ∙ are ∙ ap (λ (n : ℕ). take (n - 1) frames) none_left

    all_done : walk.done ≡ sites design
    all_done =
        by walk.levels (subst (λ (list : List Frame). AllZip (IsFrame design (listed_with walk.done) (length walk.done)) walk.levels list) (ap (λ (list : List Frame). reverse list) no_frames) walk.stack) walk.all
      where
        by : (levels : List FrameLevel) → AllZip (IsFrame design (listed_with walk.done) (length walk.done)) levels [] → walk.done ++ flat_map (sites_left design) levels ≡ sites design
            → walk.done ≡ sites design
        by [] along all = sym (append-nil walk.done) ∙ all
        by (level ∷ levels) along all = absurd along

    -- and the tables are those of the design
    pub ends_placed : ArePlaced design table
    ends_placed = subst (λ (done : List Site). AreNumbered (IsEntryAt design (listed_with done)) (listed_with done) table) all_done walk.placed

    pub ends_cells : AreCellSites design made
    ends_cells = subst (λ (done : List Site). AllZip (IsCellSite (listed_with done)) (cells_among done) made) all_done walk.cells
