-- A walk after one more item.
use Rattle.std.proofs.Common.{◌≡◌, ◌<◌, ◌+◌, ◌-◌, ℕ, suc, Bool, true, false, cond, List, [], ◌∷◌, ◌++◌, length, length-append, append-nil, append_assoc, Some, Option, slice_get, reverse, flat_map, ⊎_elim, refl, sym, ◌∙◌, ap, subst, arith}
use Rattle.std.specs.List.{AllZip}
use Rattle.std.proofs.lemmas.Bool.{cases_lt}
use Rattle.std.proofs.lemmas.Option.{none-some, slice_get_within}
use Rattle.vw_design.specs.declared.item.Bind.{Bind}
use Rattle.vw_design.specs.declared.item.Item.{Item}
use Rattle.vw_design.specs.declared.item.Item.TheVariants.{Sub}
use Rattle.vw_design.specs.declared.design.Design.{Design}
use Rattle.vw_design.specs.Paths.{Word, Path, placings}
use Rattle.vw_design.specs.Claims.{and_behind}
use Rattle.vw_design.specs.Preorder.{Site, inside, sites_below, sites, instances_at, is_cell}
use Rattle.vw_design.specs.Limits.{IsSmall}
use Rattle.vw_design.proofs.ShallowDesigns.{shallow}
use Rattle.vw_design.proofs.Weights.{instances_weigh, cells_weigh}
use Rattle.vw_instances.specs.declared.tables.ListedInstance.{ListedInstance}
use Rattle.vw_instances.specs.declared.tables.CellSite.{CellSite}
use Rattle.vw_instances.specs.declared.frame.Frame.{Frame}
use Rattle.vw_instances.specs.Tables.{AreNumbered, IsPlacedBy, StandsBehind, IsEntryAt, IsCellSite}
use Rattle.vw_instances.specs.Steps.Frames.{FrameLevel, sites_left, listed_with, cells_among, IsFrame, entered, behind_item, site_of_frame, placed_in_frame, IsPartlyListed}
use Rattle.vw_design.proofs.ListPlaces.{in_front, behind}
use Rattle.vw_design.proofs.PairedLists.{AllZip-length, AllZip-wider, AllZip-push}
use Rattle.vw_instances.proofs.GrownLists.{last_first, two_last_first, more_numbered}
use Rattle.vw_instances.proofs.Nexts.{IsPlacedNext}
use Rattle.vw_instances.proofs.SitesLeft.{level_of, site_of, placings_behind, listed_more, cells_more, below_of, sites_cut, sites_start, levels_same}

-- an item that is a gate or a latch
pub record IsCellItem (item : Item) : Type 0 where
  pub cell : is_cell item ≡ true
  pub nowhere : (path : Path) (before : ℕ) → instances_at path before item ≡ []
  pub within : (below : Path → List Site) (path : Path) (before : ℕ) → inside below path before item ≡ []
  pub stays : (before : ℕ) → and_behind item before ≡ before

-- an entry among longer lists of paths
still_by : (listed longer : List Path) → ((number : ℕ) (path : Path) → slice_get listed number ≡ Some path → slice_get longer number ≡ Some path)
    → (number : ℕ) (path : Path) (parent at : ℕ) → IsPlacedBy listed number path parent at → IsPlacedBy longer number path parent at
still_by listed longer still number [] parent at is = is
still_by listed longer still number (place ∷ path) parent at is = (is.0, still parent path is.1, is.2)

module _ (design : Design) (table : List ListedInstance) (made : List CellSite) (frames : List Frame) (frame : Frame) (walk : IsPartlyListed design table made (frames ++ (frame ∷ [])))
    (path : Path) (front : List Item) (levels : List FrameLevel) (below : AllZip (IsFrame design (listed_with walk.done) (length walk.done)) levels (reverse frames)) where
  -- where no item is left, the frame stands for nothing
  pub ended : walk.done ++ flat_map (sites_left design) (level_of path front [] ∷ levels) ≡ sites design → IsPartlyListed design table made frames
  ended all = record { done = walk.done; levels = levels; all = all; placed = walk.placed; cells = walk.cells; stack = below }

  module _ (item : Item) (rest : List Item) (all : walk.done ++ flat_map (sites_left design) (level_of path front (item ∷ rest) ∷ levels) ≡ sites design)
      (top : IsFrame design (listed_with walk.done) (length walk.done) (level_of path front (item ∷ rest)) frame) where
    abbrev site : Site
    site = site_of path front item

    abbrev more_done : List Site
    more_done = walk.done ++ (site ∷ [])

    abbrev others : List Site
    others = sites_left design (level_of path (front ++ (item ∷ [])) rest) ++ flat_map (sites_left design) levels

    all_more : more_done ++ (inside (below_of design path) path (length (placings front)) item ++ others) ≡ sites design
    all_more =
        let in_it = inside (below_of design path) path (length (placings front)) item in
        let left = sites_left design (level_of path (front ++ (item ∷ [])) rest) in
        let further = flat_map (sites_left design) levels in
        append_assoc walk.done (site ∷ []) (in_it ++ others)
        ∙ ap (λ (list : List Site). walk.done ++ (site ∷ list)) (sym (append_assoc in_it left further))
        ∙ ap (λ (list : List Site). walk.done ++ (list ++ further)) (sym (sites_cut design path front item rest))
        ∙ all

    still : (number : ℕ) (p : Path) → slice_get (listed_with walk.done) number ≡ Some p → slice_get (listed_with more_done) number ≡ Some p
    still number p at =
        ap (λ (list : List Path). slice_get list number) (listed_more walk.done site)
        ∙ in_front (listed_with walk.done) (instances_at path (length (placings front)) item) number p at

    longer : length more_done ≡ suc (length walk.done)
    longer = omega (arith, length-append walk.done (site ∷ []))

    still_frame : (level : FrameLevel) (other : Frame) → IsFrame design (listed_with walk.done) (length walk.done) level other → IsFrame design (listed_with more_done) (length more_done) level other
    still_frame level other is = record {
      model = is.model;
      stands = is.stands;
      items = is.items;
      instance_is = still other.instance level.path is.instance_is;
      model_is = is.model_is;
      item_is = is.item_is;
      before_is = is.before_is;
      short = omega (arith, is.short, longer);
    }

    still_below : AllZip (IsFrame design (listed_with more_done) (length more_done)) levels (reverse frames)
    still_below = AllZip-wider (IsFrame design (listed_with walk.done) (length walk.done)) (IsFrame design (listed_with more_done) (length more_done)) still_frame levels (reverse frames) below

    next_frame : (before : ℕ) → before ≡ and_behind item (length (placings front))
        → IsFrame design (listed_with more_done) (length more_done) (level_of path (front ++ (item ∷ [])) rest) (behind_item frame before)
    next_frame before is = record {
      model = top.model;
      stands = top.stands;
      items = top.items ∙ sym (append_assoc front (item ∷ []) rest);
      instance_is = still frame.instance path top.instance_is;
      model_is = top.model_is;
      item_is = omega (arith, top.item_is, length-append front (item ∷ []));
      before_is = is ∙ sym (placings_behind front item);
      short = omega (arith, top.short, longer, length-append front (item ∷ []));
    }

    still_placed : (number : ℕ) (p : Path) (entry : ListedInstance) → IsEntryAt design (listed_with walk.done) number p entry → IsEntryAt design (listed_with more_done) number p entry
    still_placed number p entry is =
        record { model = is.model; stands = is.stands; model_is = is.model_is; by = still_by (listed_with walk.done) (listed_with more_done) still number p entry.parent entry.place is.by; at = is.at }

    still_cell : (s : Site) (entry : CellSite) → IsCellSite (listed_with walk.done) s entry → IsCellSite (listed_with more_done) s entry
    still_cell s entry is = record { instance_is = still entry.instance s.path is.instance_is; item_is = is.item_is }

    still_cells : AllZip (IsCellSite (listed_with more_done)) (cells_among walk.done) made
    still_cells = AllZip-wider (IsCellSite (listed_with walk.done)) (IsCellSite (listed_with more_done)) still_cell (cells_among walk.done) made walk.cells

    -- a gate or a latch is listed, and the items behind it are left
    pub cell_listed : IsCellItem item
        → IsPartlyListed design table (made ++ (site_of_frame frame ∷ [])) (frames ++ (behind_item frame frame.before ∷ []))
    cell_listed is =
        let entry : CellSite = site_of_frame frame in
        let next : Frame = behind_item frame frame.before in
        let level = level_of path (front ++ (item ∷ [])) rest in
        let same : listed_with more_done ≡ listed_with walk.done =
        listed_more walk.done site ∙ ap (λ (list : List Path). listed_with walk.done ++ list) (is.nowhere path (length (placings front))) ∙ append-nil (listed_with walk.done) in
        let kept : cells_among more_done ≡ cells_among walk.done ++ (site ∷ []) =
        cells_more walk.done site ∙ ap (λ (b : Bool). cells_among walk.done ++ cond b (site ∷ []) []) is.cell in
        let here : IsCellSite (listed_with more_done) site entry = record { instance_is = still frame.instance path top.instance_is; item_is = top.item_is } in
        record {
          done = more_done;
          levels = level ∷ levels;
          all = ap (λ (list : List Site). more_done ++ (list ++ others)) (sym (is.within (below_of design path) path (length (placings front)))) ∙ all_more;
          placed = subst (λ (paths : List Path). AreNumbered (IsEntryAt design paths) paths table) (sym same) walk.placed;
          cells = subst (λ (list : List Site). AllZip (IsCellSite (listed_with more_done)) list (made ++ (entry ∷ []))) (sym kept)
              (AllZip-push (IsCellSite (listed_with more_done)) (cells_among walk.done) made site entry still_cells here);
          stack = subst (λ (list : List Frame). AllZip (IsFrame design (listed_with more_done) (length more_done)) (level ∷ levels) list) (sym (last_first frames next))
              (next_frame frame.before (top.before_is ∙ sym (is.stays (length (placings front)))), still_below);
        }

    -- an item that places an instance
    record IsPlacingItem : Type 0 where
      cell : is_cell item ≡ false
      placed : instances_at path (length (placings front)) item ≡ (suc (length (placings front)) ∷ path) ∷ []
      within : inside (below_of design path) path (length (placings front)) item ≡ below_of design path (suc (length (placings front)) ∷ path)
      counts : and_behind item (length (placings front)) ≡ suc (length (placings front))

    -- the instance is listed, and all of its items are left, and then the items behind the one that places it
    instance_listed : (targets : List (List (Option ℕ))) → IsSmall design → (next : IsPlacedNext design targets path (length (placings front)) frame) → IsPlacingItem
        → IsPartlyListed design (table ++ (placed_in_frame frame next.number (length made) ∷ [])) made
        (frames ++ (behind_item frame (frame.before + 1) ∷ entered (length table) next.number ∷ []))
    instance_listed targets small next is =
        let here = suc (length (placings front)) ∷ path in
        let entry : ListedInstance = placed_in_frame frame next.number (length made) in
        let one : Frame = behind_item frame (frame.before + 1) in
        let other : Frame = entered (length table) next.number in
        let level = level_of path (front ++ (item ∷ [])) rest in
        let inner = level_of here [] next.model.items in
        let listed : listed_with more_done ≡ listed_with walk.done ++ (here ∷ []) =
        listed_more walk.done site ∙ ap (λ (list : List Path). listed_with walk.done ++ list) is.placed in
        let kept : cells_among more_done ≡ cells_among walk.done =
        cells_more walk.done site ∙ ap (λ (b : Bool). cells_among walk.done ++ cond b (site ∷ []) []) is.cell ∙ append-nil (cells_among walk.done) in
        let short : length here < 64 =
        ⊎_elim (λ low. low) (λ deep. absurd (none-some next.model (sym ((shallow design small.depth).shallow here deep) ∙ next.stands))) (cases_lt (length here) 64) in
        let levelled : below_of design path here ≡ sites_below design (65 + length design.models - length here) here =
        ap (λ (depth : ℕ). sites_below design depth here) (levels_same design path (suc (length (placings front)))) in
        let started : sites_below design (65 + length design.models - length here) here ≡ sites_left design inner = sites_start design here next.model next.stands (omega arith) in
        let whole : more_done ++ (sites_below design (65 + length design.models - length here) here ++ others) ≡ sites design =
        ap (λ (list : List Site). more_done ++ (list ++ others)) (sym (is.within ∙ levelled)) ∙ all_more in
        let count : length (listed_with more_done) ≡ length (listed_with walk.done) + 1 =
        ap (λ (list : List Path). length list) listed ∙ length-append (listed_with walk.done) (here ∷ []) in
        let at : StandsBehind design here (length made) (length (listed_with walk.done)) = record {
          before = more_done;
          after = others;
          split = sym whole;
          just_behind = (walk.done, site, refl, is.placed);
          cells_before =
              sym (AllZip-length (IsCellSite (listed_with walk.done)) (cells_among walk.done) made walk.cells) ∙ ap (λ (list : List Site). length list) (sym kept) ∙ cells_weigh more_done;
          number_is = omega (arith, count, instances_weigh more_done);
        } in
        let new : IsEntryAt design (listed_with more_done) (length (listed_with walk.done)) here entry = record {
          model = next.model;
          stands = next.stands;
          model_is = next.model_is;
          by = (omega (arith, top.before_is), still frame.instance path top.instance_is, slice_get_within (listed_with walk.done) frame.instance path top.instance_is);
          at = at;
        } in
        let opened : IsFrame design (listed_with more_done) (length more_done) inner other = record {
          model = next.model;
          stands = next.stands;
          items = refl;
          instance_is =
              ap (λ (list : List Path). slice_get list (length table)) listed
              ∙ ap (slice_get (listed_with walk.done ++ (here ∷ []))) (sym walk.placed.same_length)
              ∙ behind (listed_with walk.done) (here ∷ []);
          model_is = next.model_is;
          item_is = refl;
          before_is = refl;
          short = omega arith;
        } in
        record {
          done = more_done;
          levels = inner ∷ level ∷ levels;
          all = ap (λ (list : List Site). more_done ++ (list ++ others)) (sym started) ∙ whole;
          placed = subst (λ (paths : List Path). AreNumbered (IsEntryAt design (listed_with more_done)) paths (table ++ (entry ∷ []))) (sym listed)
              (more_numbered (IsEntryAt design (listed_with walk.done)) (IsEntryAt design (listed_with more_done)) still_placed (listed_with walk.done) table here entry walk.placed new);
          cells = subst (λ (list : List Site). AllZip (IsCellSite (listed_with more_done)) list made) (sym kept) still_cells;
          stack = subst (λ (list : List Frame). AllZip (IsFrame design (listed_with more_done) (length more_done)) (inner ∷ level ∷ levels) list) (sym (two_last_first frames one other))
              (opened, (next_frame (frame.before + 1) (omega (arith, top.before_is) ∙ sym is.counts), still_below));
        }

  pub placed_listed : (line : ℕ) (name : Word) (binds : List Bind) (rest : List Item)
      → walk.done ++ flat_map (sites_left design) (level_of path front (Sub line name binds ∷ rest) ∷ levels) ≡ sites design
      → IsFrame design (listed_with walk.done) (length walk.done) (level_of path front (Sub line name binds ∷ rest)) frame
      → (targets : List (List (Option ℕ))) → IsSmall design → (next : IsPlacedNext design targets path (length (placings front)) frame)
      → IsPartlyListed design (table ++ (placed_in_frame frame next.number (length made) ∷ [])) made
      (frames ++ (behind_item frame (frame.before + 1) ∷ entered (length table) next.number ∷ []))
  placed_listed line name binds rest all top targets small next =
      instance_listed (Sub line name binds) rest all top targets small next (record { cell = refl; placed = refl; within = refl; counts = refl })
