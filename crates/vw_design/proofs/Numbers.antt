-- The numbers of the cells and instances of one instance, from those that stand before it.
use Rattle.std.proofs.Common.{◌≡◌, ◌+◌, ℕ, suc, Bool, true, cond, List, [], ◌∷◌, ◌++◌, length, length-append, append_assoc, take, Some, slice_get, filter, flat_map, ⊎_elim, refl, sym, ◌∙◌, ap, subst, arith}
use Rattle.std.proofs.lemmas.List.Concat.{flat_map-append}
use Rattle.std.proofs.lemmas.List.Elements.{filter-append}
use Rattle.vw_design.specs.declared.item.Bind.{Bind}
use Rattle.vw_design.specs.declared.item.Item.{Item}
use Rattle.vw_design.specs.declared.item.Item.TheVariants.{Names, Latch, Sub}
use Rattle.vw_design.specs.declared.design.Design.{Design}
use Rattle.vw_design.specs.Paths.{Word, Path, placings, model_at, items_of}
use Rattle.vw_design.specs.Claims.{Numbered, and_behind, numbered}
use Rattle.vw_design.specs.Preorder.{Site, site_at, inside, with_inside, sites_below, sites, instances_at, paths_of, instances, is_cell, cells}
use Rattle.vw_design.specs.Limits.{weight_of}
use Rattle.vw_design.specs.Counts.{placed_one, cell_one, items_weight, model_weight}
use Rattle.vw_design.specs.PathValue.{item_at, place_of_site}
use Rattle.vw_design.proofs.ListElements.{Has, Has-left}
use Rattle.vw_design.proofs.Entries.{item_entry}
use Rattle.vw_design.proofs.Weights.{items_weigh, placed_weighs, instances_weigh, cells_weigh}
use Rattle.vw_design.proofs.SitesOnce.{site_once, cell_once}
use Rattle.vw_design.proofs.ListPlaces.{behind}

-- numbered items cut at one of them
record IsCutAt (number before : ℕ) (items : List Item) (entry : Numbered) : Type 0 where
  count : ℕ
  after : List Numbered
  number_is : entry.number ≡ number + count
  before_is : entry.before ≡ before + length (placings (take count items))
  whole : numbered number before items ≡ numbered number before (take count items) ++ (entry ∷ after)

one_before : (before : ℕ) (item : Item) (items : List Item) (k : ℕ)
    → and_behind item before + length (placings (take k items)) ≡ before + length (placings (take (suc k) (item ∷ items)))
one_before before (Names line ins out cover) items k = refl
one_before before (Latch line d q edge control init) items k = refl
one_before before (Sub line name binds) items k = omega arith

cut_entry : (number before : ℕ) (items : List Item) (entry : Numbered) → Has entry (numbered number before items) → IsCutAt number before items entry
cut_entry number before [] entry has = absurd has
cut_entry number before (item ∷ items) entry has =
    let here : Numbered = record { number = number; before = before; item = item } in
    let first = λ (same : here ≡ entry).
    let cut : IsCutAt number before (item ∷ items) entry = record {
      count = 0;
      after = numbered (suc number) (and_behind item before) items;
      number_is = ap (λ (e : Numbered). e.number) (sym same) ∙ omega arith;
      before_is = ap (λ (e : Numbered). e.before) (sym same) ∙ omega arith;
      whole = ap (λ (e : Numbered). e ∷ numbered (suc number) (and_behind item before) items) same;
    } in
    cut in
    let later = λ (found : Has entry (numbered (suc number) (and_behind item before) items)).
    let rest = cut_entry (suc number) (and_behind item before) items entry found in
    let cut : IsCutAt number before (item ∷ items) entry = record {
      count = suc rest.count;
      after = rest.after;
      number_is = rest.number_is ∙ omega arith;
      before_is = rest.before_is ∙ one_before before item items rest.count;
      whole = ap (λ (list : List Numbered). here ∷ list) rest.whole;
    } in
    cut in
    ⊎_elim first later has

-- the element behind what is kept of a front
kept_behind : {A : Type 0} (keep : A → Bool) (front rest : List A) (x : A) → keep x ≡ true
    → slice_get (filter keep (front ++ x ∷ rest)) (length (filter keep front)) ≡ Some x
kept_behind {A} keep front rest x kept =
    ap (λ (list : List A). slice_get list (length (filter keep front)))
    (filter-append keep front (x ∷ rest) ∙ ap (λ (b : Bool). filter keep front ++ cond b (x ∷ filter keep rest) (filter keep rest)) kept)
    ∙ behind (filter keep front) (x ∷ filter keep rest)

module _ (design : Design) where
  -- the sites of an instance, cut at one of its items: so much stands before it, and weighs as the items before it
  record IsCutSite (depth : ℕ) (path : Path) (entry : Numbered) : Type 0 where
    front : List Site
    rest : List Site
    whole : sites_below design (suc depth) path ≡ front ++ (site_at path entry ∷ rest)
    weighs : (weight : Item → ℕ)
        → weight_of weight front ≡ items_weight weight (model_weight design weight depth) (take entry.number (items_of (model_at design path)))

  cut_site : (depth : ℕ) (path : Path) (entry : Numbered) → Has entry (numbered 0 0 (items_of (model_at design path))) → IsCutSite depth path entry
  cut_site depth path entry has =
      let items = items_of (model_at design path) in
      let each = with_inside (sites_below design depth) path in
      let cut = cut_entry 0 0 items entry has in
      let before = numbered 0 0 (take cut.count items) in
      let same : cut.count ≡ entry.number = sym (cut.number_is ∙ omega arith) in
      record {
        front = flat_map each before;
        rest = inside (sites_below design depth) path entry.before entry.item ++ flat_map each cut.after;
        whole = ap (flat_map each) cut.whole ∙ flat_map-append each before (entry ∷ cut.after);
        weighs = λ weight.
            items_weigh design weight depth path 0 0 (take cut.count items)
            (λ e listed line name binds is.
            placed_weighs design weight depth path e (subst (λ (list : List Numbered). Has e list) (sym cut.whole) (Has-left e before (entry ∷ cut.after) listed)) line name binds is)
            ∙ ap (λ (n : ℕ). items_weight weight (model_weight design weight depth) (take n items)) same;
      }

  -- where the sites of an instance stand behind some sites of the design
  cut_design : (before after : List Site) (depth : ℕ) (path : Path)
      → sites design ≡ before ++ (sites_below design (suc depth) path ++ after) → (entry : Numbered) → (cut : IsCutSite depth path entry)
      → sites design ≡ (before ++ cut.front) ++ (site_at path entry ∷ (cut.rest ++ after))
  cut_design before after depth path all entry cut =
      all ∙ ap (λ (list : List Site). before ++ (list ++ after)) cut.whole
      ∙ ap (λ (list : List Site). before ++ list) (append_assoc cut.front (site_at path entry ∷ cut.rest) after)
      ∙ sym (append_assoc before cut.front (site_at path entry ∷ (cut.rest ++ after)))

  -- a cell's number: the cells before the instance, and what the items before it weigh
  pub cell_number : (before after : List Site) (depth : ℕ) (path : Path) → sites design ≡ before ++ (sites_below design (suc depth) path ++ after)
      → (number : ℕ) (item : Item) → item_at design path number ≡ Some item → is_cell item ≡ true
      → place_of_site (cells design) path number ≡ Some (weight_of cell_one before + items_weight cell_one (model_weight design cell_one depth) (take number (items_of (model_at design path))))
  cell_number before after depth path all number item at cell =
      let entry = item_entry (items_of (model_at design path)) number item at in
      let cut = cut_site depth path entry.entry entry.has in
      let whole = cut_design before after depth path all entry.entry cut in
      let keep = λ (s : Site). is_cell s.item in
      let place = length (filter keep (before ++ cut.front)) in
      let stands : slice_get (cells design) place ≡ Some (site_at path entry.entry) =
      ap (λ (list : List Site). slice_get (filter keep list) place) whole
      ∙ kept_behind keep (before ++ cut.front) (cut.rest ++ after) (site_at path entry.entry) (ap is_cell entry.item_is ∙ cell) in
      let counted = ap (λ (list : List Site). length list) (filter-append keep before cut.front) ∙ length-append (filter keep before) (filter keep cut.front) in
      let weighs = cut.weighs cell_one in
      let named = ap (λ (n : ℕ). items_weight cell_one (model_weight design cell_one depth) (take n (items_of (model_at design path)))) entry.number_is in
      let sum : place ≡ weight_of cell_one before + items_weight cell_one (model_weight design cell_one depth) (take number (items_of (model_at design path))) =
      omega (arith, counted, cells_weigh before, cells_weigh cut.front, weighs, named) in
      ap (place_of_site (cells design) path) (sym entry.number_is) ∙ cell_once design place (site_at path entry.entry) stands ∙ ap (λ (n : ℕ). Some n) sum

  -- each site is a cell or places an instance
  all_weigh : (list : List Site) → length list ≡ weight_of cell_one list + weight_of placed_one list
  all_weigh [] = refl
  all_weigh (site ∷ list) = omega (arith, all_weigh list, one_each site.item) where
    one_each : (item : Item) → cell_one item + placed_one item ≡ 1
    one_each (Names line ins out cover) = refl
    one_each (Latch line d q edge control init) = refl
    one_each (Sub line name binds) = refl

  -- a site's number: the sites before the instance, and the cells and instances that the items before it count
  pub site_number : (before after : List Site) (depth : ℕ) (path : Path) → sites design ≡ before ++ (sites_below design (suc depth) path ++ after)
      → (number : ℕ) (item : Item) → item_at design path number ≡ Some item
      → place_of_site (sites design) path number
      ≡ Some ((weight_of cell_one before + weight_of placed_one before)
      + (items_weight cell_one (model_weight design cell_one depth) (take number (items_of (model_at design path)))
      + items_weight placed_one (model_weight design placed_one depth) (take number (items_of (model_at design path)))))
  site_number before after depth path all number item at =
      let items = items_of (model_at design path) in
      let entry = item_entry items number item at in
      let cut = cut_site depth path entry.entry entry.has in
      let whole = cut_design before after depth path all entry.entry cut in
      let stands : slice_get (sites design) (length (before ++ cut.front)) ≡ Some (site_at path entry.entry) =
      ap (λ (list : List Site). slice_get list (length (before ++ cut.front))) whole ∙ behind (before ++ cut.front) (site_at path entry.entry ∷ (cut.rest ++ after)) in
      let cells_named = ap (λ (n : ℕ). items_weight cell_one (model_weight design cell_one depth) (take n items)) entry.number_is in
      let placed_named = ap (λ (n : ℕ). items_weight placed_one (model_weight design placed_one depth) (take n items)) entry.number_is in
      let sum : length (before ++ cut.front)
      ≡ (weight_of cell_one before + weight_of placed_one before)
      + (items_weight cell_one (model_weight design cell_one depth) (take number items) + items_weight placed_one (model_weight design placed_one depth) (take number items)) =
      omega (arith, length-append before cut.front, all_weigh before, all_weigh cut.front, cut.weighs cell_one, cut.weighs placed_one, cells_named, placed_named) in
      ap (place_of_site (sites design) path) (sym entry.number_is) ∙ site_once design (length (before ++ cut.front)) (site_at path entry.entry) stands ∙ ap (λ (n : ℕ). Some n) sum

  -- the number of an instance that an item places: the root, the instances before its parent's items, and what the items
  -- before it weigh
  entry_number : (before after : List Site) (depth : ℕ) (path : Path) → sites design ≡ before ++ (sites_below design (suc depth) path ++ after)
      → (entry : Numbered) → Has entry (numbered 0 0 (items_of (model_at design path))) → (line : ℕ) (name : Word) (binds : List Bind)
      → entry.item ≡ Sub line name binds
      → slice_get (instances design) (1 + (weight_of placed_one before + items_weight placed_one (model_weight design placed_one depth) (take entry.number (items_of (model_at design path)))))
      ≡ Some (suc entry.before ∷ path)
  entry_number before after depth path all entry has line name binds is =
      let cut = cut_site depth path entry has in
      let whole = cut_design before after depth path all entry cut in
      let placed = λ (s : Site). instances_at s.path s.before s.item in
      let front = paths_of (before ++ cut.front) in
      let listed : paths_of (sites design) ≡ front ++ ((suc entry.before ∷ path) ∷ paths_of (cut.rest ++ after)) =
      ap paths_of whole ∙ flat_map-append placed (before ++ cut.front) (site_at path entry ∷ (cut.rest ++ after))
      ∙ ap (λ (i : Item). front ++ (instances_at path entry.before i ++ paths_of (cut.rest ++ after))) is in
      let stands : slice_get (paths_of (sites design)) (length front) ≡ Some (suc entry.before ∷ path) =
      ap (λ (list : List Path). slice_get list (length front)) listed ∙ behind front ((suc entry.before ∷ path) ∷ paths_of (cut.rest ++ after)) in
      let counted = ap (λ (list : List Path). length list) (flat_map-append placed before cut.front) ∙ length-append (paths_of before) (paths_of cut.front) in
      let sum : 1 + (weight_of placed_one before + items_weight placed_one (model_weight design placed_one depth) (take entry.number (items_of (model_at design path)))) ≡ suc (length front) =
      omega (arith, counted, instances_weigh before, instances_weigh cut.front, cut.weighs placed_one) in
      ap (slice_get (instances design)) sum ∙ stands

  before_of : (items : List Item) (entry : Numbered) → Has entry (numbered 0 0 items) → entry.before ≡ length (placings (take entry.number items))
  before_of items entry has =
      let cut = cut_entry 0 0 items entry has in
      let same : cut.count ≡ entry.number = sym (cut.number_is ∙ omega arith) in
      cut.before_is ∙ omega (arith, ap (λ (n : ℕ). length (placings (take n items))) same)

  pub instance_number : (before after : List Site) (depth : ℕ) (path : Path) → sites design ≡ before ++ (sites_below design (suc depth) path ++ after)
      → (number line : ℕ) (name : Word) (binds : List Bind) → item_at design path number ≡ Some (Sub line name binds)
      → slice_get (instances design) (1 + (weight_of placed_one before + items_weight placed_one (model_weight design placed_one depth) (take number (items_of (model_at design path)))))
      ≡ Some (suc (length (placings (take number (items_of (model_at design path))))) ∷ path)
  instance_number before after depth path all number line name binds at =
      let items = items_of (model_at design path) in
      let entry = item_entry items number (Sub line name binds) at in
      let found = entry_number before after depth path all entry.entry entry.has line name binds entry.item_is in
      ap (λ (n : ℕ). slice_get (instances design) (1 + (weight_of placed_one before + items_weight placed_one (model_weight design placed_one depth) (take n items)))) (sym entry.number_is)
      ∙ found
      ∙ ap (λ (n : ℕ). Some (suc n ∷ path)) (before_of items entry.entry entry.has ∙ ap (λ (n : ℕ). length (placings (take n items))) entry.number_is)
