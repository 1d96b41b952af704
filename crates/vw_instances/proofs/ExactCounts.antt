-- Where no quantity is too big, the counts have met no end, and are the weights of the models.
use Rattle.std.proofs.Common.{◌≡◌, ◌<◌, ◌≤◌, ◌+◌, ◌-◌, ℕ, min, Bool, true, List, [], length, take, nat_lt, Option, Some, None, slice_index_or, option_map, refl, sym, ◌∙◌, ap, arith}
use Rattle.std.specs.List.{AllZip, list_all}
use Rattle.std.proofs.lemmas.Bool.{and_parts, ltb-true}
use Rattle.std.proofs.lemmas.Option.{none-some, same_Some}
use Rattle.vw_design.specs.declared.item.Item.{Item}
use Rattle.vw_design.specs.declared.item.Item.TheVariants.{Names, Latch, Sub}
use Rattle.vw_design.specs.declared.model.Model.{Model}
use Rattle.vw_design.specs.declared.design.Design.{Design}
use Rattle.vw_design.specs.Limits.{too_big}
use Rattle.vw_design.specs.Counts.{placed_one, cell_one, items_weight, model_weight, is_below}
use Rattle.vw_design.specs.Paths.{Word, Path, Placing, placing_of, placings, model_at, model_named, items_of}
use Rattle.vw_design.specs.ModelFaults.{is_reached}
use Rattle.vw_design.proofs.ReachedFromRoot.{reached_at, model_is_named}
use Rattle.vw_design.proofs.ListElements.{Has, all-Has, from-filter_map}
use Rattle.vw_design.proofs.Sizes.{small_of}
use Rattle.vw_design.proofs.Weights.{capped_weight}
use Rattle.vw_design.proofs.ModelNumbers.{place_of_model, root_model}
use Rattle.vw_design.proofs.PairedLists.{AllZip-at, AllZip-length}
use Rattle.vw_instances.specs.declared.measure.Measure.TheVariants.{Instances, Cells}
use Rattle.vw_instances.specs.declared.quantity.Quantity.{Quantity}
use Rattle.vw_instances.specs.declared.sizes.Before.{Before}
use Rattle.vw_instances.specs.declared.sizes.Sizes.{Sizes}
use Rattle.vw_instances.specs.declared.counting_tables.CountingTables.{CountingTables}
use Rattle.vw_instances.specs.declared.totals.QuantityTotals.{QuantityTotals}
use Rattle.vw_instances.specs.Steps.Counting.{most, count_in, IsRanked, AreCountingTables, AreEntries}
use Rattle.vw_instances.specs.Steps.Quantified.{AreTotals, first_above}
use Rattle.vw_instances.specs.Quantities.{counted_of}
use Rattle.vw_instances.specs.Sizes.{AreBefore, AreSizes}
use Rattle.vw_instances.proofs.RootCounts.{counted_at, least_of_root, levels_of_root}
use Rattle.vw_instances.proofs.RootQuantities.{instances_are, cells_are, depth_is, first_is}
use Rattle.vw_instances.proofs.ItemAmounts.{weight_same, placed_weighs, front_weighs, front_places}

-- what an item places is reached, and of a smaller rank
below_of : (among : Word → Bool) (rank : Word → ℕ) (limit : ℕ) (item : Item) (placing : Placing) → placing_of item ≡ Some placing → is_below among rank limit item ≡ true → (among placing.model ≡ true) × (rank placing.model < limit)
below_of among rank limit (Names line ins out cover) placing is below = absurd (none-some placing is)
below_of among rank limit (Latch line d q edge control init) placing is below = absurd (none-some placing is)
below_of among rank limit (Sub line name binds) placing is below =
    let parts = and_parts (among name) (nat_lt (rank name) limit) below in
    let same : name ≡ placing.model = ap (λ (p : Placing). p.model) (same_Some (record { model = name; binds = binds }) placing is) in
    (ap among (sym same) ∙ parts.0, omega (arith, ap rank same, ltb-true (rank name) limit parts.1))

module _ (design : Design) (ranked : IsRanked design) where
  placed_below : (path : Path) (model : Model) → model_at design path ≡ Some model → (placing : Placing) → Has placing (placings model.items) → (is_reached design placing.model ≡ true) × (ranked.rank placing.model < length design.models)
  placed_below path model stands placing has =
      let reached = reached_at design path model stands in
      let item = from-filter_map placing_of placing model.items has in
      let falls : list_all (is_below (is_reached design) ranked.rank (ranked.rank model.name)) model.items ≡ true =
      ap (λ (m : Option Model). list_all (is_below (is_reached design) ranked.rank (ranked.rank model.name)) (items_of m)) (sym (model_is_named design path model stands)) ∙ ranked.ranking.falls model.name reached in
      let here = below_of (is_reached design) ranked.rank (ranked.rank model.name) item.0 placing item.2 (all-Has (is_below (is_reached design) ranked.rank (ranked.rank model.name)) item.0 model.items falls item.1) in
      (here.0, omega (arith, here.1, ranked.low model.name reached))

  -- the first items of an instance weigh what is counted
  module _ (weight : Item → ℕ) (count : Word → ℕ) (counted : (name : Word) → is_reached design name ≡ true → count name ≡ min most (items_weight weight count (items_of (model_named design.models name)))) where
    front_exact : (path : Path) (model : Model) → model_at design path ≡ Some model → length path ≤ 64 → items_weight weight count model.items < most → (k : ℕ)
        → min most (items_weight weight count (take k model.items)) ≡ items_weight weight (model_weight design weight (64 + length design.models - length path)) (take k model.items)
    front_exact path model stands short few k =
        let depth = 64 + length design.models - length path in
        let front = front_weighs weight count model.items k in
        let exact : min most (items_weight weight count (take k model.items)) ≡ items_weight weight count (take k model.items) = omega (arith, front, few) in
        exact ∙ weight_same count (model_weight design weight (64 + length design.models - length path)) weight (take k model.items)
        (λ placing has.
        let among = front_places placing model.items k has in
        let below = placed_below path model stands placing among in
        let low : ranked.rank placing.model < 64 + length design.models - length path = omega (arith, below.1, short) in
        let capped = capped_weight design (is_reached design) ranked.rank ranked.ranking weight most count counted (64 + length design.models - length path) placing.model below.0 low in
        omega (arith, capped, placed_weighs weight count placing model.items among, few))

module _ (design : Design) (tables : CountingTables) (are : AreCountingTables design tables) (small : too_big design ≡ None) where
  abbrev root : (root : Model) × (model_at design [] ≡ Some root)
  root = root_model design

  number_of_root : (counts : List ℕ) → count_in design counts root.0.name ≡ slice_index_or counts 0 0
  number_of_root counts = ap (λ (n : ℕ). slice_index_or counts n 0) (place_of_model design 0 root.0 root.1)

  short : (path : Path) (model : Model) → model_at design path ≡ Some model → length path ≤ 64
  short path model stands =
      let levels = tables.levels.items in
      let deep = depth_is design root.0 root.1 are.ranked levels are.levels (slice_index_or levels 0 0) refl in
      omega (arith, deep, number_of_root levels, levels_of_root design levels are.levels are.ranked root.0 root.1 path model stands, (small_of design small).depth)

  few_cells : (path : Path) (model : Model) → model_at design path ≡ Some model → items_weight cell_one (count_in design tables.cells.items) model.items < most
  few_cells path model stands =
      let counts = tables.cells.items in
      let all = cells_are design root.0 root.1 are.ranked counts are.cells (slice_index_or counts 0 0) refl in
      let less = least_of_root design Cells counts are.cells (λ below placing items has. placed_weighs cell_one below placing items has) root.0 root.1 path model stands in
      omega (arith, all, less, number_of_root counts, counted_at design Cells counts are.cells path model stands, (small_of design small).cells)

  few_instances : (path : Path) (model : Model) → model_at design path ≡ Some model → items_weight placed_one (count_in design tables.instances.items) model.items < most
  few_instances path model stands =
      let counts = tables.instances.items in
      let all = instances_are design root.0 root.1 are.ranked counts are.instances (slice_index_or counts 0 0) refl in
      let less = least_of_root design Instances counts are.instances (λ below placing items has. placed_weighs placed_one below placing items has) root.0 root.1 path model stands in
      omega (arith, all, less, number_of_root counts, counted_at design Instances counts are.instances path model stands, (small_of design small).instances)

  pub are_before : (before : List (List Before)) → AllZip (λ model list. AreEntries design tables model.items list) design.models before → AreBefore design before
  are_before before along = record {
    count = sym (AllZip-length (λ model list. AreEntries design tables model.items list) design.models before along);
    each = λ path model number stands at.
        let found = AllZip-at (λ model list. AreEntries design tables model.items list) design.models before number model along at in (
          found.0,
          found.1,
          found.2.0,
          λ k entry is.
              let each = found.2.1 k entry is in (
                each.0 ∙ front_exact design are.ranked cell_one (count_in design tables.cells.items) are.cells.counted path model stands (short path model stands) (few_cells path model stands) k,
                each.1 ∙ front_exact design are.ranked placed_one (count_in design tables.instances.items) are.instances.counted path model stands (short path model stands) (few_instances path model stands) k,
              ),
        );
  }

module _ (design : Design) (totals : QuantityTotals) (are : AreTotals design totals) where
  pub nothing_big : (found : Option Quantity) → option_map counted_of found ≡ first_above totals → ((quantity : Quantity) → found ≡ Some quantity → ⊥) → too_big design ≡ None
  nothing_big None is none = sym (first_is design totals are) ∙ sym is
  nothing_big (Some quantity) is none = absurd (none quantity refl)

  pub are_sizes : (tables : CountingTables) → AreCountingTables design tables → too_big design ≡ None → (sizes : Sizes) → sizes.instances ≡ totals.instances → sizes.cells ≡ totals.cells
      → AllZip (λ model list. AreEntries design tables model.items list) design.models sizes.before → AreSizes design sizes
  are_sizes tables are_tables small sizes instances cells along = record {
    small = small;
    instances = omega (arith, instances, are.instances, (small_of design small).instances);
    cells = omega (arith, cells, are.cells, (small_of design small).cells);
    before = are_before design tables are_tables small sizes.before along;
  }
