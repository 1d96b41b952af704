-- The numbers of `.subckt` items, gathered item by item, are those of the model.
use Rattle.std.proofs.Common.{◌≡◌, ◌<◌, ◌+◌, ℕ, zero, suc, List, [], ◌∷◌, ◌++◌, length, get_or, map, take, drop, slice_get, Option, Some, None, option_map, option_and_then, append_assoc, refl, sym, ◌∙◌, ap, ap₂, subst, arith}
use Rattle.std.specs.List.{AllZip}
use Rattle.std.specs.Option.{unwrap_or}
use Rattle.std.proofs.lemmas.List.{length-append, drop_more}
use Rattle.std.proofs.lemmas.Option.{same_Some, none-some, slice_get_within}
use Rattle.vw_design.specs.declared.item.Bind.{Bind}
use Rattle.vw_design.specs.declared.item.Item.{Item}
use Rattle.vw_design.specs.declared.item.Item.TheVariants.{Names, Latch, Sub}
use Rattle.vw_design.specs.declared.model.Model.{Model}
use Rattle.vw_design.specs.declared.design.Design.{Design}
use Rattle.vw_design.specs.Paths.{Placing, placings, model_named}
use Rattle.vw_design.specs.Claims.{and_behind}
use Rattle.vw_design.specs.ModelNumbers.{IsNumberOfModel}
use Rattle.vw_design.proofs.ListPlaces.{none_at_place}
use Rattle.vw_design.proofs.ModelNumbers.{one_number}
use Rattle.vw_design.proofs.PairedLists.{AllZip-at}
use Rattle.vw_drivers.specs.declared.model_claims.ModelClaims.{ModelClaims}
use Rattle.vw_drivers.specs.Firsts.{First}
use Rattle.vw_drivers.specs.declared.model_names.PlacedNames.{PlacedNames}
use Rattle.vw_drivers.specs.Names.{firsts_of, way_of, IsPlacedNames}
use Rattle.vw_drivers.specs.Steps.GatheredNames.{placed_made, placed_from}

-- how many an item adds
pub made_length : (own : List First) (claims : List ModelClaims) (model : Option ℕ) (number : ℕ) (item : Item) (list : List PlacedNames)
    → length (list ++ placed_made own claims model number item) ≡ and_behind item (length list)
made_length own claims model number (Names line ins out cover) list = omega (arith, length-append list [])
made_length own claims model number (Latch line d q edge control init) list = omega (arith, length-append list [])
made_length own claims model number (Sub line name binds) list =
    length-append list (record { item = number; ways = map (way_of own (firsts_of claims model)) binds } ∷ []) ∙ omega arith

-- the number of the model at a place
abbrev target_of : List (Option ℕ) → ℕ → Option ℕ
target_of targets before = option_and_then (λ target. target) (slice_get targets before)

-- so many were added, and the items that are left make the rest of the whole
pub placed_further : (own : List First) (claims : List ModelClaims) (targets : List (Option ℕ)) (items : List Item) (i : ℕ) (item : Item) (list further whole : List PlacedNames)
    → i < length items → item ≡ get_or items i item
    → further ≡ list ++ placed_made own claims (option_and_then (λ target. target) (slice_get targets (length list))) i item
    → list ++ placed_from own claims targets i (length list) (drop i items) ≡ whole
    → further ++ placed_from own claims targets (i + 1) (length further) (drop (i + 1) items) ≡ whole
placed_further own claims targets items i item list further whole within at more so_far =
    let rest = drop (i + 1) items in
    let target = target_of targets (length list) in
    let before = and_behind item (length list) in
    let next : i + 1 ≡ suc i = omega arith in
    let long : length further ≡ before = ap length more ∙ made_length own claims target i item list in
    let cut : drop i items ≡ item ∷ rest = drop_more items i item within ∙ ap (λ (first : Item). first ∷ rest) (sym at) in
    ap₂ (λ (n b : ℕ). further ++ placed_from own claims targets n b rest) next long
    ∙ ap (λ (front : List PlacedNames). front ++ placed_from own claims targets (suc i) before rest) more
    ∙ append_assoc list (placed_made own claims target i item) (placed_from own claims targets (suc i) before rest)
    ∙ ap (λ (left : List Item). list ++ placed_from own claims targets i (length list) left) (sym cut)
    ∙ so_far

-- an entry behind others: the item is so many further on
pub record IsMade (own : List First) (claims : List ModelClaims) (targets : List (Option ℕ)) (number before : ℕ) (items : List Item) (k : ℕ) (placing : Placing) (entry : PlacedNames) : Type 0 where
  pub line : ℕ
  pub at : ℕ
  pub item_is : entry.item ≡ number + at
  pub stands : slice_get items at ≡ Some (Sub line placing.model placing.binds)
  pub before_is : length (placings (take at items)) ≡ k
  pub ways : entry.ways ≡ map (way_of own (firsts_of claims (target_of targets (before + k)))) placing.binds

module _ (own : List First) (claims : List ModelClaims) (targets : List (Option ℕ)) where
  later : (number before : ℕ) (first : Item) (items : List Item) (k : ℕ) (placing : Placing) (entry : PlacedNames) → (more : length (placings (first ∷ [])) ≡ 0)
      → IsMade own claims targets (suc number) before items k placing entry → IsMade own claims targets number before (first ∷ items) k placing entry
  later number before (Names line ins out cover) items k placing entry more is = record {
    line = is.line;
    at = suc is.at;
    item_is = omega (arith, is.item_is);
    stands = is.stands;
    before_is = is.before_is;
    ways = is.ways;
  }
  later number before (Latch line d q edge control init) items k placing entry more is = record {
    line = is.line;
    at = suc is.at;
    item_is = omega (arith, is.item_is);
    stands = is.stands;
    before_is = is.before_is;
    ways = is.ways;
  }
  later number before (Sub line model binds) items k placing entry more is = absurd (omega (arith, more))

  behind : (number before line : ℕ) (model : List ℕ) (binds : List Bind) (items : List Item) (k : ℕ) (placing : Placing) (entry : PlacedNames)
      → IsMade own claims targets (suc number) (suc before) items k placing entry → IsMade own claims targets number before (Sub line model binds ∷ items) (suc k) placing entry
  behind number before line model binds items k placing entry is = record {
    line = is.line;
    at = suc is.at;
    item_is = omega (arith, is.item_is);
    stands = is.stands;
    before_is = ap suc is.before_is;
    ways = is.ways ∙ ap (λ (n : ℕ). map (way_of own (firsts_of claims (target_of targets n))) placing.binds) (omega arith);
  }

  pub made_at : (number before : ℕ) (items : List Item) (k : ℕ) (placing : Placing) → slice_get (placings items) k ≡ Some placing
      → (entry : PlacedNames) × (slice_get (placed_from own claims targets number before items) k ≡ Some entry) × IsMade own claims targets number before items k placing entry
  made_at number before [] k placing at = absurd (none-some placing at)
  made_at number before (Names line ins out cover ∷ items) k placing at =
      let rest = made_at (suc number) before items k placing at in
      (rest.0, rest.1, later number before (Names line ins out cover) items k placing rest.0 refl rest.2)
  made_at number before (Latch line d q edge control init ∷ items) k placing at =
      let rest = made_at (suc number) before items k placing at in
      (rest.0, rest.1, later number before (Latch line d q edge control init) items k placing rest.0 refl rest.2)
  made_at number before (Sub line model binds ∷ items) zero placing at =
      let same : record { model = model; binds = binds } ≡ placing = same_Some (record { model = model; binds = binds }) placing at in
      let entry : PlacedNames = record { item = number; ways = map (way_of own (firsts_of claims (target_of targets before))) binds } in (
        entry,
        refl,
        record {
          line = line;
          at = 0;
          item_is = omega arith;
          stands = ap (λ (p : Placing). Some (Sub line p.model p.binds)) same;
          before_is = refl;
          ways = ap (λ (p : Placing). map (way_of own (firsts_of claims (target_of targets before))) p.binds) same
              ∙ ap (λ (n : ℕ). map (way_of own (firsts_of claims (target_of targets n))) placing.binds) (omega arith);
        },
      )
  made_at number before (Sub line model binds ∷ items) (suc k) placing at =
      let rest = made_at (suc number) (suc before) items k placing at in
      (rest.0, rest.1, behind number before line model binds items k placing rest.0 rest.2)

  pub placed_count : (number before : ℕ) (items : List Item) → length (placed_from own claims targets number before items) ≡ length (placings items)
  placed_count number before [] = refl
  placed_count number before (Names line ins out cover ∷ items) = placed_count (suc number) before items
  placed_count number before (Latch line d q edge control init ∷ items) = placed_count (suc number) before items
  placed_count number before (Sub line model binds ∷ items) = ap suc (placed_count (suc number) (suc before) items)

module _ (design : Design) (claims : List ModelClaims) (long : length claims ≡ length design.models) where
  -- the claims of a placed model are those of its number
  no_claims : (number : ℕ) → slice_get design.models number ≡ None → firsts_of claims (Some number) ≡ []
  no_claims number none = by (slice_get claims number) refl where
    by : (found : Option ModelClaims) → slice_get claims number ≡ found → firsts_of claims (Some number) ≡ []
    by None is = ap (λ (c : Option ModelClaims). unwrap_or (option_map (λ (f : ModelClaims). f.firsts) c) []) is
    by (Some found) is =
        let within : number < length design.models = omega (arith, long, slice_get_within claims number found is) in
        absurd (none_at_place design.models number within none)

  same_claims : (name : List ℕ) (target : Option ℕ) → IsNumberOfModel design name target → (number : ℕ) → slice_get design.models number ≡ model_named design.models name
      → firsts_of claims target ≡ firsts_of claims (Some number)
  same_claims name None is number at = sym (no_claims number (at ∙ is))
  same_claims name (Some target) is number at = by (slice_get design.models target) refl where
    by : (found : Option Model) → slice_get design.models target ≡ found → firsts_of claims (Some target) ≡ firsts_of claims (Some number)
    by None none = absurd (none_at_place design.models target is.0 none)
    by (Some model) there = ap (λ (n : ℕ). firsts_of claims (Some n)) (one_number design target number model there (at ∙ sym is.1 ∙ there))

  pub placed_names : (own : List First) (items : List Item) (targets : List (Option ℕ))
      → AllZip (λ placing target. IsNumberOfModel design placing.model target) (placings items) targets
      → (before : ℕ) (placing : Placing) → slice_get (placings items) before ≡ Some placing
      → (entry : PlacedNames) × (slice_get (placed_from own claims targets 0 0 items) before ≡ Some entry) × IsPlacedNames design claims own items before placing entry
  placed_names own items targets along before placing at =
      let made = made_at own claims targets 0 0 items before placing at in
      let is = made.2 in
      let target = AllZip-at (λ (p : Placing) (t : Option ℕ). IsNumberOfModel design p.model t) (placings items) targets before placing along at in
      let there : target_of targets (0 + before) ≡ target.0 = ap (target_of targets) (omega arith) ∙ ap (option_and_then (λ (t : Option ℕ). t)) target.1 in
      let item : is.at ≡ made.0.item = omega (arith, is.item_is) in (
        made.0,
        made.1,
        record {
          line = is.line;
          item_is = subst (λ (n : ℕ). slice_get items n ≡ Some (Sub is.line placing.model placing.binds)) item is.stands;
          before_is = subst (λ (n : ℕ). length (placings (take n items)) ≡ before) item is.before_is;
          ways = λ number number_is. is.ways
              ∙ ap (λ (firsts : List First). map (way_of own firsts) placing.binds)
              (ap (firsts_of claims) there ∙ same_claims placing.model target.0 target.2 number number_is);
        },
      )
