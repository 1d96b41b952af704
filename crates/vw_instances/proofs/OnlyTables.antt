-- The tables of a design are the only ones.
use Rattle.std.proofs.Common.{◌≡◌, ◌⊎◌, ◌≤◌, ◌+◌, ◌-◌, ℕ, zero, suc, not, true, true≢false, List, [], ◌∷◌, ◌++◌, length, length-append, append-nil, map, Some, slice_get, inl, inr, ⊎_elim, refl, sym, ◌∙◌, ap, ap₂, arith}
use Rattle.std.specs.List.{AllZip}
use Rattle.std.proofs.lemmas.Bool.{and_parts}
use Rattle.std.proofs.lemmas.Option.{same_Some, none-some}
use Rattle.vw_design.specs.declared.item.Item.{Item}
use Rattle.vw_design.specs.declared.item.Item.TheVariants.{Names, Latch, Sub}
use Rattle.vw_design.specs.declared.model.Model.{Model}
use Rattle.vw_design.specs.declared.design.Design.{Design}
use Rattle.vw_design.specs.Distinct.{has_name, are_distinct}
use Rattle.vw_design.specs.Paths.{Path}
use Rattle.vw_design.specs.Preorder.{Site, sites_below, instances_at, instances, cells}
use Rattle.vw_design.specs.PathValue.{place_of_path}
use Rattle.vw_design.specs.Limits.{weight_of}
use Rattle.vw_design.specs.Counts.{placed_one, cell_one}
use Rattle.vw_design.proofs.ListElements.{Has-at, Has-map}
use Rattle.vw_design.proofs.Names.{has_name-Has}
use Rattle.vw_instances.specs.declared.tables.ListedInstance.{ListedInstance}
use Rattle.vw_instances.specs.declared.tables.CellSite.{CellSite}
use Rattle.vw_instances.specs.Tables.{IsPlacedBy, IsJustBehind, IsEntryAt, ArePlaced, IsCellSite, AreCellSites}

module _ {A : Type 0} where
  -- lists of one length with the same elements
  same_lists : (xs ys : List A) → length xs ≡ length ys → ((k : ℕ) (x : A) → slice_get xs k ≡ Some x → slice_get ys k ≡ Some x) → xs ≡ ys
  same_lists [] [] long each = refl
  same_lists [] (y ∷ ys) long each = absurd (omega arith)
  same_lists (x ∷ xs) [] long each = absurd (none-some x (each 0 x refl))
  same_lists (x ∷ xs) (y ∷ ys) long each =
      ap₂ (λ (z : A) (zs : List A). z ∷ zs) (sym (same_Some y x (each 0 x refl))) (same_lists xs ys (omega arith) (λ k z at. each (suc k) z at))

  -- of two fronts of a list one begins with the other
  fronts : (xs ys rest others : List A) → xs ++ rest ≡ ys ++ others → ((more : List A) × (ys ≡ xs ++ more)) ⊎ ((more : List A) × (xs ≡ ys ++ more))
  fronts [] ys rest others same = inl (ys, refl)
  fronts (x ∷ xs) [] rest others same = inr (x ∷ xs, refl)
  fronts (x ∷ xs) (y ∷ ys) rest others same =
      let head : x ≡ y = cc in
      let tail : xs ++ rest ≡ ys ++ others = cc in
      ⊎_elim (λ left. inl (left.0, ap₂ (λ (z : A) (zs : List A). z ∷ zs) (sym head) left.1)) (λ right. inr (right.0, ap₂ (λ (z : A) (zs : List A). z ∷ zs) head right.1))
      (fronts xs ys rest others tail)

module _ {A B : Type 0} where
  zip_once : (R : A → B → Type 0) → ((x : A) (y z : B) → R x y → R x z → y ≡ z) → (xs : List A) (ys zs : List B) → AllZip R xs ys → AllZip R xs zs → ys ≡ zs
  zip_once R once [] [] [] one other = refl
  zip_once R once [] [] (z ∷ zs) one other = absurd other
  zip_once R once [] (y ∷ ys) zs one other = absurd one
  zip_once R once (x ∷ xs) [] zs one other = absurd one
  zip_once R once (x ∷ xs) (y ∷ ys) [] one other = absurd other
  zip_once R once (x ∷ xs) (y ∷ ys) (z ∷ zs) one other = ap₂ (λ (w : B) (ws : List B). w ∷ ws) (once x y z one.0 other.0) (zip_once R once xs ys zs one.1 other.1)

  -- an element of a list has one with its number in a list that is as long
  as_long : (xs : List A) (ys : List B) → length xs ≡ length ys → (k : ℕ) (y : B) → slice_get ys k ≡ Some y → (x : A) × (slice_get xs k ≡ Some x)
  as_long xs [] long k y at = absurd (none-some y at)
  as_long [] (z ∷ ys) long k y at = absurd (omega arith)
  as_long (x ∷ xs) (z ∷ ys) long zero y at = (x, refl)
  as_long (x ∷ xs) (z ∷ ys) long (suc k) y at = as_long xs ys (omega arith) k y at

-- no model stands twice
not_later : (first : Model) (models : List Model) → are_distinct (map (λ m. m.name) (first ∷ models)) ≡ true → (model : Model) (k : ℕ) → first ≡ model → slice_get models k ≡ Some model → ⊥
not_later first models distinct model k same at =
    let names = map (λ (m : Model). m.name) models in
    let parts = and_parts (not (has_name names first.name)) (are_distinct names) distinct in
    let has : has_name names first.name ≡ true = ap (λ (m : Model). has_name names m.name) same ∙ has_name-Has names model.name (Has-map (λ (m : Model). m.name) model models (Has-at model models k at)) in
    true≢false (sym parts.0 ∙ ap not has)

pub number_once : (models : List Model) → are_distinct (map (λ m. m.name) models) ≡ true → (i j : ℕ) (model : Model) → slice_get models i ≡ Some model → slice_get models j ≡ Some model → i ≡ j
number_once [] distinct i j model one other = absurd (none-some model one)
number_once (first ∷ models) distinct zero zero model one other = refl
number_once (first ∷ models) distinct zero (suc j) model one other = absurd (not_later first models distinct model j (same_Some first model one) other)
number_once (first ∷ models) distinct (suc i) zero model one other = absurd (not_later first models distinct model i (same_Some first model other) one)
number_once (first ∷ models) distinct (suc i) (suc j) model one other =
    let names = map (λ (m : Model). m.name) models in
    ap suc (number_once models (and_parts (not (has_name names first.name)) (are_distinct names) distinct).1 i j model one other)

-- how many instances sites place, where a front ends in one that places
weighs_end : (front : List Site) (site : Site) → weight_of placed_one (front ++ (site ∷ [])) ≡ weight_of placed_one front + placed_one site.item
weighs_end [] site = omega arith
weighs_end (first ∷ front) site = omega (arith, weighs_end front site)

places_one : (path listed : Path) (before : ℕ) (item : Item) → instances_at path before item ≡ listed ∷ [] → placed_one item ≡ 1
places_one path listed before (Names line ins out cover) is = cc
places_one path listed before (Latch line d q edge control init) is = cc
places_one path listed before (Sub line model binds) is = refl

weighs_less : (xs front : List Site) (z : Site) (zs : List Site) (site : Site) → xs ++ (z ∷ zs) ≡ front ++ (site ∷ []) → weight_of placed_one xs ≤ weight_of placed_one front
weighs_less [] front z zs site same = omega arith
weighs_less (x ∷ xs) [] z zs site same =
    let long : length (x ∷ (xs ++ (z ∷ zs))) ≡ length (site ∷ []) = ap (λ (list : List Site). length list) same in
    absurd (omega (arith, length-append xs (z ∷ zs)))
weighs_less (x ∷ xs) (y ∷ front) z zs site same =
    let head : x ≡ y = cc in
    let tail : xs ++ (z ∷ zs) ≡ front ++ (site ∷ []) = cc in
    omega (arith, ap (λ (s : Site). placed_one s.item) head, weighs_less xs front z zs site tail)

-- a front that is shorter places fewer
longer_front : (place : ℕ) (path : Path) (xs more ys : List Site) → ys ≡ xs ++ more → IsJustBehind (place ∷ path) ys → weight_of placed_one xs ≡ weight_of placed_one ys → xs ≡ ys
longer_front place path xs [] ys same behind weighs = sym (same ∙ append-nil xs)
longer_front place path xs (z ∷ zs) ys same behind weighs =
    absurd (omega (
      arith,
      weighs_less xs behind.0 z zs behind.1 (sym same ∙ behind.2),
      weighs_end behind.0 behind.1,
      ap (weight_of placed_one) behind.2,
      places_one behind.1.path (place ∷ path) behind.1.before behind.1.item behind.3,
    ))

before_once : (path : Path) (xs ys rest others : List Site) → xs ++ rest ≡ ys ++ others → IsJustBehind path xs → IsJustBehind path ys → weight_of placed_one xs ≡ weight_of placed_one ys → xs ≡ ys
before_once [] xs ys rest others same one other weighs = one ∙ sym other
before_once (place ∷ path) xs ys rest others same one other weighs =
    ⊎_elim (λ left. longer_front place path xs left.0 ys left.1 other weighs) (λ right. sym (longer_front place path ys right.0 xs right.1 one (sym weighs))) (fronts xs ys rest others same)

module _ (design : Design) (once : (place : ℕ) (path : Path) → slice_get (instances design) place ≡ Some path → place_of_path (instances design) path ≡ Some place) where
  listed_once : (i j : ℕ) (path : Path) → slice_get (instances design) i ≡ Some path → slice_get (instances design) j ≡ Some path → i ≡ j
  listed_once i j path one other = same_Some i j (sym (once i path one) ∙ once j path other)

  -- an instance is placed by one, at one place
  pub by_once : (number : ℕ) (path : Path) (parent at other_parent other_at : ℕ) → IsPlacedBy (instances design) number path parent at → IsPlacedBy (instances design) number path other_parent other_at → (parent ≡ other_parent) × (at ≡ other_at)
  by_once number [] parent at other_parent other_at is are = (is.0 ∙ sym are.0, is.1 ∙ sym are.1)
  by_once number (place ∷ path) parent at other_parent other_at is are = (listed_once parent other_parent path is.1 are.1, is.0 ∙ sym are.0)

  entry_once : (number : ℕ) (path : Path) (one other : ListedInstance) → IsEntryAt design (instances design) number path one → IsEntryAt design (instances design) number path other → one ≡ other
  entry_once number path one other is are =
      let models : is.model ≡ are.model = same_Some is.model are.model (sym is.stands ∙ are.stands) in
      let model : one.model ≡ other.model =
      number_once design.models design.named one.model other.model are.model (is.model_is ∙ ap (λ (m : Model). Some m) models) are.model_is in
      let by : (one.parent ≡ other.parent) × (one.place ≡ other.place) = by_once number path one.parent one.place other.parent other.place is.by are.by in
      let before : is.at.before ≡ are.at.before =
      before_once path is.at.before are.at.before (sites_below design (65 + length design.models - length path) path ++ is.at.after) (sites_below design (65 + length design.models - length path) path ++ are.at.after) (sym is.at.split ∙ are.at.split) is.at.just_behind are.at.just_behind (sym is.at.number_is ∙ are.at.number_is) in
      let cells : one.cells ≡ other.cells = is.at.cells_before ∙ ap (weight_of cell_one) before ∙ sym are.at.cells_before in
      λ i. record { model = model i; parent = by.0 i; place = by.1 i; cells = cells i }

  pub placed_once : (one other : List ListedInstance) → ArePlaced design one → ArePlaced design other → one ≡ other
  placed_once one other is are = same_lists one other (sym is.same_length ∙ are.same_length) found where
    by_path : (number : ℕ) (entry : ListedInstance) → slice_get one number ≡ Some entry → (path : Path) → slice_get (instances design) number ≡ Some path → slice_get other number ≡ Some entry
    by_path number entry at path listed =
        let first = is.each number path listed in
        let second = are.each number path listed in
        let same : second.0 ≡ entry = sym (entry_once number path first.0 second.0 first.2 second.2) ∙ same_Some first.0 entry (sym first.1 ∙ at) in
        second.1 ∙ ap (λ (e : ListedInstance). Some e) same

    found : (number : ℕ) (entry : ListedInstance) → slice_get one number ≡ Some entry → slice_get other number ≡ Some entry
    found number entry at =
        let path = as_long (instances design) one is.same_length number entry at in
        by_path number entry at path.0 path.1

  pub site_once : (site : Site) (one other : CellSite) → IsCellSite (instances design) site one → IsCellSite (instances design) site other → one ≡ other
  site_once site one other is are =
      let instance : one.instance ≡ other.instance = listed_once one.instance other.instance site.path is.instance_is are.instance_is in
      let item : one.item ≡ other.item = is.item_is ∙ sym are.item_is in
      λ i. record { instance = instance i; item = item i }

  pub cells_once : (one other : List CellSite) → AreCellSites design one → AreCellSites design other → one ≡ other
  cells_once one other is are = zip_once (IsCellSite (instances design)) site_once (cells design) one other is are
