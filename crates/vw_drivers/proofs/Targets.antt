-- The outputs of the models that items place.
use Rattle.std.proofs.Common.{◌≡◌, ◌<◌, ◌≤◌, ◌+◌, ℕ, zero, suc, Bool, List, [], ◌∷◌, length, drop, get_or, Option, Some, None, IfSome, option_and_then, slice_get, if◌then◌else◌, refl, sym, ◌∙◌, ap, ap₂, subst, arith}
use Rattle.std.specs.Option.{unwrap_or}
use Rattle.vw_design.specs.declared.item.Bind.{Bind}
use Rattle.vw_design.specs.declared.item.Item.{Item}
use Rattle.vw_design.specs.declared.item.Item.TheVariants.{Names, Latch, Sub}
use Rattle.vw_design.specs.declared.model.Model.{Model}
use Rattle.vw_design.specs.declared.design.Design.{Design}
use Rattle.vw_design.specs.Distinct.{has_name}
use Rattle.vw_design.specs.Paths.{Word, placings, model_named, model_outputs}
use Rattle.vw_design.specs.Claims.{and_behind}
use Rattle.vw_design.specs.ModelNumbers.{AreModelNumbers, IsNumberOfModel}
use Rattle.vw_design.proofs.ListPlaces.{none_at_place}
use Rattle.vw_design.proofs.PairedLists.{AllZip-length, AllZip-at}
use Rattle.vw_drivers.specs.declared.claim.Claim.TheVariants.{Bound}
use Rattle.vw_drivers.specs.Firsts.{First}
use Rattle.vw_drivers.specs.Outputs.{AreOutputs}
use Rattle.vw_drivers.specs.Steps.GatheredClaims.{model_outputs_at, binds_made, IsModelNumber}

-- an element by its place
pub at_place : {A : Type 0} (xs : List A) (k : ℕ) (x : A) → k < length xs → x ≡ get_or xs k x → slice_get xs k ≡ Some x
at_place [] k x within is = absurd (omega arith)
at_place (y ∷ ys) zero x within is = ap (λ z. Some z) (sym is)
at_place (y ∷ ys) (suc k) x within is = at_place ys k x (omega arith) is

-- no output, no claim
pub none_made : (place number : ℕ) (binds : List Bind) → binds_made [] place number binds ≡ []
none_made place number [] = refl
none_made place number (bind ∷ binds) = none_made place (suc number) binds

-- outputs in another order
pub made_same : (one other : List Word) → ((name : Word) → has_name one name ≡ has_name other name) → (place number : ℕ) (binds : List Bind)
    → binds_made one place number binds ≡ binds_made other place number binds
made_same one other same place number [] = refl
made_same one other same place number (bind ∷ binds) =
    ap₂ (λ (b : Bool) (rest : List First). if b then record { name = bind.actual; claim = Bound place number } ∷ rest else rest)
    (same bind.formal) (made_same one other same place (suc number) binds)

module _ (design : Design) (outputs : List (List Word)) (are : AreOutputs design outputs) where
  pub target_within : (name : Word) (target : Option ℕ) → IsNumberOfModel design name target → IfSome target (λ model. model < length outputs)
  target_within name None is = tt
  target_within name (Some number) is =
      omega (arith, is.0, AllZip-length (λ (m : Model) (names : List Word). (n : Word) → has_name names n ≡ has_name m.outputs n) design.models outputs are)

  outputs_by : (number : ℕ) (found : Option Model) → slice_get design.models number ≡ found → number < length design.models → (name : Word)
      → has_name (unwrap_or (slice_get outputs number) []) name ≡ has_name (model_outputs found) name
  outputs_by number None is within name = absurd (none_at_place design.models number within is)
  outputs_by number (Some model) is within name =
      let along = AllZip-at (λ (m : Model) (names : List Word). (n : Word) → has_name names n ≡ has_name m.outputs n) design.models outputs number model are is in
      ap (λ (found : Option (List Word)). has_name (unwrap_or found []) name) along.1 ∙ along.2 name

  -- the set of a placed model has its outputs
  pub target_outputs : (model : Word) (target : Option ℕ) → IsNumberOfModel design model target → (name : Word)
      → has_name (model_outputs_at outputs target) name ≡ has_name (model_outputs (model_named design.models model)) name
  target_outputs model None is name = ap (λ (found : Option Model). has_name (model_outputs found) name) (sym is)
  target_outputs model (Some number) is name =
      outputs_by number (slice_get design.models number) refl is.0 name ∙ ap (λ (found : Option Model). has_name (model_outputs found) name) is.1

-- the number behind a front
front_of : {A : Type 0} (xs : List A) (k : ℕ) → slice_get (drop k xs) 0 ≡ slice_get xs k
front_of [] zero = refl
front_of [] (suc k) = refl
front_of (x ∷ xs) zero = refl
front_of (x ∷ xs) (suc k) = front_of xs k

rest_of : {A : Type 0} (xs : List A) (k : ℕ) (x : A) (rest : List A) → drop k xs ≡ x ∷ rest → drop (suc k) xs ≡ rest
rest_of [] zero x rest is = cc
rest_of [] (suc k) x rest is = cc
rest_of (y ∷ ys) zero x rest is = cc
rest_of (y ∷ ys) (suc k) x rest is = rest_of ys k x rest is

module _ (design : Design) where
  -- an item's number is the first of those that are left
  front_target : (item : Item) (items : List Item) (left : List (Option ℕ)) → AreModelNumbers design (placings (item ∷ items)) left
      → IsModelNumber design item (option_and_then (λ target. target) (slice_get left 0))
  front_target (Names line ins out cover) items left are = tt
  front_target (Latch line d q edge control init) items left are = tt
  front_target (Sub line model binds) items [] are = absurd are
  front_target (Sub line model binds) items (target ∷ left) are = are.0

  pub target_here : (item : Item) (items : List Item) (placed : List (Option ℕ)) (before : ℕ) → AreModelNumbers design (placings (item ∷ items)) (drop before placed)
      → IsModelNumber design item (option_and_then (λ target. target) (slice_get placed before))
  target_here item items placed before are =
      subst (λ (found : Option (Option ℕ)). IsModelNumber design item (option_and_then (λ target. target) found)) (front_of placed before)
      (front_target item items (drop before placed) are)

  -- and the others are left for the further items
  placed_by : (item : Item) (items : List Item) (placed : List (Option ℕ)) (before : ℕ) (left : List (Option ℕ)) → drop before placed ≡ left
      → AreModelNumbers design (placings (item ∷ items)) left → AreModelNumbers design (placings items) (drop (and_behind item before) placed)
  placed_by (Names line ins out cover) items placed before left is are = subst (AreModelNumbers design (placings items)) (sym is) are
  placed_by (Latch line d q edge control init) items placed before left is are = subst (AreModelNumbers design (placings items)) (sym is) are
  placed_by (Sub line model binds) items placed before [] is are = absurd are
  placed_by (Sub line model binds) items placed before (target ∷ left) is are =
      subst (AreModelNumbers design (placings items)) (sym (rest_of placed before target left is)) are.1

  pub placed_more : (item : Item) (items : List Item) (placed : List (Option ℕ)) (before : ℕ) → AreModelNumbers design (placings (item ∷ items)) (drop before placed)
      → AreModelNumbers design (placings items) (drop (and_behind item before) placed)
  placed_more item items placed before are = placed_by item items placed before (drop before placed) refl are

pub behind_few : (item : Item) (before number : ℕ) → before ≤ number → and_behind item before ≤ number + 1
behind_few (Names line ins out cover) before number few = omega arith
behind_few (Latch line d q edge control init) before number few = omega arith
behind_few (Sub line model binds) before number few = omega arith
