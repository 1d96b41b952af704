-- The first item of a model that claims a name again.
use Rattle.std.proofs.Common.{◌≡◌, ◌<◌, ◌||◌, ◌+◌, ℕ, zero, suc, Bool, true, false, List, [], ◌∷◌, ◌++◌, map, take, Option, Some, None, option_map, slice_get, if◌then◌else◌, flat_map, filter_map, refl, sym, ◌∙◌, ap, subst, arith, append-nil, append_assoc}
use Rattle.std.specs.List.{cons_option}
use Rattle.std.specs.Option.{option_or}
use Rattle.std.specs.Str.{bytes_eq}
use Rattle.std.proofs.lemmas.Option.{same_Some, none-some}
use Rattle.std.proofs.lemmas.List.Folds.{list_any-append}
use Rattle.vw_design.specs.declared.item.Bind.{Bind}
use Rattle.vw_design.specs.declared.item.Item.{Item}
use Rattle.vw_design.specs.declared.item.Item.TheVariants.{Names, Latch, Sub}
use Rattle.vw_design.specs.declared.model.Model.{Model}
use Rattle.vw_design.specs.declared.design.Design.{Design}
use Rattle.vw_design.specs.Distinct.{has_name}
use Rattle.vw_design.specs.Paths.{Word, model_named, model_outputs}
use Rattle.vw_design.specs.Claims.{and_behind}
use Rattle.vw_design.specs.NetFaults.{bound_actual, claimed_by, first_again}
use Rattle.vw_net.proofs.FirstOptions.{or_assoc, or_nothing}
use Rattle.vw_drivers.specs.declared.claim.RepeatedClaim.{RepeatedClaim}
use Rattle.vw_drivers.specs.declared.claim.Claim.TheVariants.{Bound}
use Rattle.vw_drivers.specs.declared.model_claims.ModelClaims.{ModelClaims}
use Rattle.vw_drivers.specs.Firsts.{First}
use Rattle.vw_drivers.specs.Steps.GatheredClaims.{has_claim, port_first, binds_made, item_made, with_claim, with_first_claims, with_item_claims, ports_only}
use Rattle.vw_drivers.specs.Claimed.{IsRepeatedClaim}
use Rattle.vw_drivers.proofs.FirstClaims.{all_firsts}
use Rattle.vw_drivers.proofs.ClaimLookups.{claimed_names, has_first_more, has_firsts_more}

abbrev pub again_of : ℕ → Word → RepeatedClaim
again_of item name = record { item = item; name = name }

-- the names that an item claims
binds_names : (outputs : List Word) (place number : ℕ) (binds : List Bind) → claimed_names (binds_made outputs place number binds) ≡ filter_map (bound_actual outputs) binds
binds_names outputs place number [] = refl
binds_names outputs place number (bind ∷ binds) = by (has_name outputs bind.formal) (binds_names outputs place (suc number) binds) where
  by : (b : Bool) → claimed_names (binds_made outputs place (suc number) binds) ≡ filter_map (bound_actual outputs) binds
      → claimed_names (if b then record { name = bind.actual; claim = Bound place number } ∷ binds_made outputs place (suc number) binds else binds_made outputs place (suc number) binds)
      ≡ cons_option (if b then Some bind.actual else None) (filter_map (bound_actual outputs) binds)
  by true rest = ap (λ (names : List Word). bind.actual ∷ names) rest
  by false rest = rest

pub made_names : (design : Design) (number before : ℕ) (item : Item) → claimed_names (item_made design number before item) ≡ claimed_by design item
made_names design number before (Names line ins out cover) = refl
made_names design number before (Latch line d q edge control init) = refl
made_names design number before (Sub line model binds) = binds_names (model_outputs (model_named design.models model)) (suc before) 0 binds

-- names and claims that are the same
abbrev HaveSameNames : List Word → List First → Type 0
HaveSameNames names firsts = (name : Word) → has_name names name ≡ has_claim firsts name

-- what an item claims again, where nothing was claimed again before
all_again : (item : ℕ) (more : List First) (claims : ModelClaims) (before : List Word) → HaveSameNames before claims.firsts
    → (with_first_claims item more claims).again ≡ option_or claims.again (option_map (again_of item) (first_again before (claimed_names more)))
all_again item [] claims before knows = sym (or_nothing claims.again)
all_again item (further ∷ more) claims before knows =
    let next = with_claim item further.name further.claim claims in
    let known : HaveSameNames (further.name ∷ before) next.firsts = λ name.
    ap (λ (b : Bool). bytes_eq further.name name || b) (knows name) ∙ sym (has_first_more claims.firsts further.name further.claim name) in
    all_again item more next (further.name ∷ before) known
    ∙ by (has_claim claims.firsts further.name) (has_name before further.name) (knows further.name)
  where
    by : (had was : Bool) → was ≡ had
        → option_or (if had then option_or claims.again (Some (again_of item further.name)) else claims.again) (option_map (again_of item) (first_again (further.name ∷ before) (claimed_names more)))
        ≡ option_or claims.again (option_map (again_of item) (if was then Some further.name else first_again (further.name ∷ before) (claimed_names more)))
    by true true same = or_assoc claims.again (Some (again_of item further.name)) (option_map (again_of item) (first_again (further.name ∷ before) (claimed_names more)))
    by true false same = cc
    by false true same = cc
    by false false same = refl

all_known : (item : ℕ) (more : List First) (claims : ModelClaims) (before : List Word) → HaveSameNames before claims.firsts → HaveSameNames (before ++ claimed_names more) (with_first_claims item more claims).firsts
all_known item more claims before knows = λ name.
    list_any-append (λ (other : Word). bytes_eq other name) before (claimed_names more)
    ∙ ap (λ (b : Bool). b || has_name (claimed_names more) name) (knows name)
    ∙ sym (has_firsts_more claims.firsts more name)
    ∙ ap (λ (firsts : List First). has_claim firsts name) (sym (all_firsts item more claims))

-- the first item from a number on that claims again
again_from : Design → ℕ → List Word → List Item → Option RepeatedClaim
again_from design number before [] = None
again_from design number before (item ∷ items) =
    option_or (option_map (again_of number) (first_again before (claimed_by design item))) (again_from design (suc number) (before ++ claimed_by design item) items)

items_again : (design : Design) (number places : ℕ) (items : List Item) (claims : ModelClaims) (before : List Word) → HaveSameNames before claims.firsts
    → (with_item_claims design number places items claims).again ≡ option_or claims.again (again_from design number before items)
unfolding again_from
items_again design number places [] claims before knows = sym (or_nothing claims.again)
items_again design number places (item ∷ items) claims before knows =
    let made = item_made design number places item in
    let names = made_names design number places item in
    let known : HaveSameNames (before ++ claimed_by design item) (with_first_claims number made claims).firsts = λ name.
    ap (λ (list : List Word). has_name (before ++ list) name) (sym names) ∙ all_known number made claims before knows name in
    items_again design (suc number) (and_behind item places) items (with_first_claims number made claims) (before ++ claimed_by design item) known
    ∙ ap (λ (again : Option RepeatedClaim). option_or again (again_from design (suc number) (before ++ claimed_by design item) items))
    (all_again number made claims before knows ∙ ap (λ (list : List Word). option_or claims.again (option_map (again_of number) (first_again before list))) names)
    ∙ or_assoc claims.again (option_map (again_of number) (first_again before (claimed_by design item))) (again_from design (suc number) (before ++ claimed_by design item) items)

-- what an item behind others claims again
abbrev again_behind : Design → List Word → List Item → ℕ → Item → Option Word
again_behind design before items k item = first_again (before ++ flat_map (claimed_by design) (take k items)) (claimed_by design item)

-- it is the first one
abbrev IsFrom : Design → ℕ → List Word → List Item → Option RepeatedClaim → Type 0
IsFrom design number before items None = (k : ℕ) (item : Item) → slice_get items k ≡ Some item → again_behind design before items k item ≡ None
IsFrom design number before items (Some again) =
    (k : ℕ) × (again.item ≡ number + k)
    × ((item : Item) × (slice_get items k ≡ Some item) × (again_behind design before items k item ≡ Some again.name))
    × ((j : ℕ) (item : Item) → j < k → slice_get items j ≡ Some item → again_behind design before items j item ≡ None)

module _ (design : Design) where
  first_behind : (before : List Word) (items : List Item) (item : Item) → again_behind design before items 0 item ≡ first_again before (claimed_by design item)
  first_behind before items item = ap (λ (list : List Word). first_again list (claimed_by design item)) (append-nil before)

  next_behind : (before : List Word) (first : Item) (items : List Item) (k : ℕ) (item : Item)
      → again_behind design before (first ∷ items) (suc k) item ≡ again_behind design (before ++ claimed_by design first) items k item
  next_behind before first items k item =
      ap (λ (list : List Word). first_again list (claimed_by design item)) (sym (append_assoc before (claimed_by design first) (flat_map (claimed_by design) (take k items))))

  none_here : (number : ℕ) (before : List Word) (first : Item) (items : List Item) → first_again before (claimed_by design first) ≡ None → (again : Option RepeatedClaim)
      → IsFrom design (suc number) (before ++ claimed_by design first) items again → IsFrom design number before (first ∷ items) again
  none_here number before first items none None is = none_of where
    none_of : (k : ℕ) (item : Item) → slice_get (first ∷ items) k ≡ Some item → again_behind design before (first ∷ items) k item ≡ None
    none_of zero item at = first_behind before (first ∷ items) item ∙ ap (λ (i : Item). first_again before (claimed_by design i)) (sym (same_Some first item at)) ∙ none
    none_of (suc k) item at = next_behind before first items k item ∙ is k item at
  none_here number before first items none (Some again) is =
      (suc is.0, omega (arith, is.1), (is.2.0, is.2.1, next_behind before first items is.0 is.2.0 ∙ is.2.2), none_of)
    where
      none_of : (j : ℕ) (item : Item) → j < suc is.0 → slice_get (first ∷ items) j ≡ Some item → again_behind design before (first ∷ items) j item ≡ None
      none_of zero item below at = first_behind before (first ∷ items) item ∙ ap (λ (i : Item). first_again before (claimed_by design i)) (sym (same_Some first item at)) ∙ none
      none_of (suc j) item below at = next_behind before first items j item ∙ is.3 j item (omega arith) at

  from_is : (number : ℕ) (before : List Word) (items : List Item) → IsFrom design number before items (again_from design number before items)
  unfolding again_from
  from_is number before [] = λ k item at. absurd (none-some item at)
  from_is number before (first ∷ items) =
      by (first_again before (claimed_by design first)) refl (from_is (suc number) (before ++ claimed_by design first) items)
    where
      by : (found : Option Word) → first_again before (claimed_by design first) ≡ found
          → IsFrom design (suc number) (before ++ claimed_by design first) items (again_from design (suc number) (before ++ claimed_by design first) items)
          → IsFrom design number before (first ∷ items) (option_or (option_map (again_of number) found) (again_from design (suc number) (before ++ claimed_by design first) items))
      by None is rest = none_here number before first items is (again_from design (suc number) (before ++ claimed_by design first) items) rest
      by (Some name) is rest =
          (0, omega arith, (first, refl, first_behind before (first ∷ items) first ∙ is), λ j item below at. absurd (omega (arith, below)))

-- the names of ports
pub ports_names : (names : List Word) → claimed_names (map port_first names) ≡ names
ports_names [] = refl
ports_names (name ∷ names) = ap (λ (list : List Word). name ∷ list) (ports_names names)

from_first : (design : Design) (model : Model) (again : Option RepeatedClaim) → IsFrom design 0 (model.inputs ++ model.clocks) model.items again → IsRepeatedClaim design (Some model) again
from_first design model None is = is
from_first design model (Some again) is =
    let ports = model.inputs ++ model.clocks in
    let same : is.0 ≡ again.item = omega (arith, is.1) in (
      (
        is.2.0,
        subst (λ (n : ℕ). slice_get model.items n ≡ Some is.2.0) same is.2.1,
        subst (λ (n : ℕ). again_behind design ports model.items n is.2.0 ≡ Some again.name) same is.2.2,
      ),
      λ number item below at. is.3 number item (omega (arith, same, below)) at,
    )

pub gathered_again : (design : Design) (model : Model) → IsRepeatedClaim design (Some model) (with_item_claims design 0 0 model.items (ports_only model)).again
gathered_again design model =
    let ports = model.inputs ++ model.clocks in
    let known : HaveSameNames ports (ports_only model).firsts = λ name.
    sym (has_firsts_more [] (map port_first ports) name ∙ ap (λ (names : List Word). has_name names name) (ports_names ports)) in
    subst (IsRepeatedClaim design (Some model)) (sym (items_again design 0 0 model.items (ports_only model) ports known))
    (from_first design model (again_from design 0 ports model.items) (from_is design 0 ports model.items))
