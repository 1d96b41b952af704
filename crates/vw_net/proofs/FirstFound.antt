-- What a search along a list finds, and what that says of the elements.
use Rattle.std.proofs.Common.{◌≡◌, ◌<◌, ◌+◌, ℕ, zero, suc, Bool, true, false, List, [], ◌∷◌, ◌++◌, length, drop, Option, Some, None, is_some, slice_get, get_or, ap, ap₂, refl, sym, subst, ◌∙◌, All, true≢false, add-one, drop-cons, arith}
use Rattle.std.specs.Option.{option_or}
use Rattle.std.proofs.lemmas.List.{drop_more}
use Rattle.std.proofs.lemmas.List.Elements.{All-nil, All-cons}
use Rattle.std.proofs.lemmas.Option.{none-some, same_Some}
use Rattle.vw_net.specs.FirstFound.{first_found, first_at, found_if, found_unless}
use Rattle.vw_net.proofs.FirstOptions.{or_none, none_or, or_is, or_assoc}

-- ---- element by element

pub found_append : {A B : Type 0} (search : A → Option B) (xs ys : List A) → first_found search (xs ++ ys) ≡ option_or (first_found search xs) (first_found search ys)
found_append search [] ys = refl
found_append search (x ∷ xs) ys = ap (option_or (search x)) (found_append search xs ys) ∙ sym (or_assoc (search x) (first_found search xs) (first_found search ys))

-- nothing is found at any element, or something at a place and nothing before it
pub found_nowhere : {A B : Type 0} (search : A → Option B) (xs : List A) → ((k : ℕ) (x : A) → slice_get xs k ≡ Some x → search x ≡ None) → first_found search xs ≡ None
found_nowhere search [] none = refl
found_nowhere {B = B} search (x ∷ xs) none = ap₂ (λ (one other : Option B). option_or one other) (none 0 x refl) (found_nowhere search xs (λ k y at. none (suc k) y at))

pub found_at : {A B : Type 0} (search : A → Option B) (xs : List A) (place : ℕ) (x : A) (y : B) → slice_get xs place ≡ Some x → search x ≡ Some y → ((k : ℕ) (z : A) → k < place → slice_get xs k ≡ Some z → search z ≡ None) → first_found search xs ≡ Some y
found_at search [] place x y at found before = absurd (none-some x at)
found_at {B = B} search (z ∷ xs) zero x y at found before = ap (λ (o : Option B). option_or o (first_found search xs)) (ap search (same_Some z x at) ∙ found)
found_at {B = B} search (z ∷ xs) (suc place) x y at found before =
    ap₂ (λ (one other : Option B). option_or one other) (before 0 z (omega arith) refl) (found_at search xs place x y at found (λ k w below there. before (suc k) w (omega arith) there))

-- where nothing is found at an element, the rest has what there is; what is found there is the first
module _ {A B : Type 0} (search : A → Option B) (xs : List A) (i : ℕ) (x : A) (within : i < length xs) (at : x ≡ get_or xs i x) where
  found_step : first_found search (drop i xs) ≡ option_or (search x) (first_found search (drop (i + 1) xs))
  found_step = ap (first_found search) (drop_more xs i x within ∙ ap (λ (y : A). y ∷ drop (i + 1) xs) (sym at))

  pub found_next : search x ≡ None → first_found search (drop (i + 1) xs) ≡ first_found search (drop i xs)
  found_next none = sym (found_step ∙ ap (λ (here : Option B). option_or here (first_found search (drop (i + 1) xs))) none)

  pub found_now : (y : B) → search x ≡ Some y → first_found search (drop i xs) ≡ Some y
  found_now y some = found_step ∙ ap (λ (here : Option B). option_or here (first_found search (drop (i + 1) xs))) some

-- the same, with numbers
module _ {A B : Type 0} (search : ℕ → A → Option B) (place : ℕ) (xs : List A) (default : A) (within : place < length xs) where
  abbrev rest : Option B
  rest = first_at search (place + 1) (drop (place + 1) xs)

  step : first_at search place (drop place xs) ≡ option_or (search place (get_or xs place default)) rest
  step = rw (add-one, drop-cons xs place default within) refl

  pub search_on : search place (get_or xs place default) ≡ None → rest ≡ first_at search place (drop place xs)
  search_on none = sym (step ∙ ap (λ (here : Option B). option_or here rest) none)

  pub search_ends : (thing : B) → search place (get_or xs place default) ≡ Some thing → Some thing ≡ first_at search place (drop place xs)
  search_ends thing is = sym (step ∙ ap (λ (here : Option B). option_or here rest) is)

  -- where the code looks whether something is found
  pub search_finds : (here : Option B) → search place (get_or xs place default) ≡ here → true ≡ is_some here → here ≡ first_at search place (drop place xs)
  search_finds None is there = absurd (true≢false there)
  search_finds (Some thing) is there = search_ends thing is

  pub search_passes : (here : Option B) → search place (get_or xs place default) ≡ here → false ≡ is_some here → rest ≡ first_at search place (drop place xs)
  search_passes None is none = search_on is
  search_passes (Some thing) is none = absurd (true≢false (sym none))

-- ---- what holds of each element and its number

abbrev pub EachAt : {A : Type 0} → (ℕ → A → Type 0) → ℕ → List A → Type 0
EachAt P number [] = Unit {0}
EachAt P number (x ∷ xs) = P number x × EachAt P (suc number) xs

pub each_to : {A : Type 0} (P Q : ℕ → A → Type 0) → ((k : ℕ) (x : A) → P k x → Q k x) → (number : ℕ) (xs : List A) → EachAt P number xs → EachAt Q number xs
each_to P Q step number [] each = tt
each_to P Q step number (x ∷ xs) each = (step number x each.0, each_to P Q step (suc number) xs each.1)

-- of each element, whatever its number
pub each_all : {A : Type 0} (P : A → Type 0) (number : ℕ) (xs : List A) → EachAt (λ k x. P x) number xs → All P xs
each_all P number [] each = All-nil P
each_all P number (x ∷ xs) each = All-cons P x xs each.0 (each_all P (suc number) xs each.1)

pub all_each : {A : Type 0} (P : A → Type 0) (number : ℕ) (xs : List A) → All P xs → EachAt (λ k x. P x) number xs
all_each P number [] all = tt
all_each P number (x ∷ xs) all = (all 0 x (omega arith), all_each P (suc number) xs (λ i d below. all (suc i) d (omega arith)))

-- at a place
pub each_get : {A : Type 0} (P : ℕ → A → Type 0) (number : ℕ) (xs : List A) → EachAt P number xs → (i : ℕ) (x : A) → slice_get xs i ≡ Some x → P (number + i) x
each_get P number [] each i x is = absurd (none-some x is)
each_get P number (y ∷ ys) each zero x is =
    let here : number ≡ number + 0 = omega arith in
    let same : y ≡ x = cc in
    subst (λ (n : ℕ). P n x) here (subst (P number) same each.0)
each_get P number (y ∷ ys) each (suc i) x is =
    let there : suc number + i ≡ number + suc i = omega arith in
    subst (λ (n : ℕ). P n x) there (each_get P (suc number) ys each.1 i x is)

each_or : {A : Type 0} (P : ℕ → A → Type 0) (number : ℕ) (xs : List A) → EachAt P number xs → (i : ℕ) (default : A) → i < length xs → P (number + i) (get_or xs i default)
each_or P number [] each i default below = absurd (omega arith)
each_or P number (x ∷ xs) each zero default below = let here : number ≡ number + 0 = omega arith in subst (λ (n : ℕ). P n x) here each.0
each_or P number (x ∷ xs) each (suc i) default below =
    let there : suc number + i ≡ number + suc i = omega arith in
    subst (λ (n : ℕ). P n (get_or xs i default)) there (each_or P (suc number) xs each.1 i default (omega arith))

or_each : {A : Type 0} (P : ℕ → A → Type 0) (number : ℕ) (xs : List A) → ((i : ℕ) (default : A) → i < length xs → P (number + i) (get_or xs i default)) → EachAt P number xs
or_each P number [] all = tt
or_each P number (x ∷ xs) all =
    let here : number + 0 ≡ number = omega arith in (
      subst (λ (n : ℕ). P n x) here (all 0 x (omega arith)),
      or_each P (suc number) xs (λ i default below.
          let there : number + suc i ≡ suc number + i = omega arith in
          subst (λ (n : ℕ). P n (get_or xs i default)) there (all (suc i) default (omega arith))),
    )

-- from 0 on
pub each_or-zero : {A : Type 0} (P : ℕ → A → Type 0) (xs : List A) → EachAt P 0 xs → (i : ℕ) (default : A) → i < length xs → P i (get_or xs i default)
each_or-zero P xs each i default below = let same : 0 + i ≡ i = omega arith in subst (λ (n : ℕ). P n (get_or xs i default)) same (each_or P 0 xs each i default below)

pub or_each-zero : {A : Type 0} (P : ℕ → A → Type 0) (xs : List A) → ((i : ℕ) (default : A) → i < length xs → P i (get_or xs i default)) → EachAt P 0 xs
or_each-zero P xs all = or_each P 0 xs (λ i default below. let same : i ≡ 0 + i = omega arith in subst (λ (n : ℕ). P n (get_or xs i default)) same (all i default below))

-- ---- nothing is found, or something

pub each_none : {A B : Type 0} (search : ℕ → A → Option B) (number : ℕ) (xs : List A) → first_at search number xs ≡ None → EachAt (λ k x. search k x ≡ None) number xs
each_none search number [] is = tt
each_none search number (x ∷ xs) is = let parts = or_none (search number x) (first_at search (suc number) xs) is in (parts.0, each_none search (suc number) xs parts.1)

pub none_each : {A B : Type 0} (search : ℕ → A → Option B) (number : ℕ) (xs : List A) → EachAt (λ k x. search k x ≡ None) number xs → first_at search number xs ≡ None
none_each search number [] each = refl
none_each search number (x ∷ xs) each = none_or (search number x) (first_at search (suc number) xs) each.0 (none_each search (suc number) xs each.1)

-- what holds of whatever is found holds of the first
pub first_is : {A B : Type 0} (search : ℕ → A → Option B) (P : B → Type 0) → ((k : ℕ) (x : A) (y : B) → search k x ≡ Some y → P y) → (number : ℕ) (xs : List A) (y : B) → first_at search number xs ≡ Some y → P y
first_is search P each number [] y is = absurd (none-some y is)
first_is search P each number (x ∷ xs) y is =
    or_is (search number x) (first_at search (suc number) xs) y P is (each number x y) (first_is search P each (suc number) xs y)

-- ---- what a test finds

pub unless_none : {A : Type 0} (test : Bool) (thing : A) → found_unless test thing ≡ None → test ≡ true
unless_none true thing is = refl
unless_none false thing is = absurd (none-some thing (sym is))

pub none_unless : {A : Type 0} (test : Bool) (thing : A) → test ≡ true → found_unless test thing ≡ None
none_unless true thing is = refl
none_unless false thing is = absurd (true≢false (sym is))

pub if_none : {A : Type 0} (test : Bool) (thing : A) → found_if test thing ≡ None → test ≡ false
if_none true thing is = absurd (none-some thing (sym is))
if_none false thing is = refl

pub none_if : {A : Type 0} (test : Bool) (thing : A) → test ≡ false → found_if test thing ≡ None
none_if true thing is = absurd (true≢false is)
none_if false thing is = refl

pub unless_is : {A : Type 0} (test : Bool) (thing y : A) → found_unless test thing ≡ Some y → thing ≡ y
unless_is true thing y is = absurd (none-some y is)
unless_is false thing y is = cc

pub if_is : {A : Type 0} (test : Bool) (thing y : A) → found_if test thing ≡ Some y → thing ≡ y
if_is true thing y is = cc
if_is false thing y is = absurd (none-some y is)
