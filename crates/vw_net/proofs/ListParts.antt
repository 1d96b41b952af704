-- Elements of lists that are made of others.
use Rattle.std.proofs.Common.{◌≡◌, ◌++◌, ℕ, zero, suc, Bool, true, false, List, [], ◌∷◌, cond, slice_get, Some, ap, ◌∙◌, subst, ⊎_elim}
use Rattle.std.specs.List.{AllByRecursion, filter, flat_map, list_any}
use Rattle.std.proofs.lemmas.Bool.{or_cases, or_left, or_right}
use Rattle.std.proofs.lemmas.List.Folds.{list_any-append}

-- an element of one of the lists
pub any_flat_map : {A X : Type 0} (test : X → Bool) (f : A → List X) (xs : List A) (place : ℕ) (x : A) → slice_get xs place ≡ Some x → list_any test (f x) ≡ true → list_any test (flat_map f xs) ≡ true
any_flat_map test f [] place x is any = cc
any_flat_map test f (first ∷ xs) zero x is any = let same : first ≡ x = cc in list_any-append test (f first) (flat_map f xs) ∙ or_left (list_any test (f first)) (list_any test (flat_map f xs)) (ap (λ one. list_any test (f one)) same ∙ any)
any_flat_map test f (first ∷ xs) (suc place) x is any = list_any-append test (f first) (flat_map f xs) ∙ or_right (list_any test (f first)) (list_any test (flat_map f xs)) (any_flat_map test f xs place x is any)

-- an element that a part has
pub any_part : {X : Type 0} (test part : X → Bool) → ((x : X) → test x ≡ true → part x ≡ true) → (xs : List X) → list_any test xs ≡ true → list_any test (filter part xs) ≡ true
any_part test part has [] any = any
any_part test part has (x ∷ xs) any =
    let if_here = λ (here : test x ≡ true). let whole : list_any test (filter part (x ∷ xs)) ≡ true = rw (has x here) (or_left (test x) (list_any test (filter part xs)) here) in whole in
    let if_later = λ (later : list_any test xs ≡ true).
    let rest = any_part test part has xs later in
    elim (part x) as (λ kept. list_any test (cond kept (x ∷ filter part xs) (filter part xs)) ≡ true) [
      | true ↦ or_right (test x) (list_any test (filter part xs)) rest
      | false ↦ rest
    ] in
    ⊎_elim if_here if_later (or_cases (test x) (list_any test xs) any)

-- a weaker test
pub any_weaker : {X : Type 0} (test weaker : X → Bool) → ((x : X) → test x ≡ true → weaker x ≡ true) → (xs : List X) → list_any test xs ≡ true → list_any weaker xs ≡ true
any_weaker test weaker says [] any = any
any_weaker test weaker says (x ∷ xs) any = ⊎_elim (λ here. or_left (weaker x) (list_any weaker xs) (says x here)) (λ later. or_right (weaker x) (list_any weaker xs) (any_weaker test weaker says xs later)) (or_cases (test x) (list_any test xs) any)

-- what holds of all elements
pub all_append : {X : Type 0} (P : X → Type 0) (xs ys : List X) → AllByRecursion P xs → AllByRecursion P ys → AllByRecursion P (xs ++ ys)
all_append P [] ys all others = others
all_append P (x ∷ xs) ys all others = (all.0, all_append P xs ys all.1 others)

pub all_flat_map : {A X : Type 0} (P : X → Type 0) (f : A → List X) (xs : List A) → ((place : ℕ) (x : A) → slice_get xs place ≡ Some x → AllByRecursion P (f x)) → AllByRecursion P (flat_map f xs)
all_flat_map P f [] each = tt
all_flat_map P f (x ∷ xs) each = all_append P (f x) (flat_map f xs) (each 0 x (λ i. Some x)) (all_flat_map P f xs (λ place other is. each (suc place) other is))

pub all_at : {X : Type 0} (P : X → Type 0) (xs : List X) (place : ℕ) (x : X) → AllByRecursion P xs → slice_get xs place ≡ Some x → P x
all_at P [] place x all is = cc
all_at P (first ∷ xs) zero x all is = let same : first ≡ x = cc in subst P same all.0
all_at P (first ∷ xs) (suc place) x all is = all_at P xs place x all.1 is
