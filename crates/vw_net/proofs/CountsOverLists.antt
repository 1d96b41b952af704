-- Counts of the elements of a list that pass a test.
use Rattle.std.proofs.Common.{◌≡◌, ◌<◌, ◌≤◌, ◌+◌, ◌&&◌, ◌++◌, ℕ, zero, suc, Bool, true, false, List, [], ◌∷◌, length, map, get_or, cond, ap, refl, sym, ◌∙◌, ⊎_elim, arith}
use Rattle.std.specs.Prelude.{sum_by}
use Rattle.std.specs.List.{AllByRecursion, count_by, filter, list_any}
use Rattle.std.proofs.lemmas.Bool.{cases_Bool, or_left, or_right}
use Rattle.std.proofs.lemmas.List.Sums.{sum_by-cons}
use Rattle.vw_net.specs.Sorting.{sorted}
use Rattle.vw_net.specs.Steps.Bits.{one_if}
use Rattle.vw_net.proofs.SortedLists.{sum_sorted}

-- one more in front, which passes the test or doesn't
pub count_cons : {X : Type 0} (test : X → Bool) (x : X) (xs : List X) → count_by test (x ∷ xs) ≡ one_if (test x) + count_by test xs
count_cons test x xs = sum_by-cons (λ other. one_if (test other)) x xs

-- of two lists behind each other
pub count_append : {X : Type 0} (test : X → Bool) (xs ys : List X) → count_by test (xs ++ ys) ≡ count_by test xs + count_by test ys
count_append test [] ys = omega arith
count_append test (x ∷ xs) ys = omega (arith, count_cons test x (xs ++ ys), count_cons test x xs, count_append test xs ys)

-- as a sum
pub count_sum : {X : Type 0} (test : X → Bool) (xs : List X) → count_by test xs ≡ sum_by (λ x. one_if (test x)) xs
count_sum test [] = refl
count_sum test (x ∷ xs) = omega (arith, count_cons test x xs, sum_by-cons (λ y. one_if (test y)) x xs, count_sum test xs)

-- of the list in order
pub count_sorted : {X : Type 0} (before : X → X → Bool) (test : X → Bool) (xs : List X) → count_by test (sorted before xs) ≡ count_by test xs
count_sorted before test xs = count_sum test (sorted before xs) ∙ sum_sorted before (λ x. one_if (test x)) xs ∙ sym (count_sum test xs)

-- of the values of a list
pub count_map : {X Y : Type 0} (test : Y → Bool) (f : X → Y) (xs : List X) → count_by test (map f xs) ≡ count_by (λ x. test (f x)) xs
count_map test f [] = refl
count_map test f (x ∷ xs) = omega (arith, count_cons test (f x) (map f xs), count_cons (λ y. test (f y)) x xs, count_map test f xs)

-- of those that pass another test
pub count_filter : {X : Type 0} (test part : X → Bool) (xs : List X) → count_by test (filter part xs) ≡ count_by (λ x. part x && test x) xs
count_filter test part [] = refl
count_filter test part (x ∷ xs) =
    let rest = count_filter test part xs in
    let if_kept = λ (is : part x ≡ true).
    let whole : count_by test (filter part (x ∷ xs)) ≡ count_by (λ y. part y && test y) (x ∷ xs) = omega (arith, ap (λ (kept : Bool). count_by test (cond kept (x ∷ filter part xs) (filter part xs))) is, count_cons test x (filter part xs), count_cons (λ y. part y && test y) x xs, rest, ap (λ (own : Bool). one_if (own && test x)) is) in whole in
    let if_not = λ (is : part x ≡ false).
    let whole : count_by test (filter part (x ∷ xs)) ≡ count_by (λ y. part y && test y) (x ∷ xs) = omega (arith, ap (λ (kept : Bool). count_by test (cond kept (x ∷ filter part xs) (filter part xs))) is, count_cons (λ y. part y && test y) x xs, rest, ap (λ (own : Bool). one_if (own && test x)) is) in whole in
    ⊎_elim if_kept if_not (cases_Bool (part x))

-- ---- tests that are compared

-- a test that passes no more
pub count_le : {X : Type 0} (one other : X → Bool) (xs : List X) → ((x : X) → one_if (one x) ≤ one_if (other x)) → count_by one xs ≤ count_by other xs
count_le one other [] less = omega arith
count_le one other (x ∷ xs) less = omega (arith, count_cons one x xs, count_cons other x xs, less x, count_le one other xs less)

-- of elements of which each has a fact
pub count_le_all : {X : Type 0} (P : X → Type 0) (one other : X → Bool) (xs : List X) → AllByRecursion P xs → ((x : X) → P x → one_if (one x) ≤ one_if (other x)) → count_by one xs ≤ count_by other xs
count_le_all P one other [] all less = omega arith
count_le_all P one other (x ∷ xs) all less = omega (arith, count_cons one x xs, count_cons other x xs, less x all.0, count_le_all P one other xs all.1 less)

-- a test that is two others
pub count_add : {X : Type 0} (one two whole : X → Bool) (xs : List X) → ((x : X) → one_if (whole x) ≡ one_if (one x) + one_if (two x)) → count_by whole xs ≡ count_by one xs + count_by two xs
count_add one two whole [] sum = omega arith
count_add one two whole (x ∷ xs) sum = omega (arith, count_cons one x xs, count_cons two x xs, count_cons whole x xs, sum x, count_add one two whole xs sum)

-- ---- whether some element passes

-- an element that passes is counted
pub counted_at : {X : Type 0} (test : X → Bool) (xs : List X) (place : ℕ) (default : X) → place < length xs → test (get_or xs place default) ≡ true → 1 ≤ count_by test xs
counted_at test [] place default within is = absurd (omega (arith, within))
counted_at test (x ∷ xs) zero default within is = omega (arith, count_cons test x xs, ap one_if is)
counted_at test (x ∷ xs) (suc place) default within is = omega (arith, count_cons test x xs, counted_at test xs place default (omega (arith, within)) is)

-- and where some is counted, some passes
pub some_counted : {X : Type 0} (test : X → Bool) (xs : List X) → 1 ≤ count_by test xs → list_any test xs ≡ true
some_counted test [] some = absurd (omega arith)
some_counted test (x ∷ xs) some =
    let if_here = λ (here : test x ≡ true). or_left (test x) (list_any test xs) here in
    let if_later = λ (no : test x ≡ false). or_right (test x) (list_any test xs) (some_counted test xs (omega (arith, some, count_cons test x xs, ap one_if no))) in
    ⊎_elim if_here if_later (cases_Bool (test x))
