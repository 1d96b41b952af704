-- Lists in order: that a list has one order, and what an order keeps.
use Rattle.std.proofs.Common.{◌≡◌, ◌<◌, ◌≤◌, ◌+◌, ◌||◌, ℕ, zero, suc, Bool, true, false, List, [], ◌∷◌, length, map, take, get_or, slice_get, Some, cond, ap, ap₂, refl, sym, ◌∙◌, ⊎_elim, true≢false, arith}
use Rattle.std.specs.List.{AllByRecursion, filter, list_any, sum_by}
use Rattle.std.specs.List.Sorted.{IsPermutation, IsSortedBy}
use Rattle.std.specs.Cmp.{IsStrictWeakOrder}
use Rattle.std.proofs.lemmas.Bool.{cases_Bool, or_cases, or_left, or_right}
use Rattle.std.proofs.lemmas.List.Elements.{recursion_from_All}
use Rattle.std.proofs.lemmas.List.Sorted.{sorted_far, sum_by-IsPermutation}
use Rattle.std.proofs.lemmas.List.Sums.{sum_by-cons}
use Rattle.vw_net.specs.Steps.Bits.{one_if}
use Rattle.vw_net.specs.Sorting.{put, sorted}

module _ {X : Type 0} (before : X → X → Bool) where
  -- no element of a list comes before the ones that stand before it
  abbrev pub Rises : List X → Type 0
  Rises [] = Unit {0}
  Rises (x ∷ xs) = AllByRecursion (λ y. before y x ≡ false) xs × Rises xs

  -- what holds of all elements, and of one more
  pub all_put : (P : X → Type 0) (x : X) (xs : List X) → P x → AllByRecursion P xs → AllByRecursion P (put before x xs)
  all_put P x [] here all = (here, tt)
  all_put P x (y ∷ ys) here all = elim (before y x) as (λ first. AllByRecursion P (cond first (y ∷ put before x ys) (x ∷ y ∷ ys))) [
    | true ↦ (all.0, all_put P x ys here all.1)
    | false ↦ (here, all)
  ]

  pub all_sorted : (P : X → Type 0) (xs : List X) → AllByRecursion P xs → AllByRecursion P (sorted before xs)
  all_sorted P [] all = tt
  all_sorted P (x ∷ xs) all = all_put P x (sorted before xs) all.0 (all_sorted P xs all.1)

  pub all_filter : (P : X → Type 0) (test : X → Bool) (xs : List X) → AllByRecursion P xs → AllByRecursion P (filter test xs)
  all_filter P test [] all = tt
  all_filter P test (x ∷ xs) all = elim (test x) as (λ here. AllByRecursion P (cond here (x ∷ filter test xs) (filter test xs))) [
    | true ↦ (all.0, all_filter P test xs all.1)
    | false ↦ all_filter P test xs all.1
  ]

  pub all_weaker : (P Q : X → Type 0) → ((x : X) → P x → Q x) → (xs : List X) → AllByRecursion P xs → AllByRecursion Q xs
  all_weaker P Q weaker [] all = tt
  all_weaker P Q weaker (x ∷ xs) all = (weaker x all.0, all_weaker P Q weaker xs all.1)

  -- a sum over the elements, and over a list with one more
  pub sum_put : (f : X → ℕ) (x : X) (xs : List X) → sum_by f (put before x xs) ≡ f x + sum_by f xs
  sum_put f x [] = sum_by-cons f x []
  sum_put f x (y ∷ ys) = elim (before y x) as (λ first. sum_by f (cond first (y ∷ put before x ys) (x ∷ y ∷ ys)) ≡ f x + sum_by f (y ∷ ys)) [
    | true ↦ omega (arith, sum_by-cons f y (put before x ys), sum_put f x ys, sum_by-cons f y ys)
    | false ↦ sum_by-cons f x (y ∷ ys)
  ]

  pub sum_sorted : (f : X → ℕ) (xs : List X) → sum_by f (sorted before xs) ≡ sum_by f xs
  sum_sorted f [] = refl
  sum_sorted f (x ∷ xs) = omega (arith, sum_put f x (sorted before xs), sum_sorted f xs, sum_by-cons f x xs)

  -- an element is in a list where it is in the list in order
  pub any_put : (test : X → Bool) (x : X) (xs : List X) → list_any test (put before x xs) ≡ (test x || list_any test xs)
  any_put test x [] = refl
  any_put test x (y ∷ ys) = elim (before y x) as (λ first. list_any test (cond first (y ∷ put before x ys) (x ∷ y ∷ ys)) ≡ (test x || (test y || list_any test ys))) [
    | true ↦ ap (λ (rest : Bool). test y || rest) (any_put test x ys) ∙ turned (test y) (test x) (list_any test ys)
    | false ↦ refl
  ] where
    turned : (one other rest : Bool) → (one || (other || rest)) ≡ (other || (one || rest))
    turned true true rest = refl
    turned true false rest = refl
    turned false other rest = refl

  pub any_sorted : (test : X → Bool) (xs : List X) → list_any test (sorted before xs) ≡ list_any test xs
  any_sorted test [] = refl
  any_sorted test (x ∷ xs) = any_put test x (sorted before xs) ∙ ap (λ (rest : Bool). test x || rest) (any_sorted test xs)

  module _ (order : IsStrictWeakOrder before) where
    pub irreflexive : (x : X) → before x x ≡ false
    irreflexive x = ⊎_elim (λ is. order.one_way x x is) (λ no. no) (cases_Bool (before x x))

    -- what is not before one isn't before what comes no sooner
    pub not_sooner : (x y : X) → before y x ≡ false → (zs : List X) → AllByRecursion (λ z. before z y ≡ false) zs → AllByRecursion (λ z. before z x ≡ false) zs
    not_sooner x y later [] all = tt
    not_sooner x y later (z ∷ zs) all = (order.chain z y x all.0 later, not_sooner x y later zs all.1)

    pub put_rises : (x : X) (xs : List X) → Rises xs → Rises (put before x xs)
    put_rises x [] rises = (tt, tt)
    put_rises x (y ∷ ys) rises =
        let if_before = λ (is : before y x ≡ true). let whole : Rises (put before x (y ∷ ys)) = rw is (all_put (λ z. before z y ≡ false) x ys (order.one_way y x is) rises.0, put_rises x ys rises.1) in whole in
        let if_not = λ (is : before y x ≡ false). let whole : Rises (put before x (y ∷ ys)) = rw is ((is, not_sooner x y is ys rises.0), rises) in whole in
        ⊎_elim if_before if_not (cases_Bool (before y x))

    pub sorted_rises : (xs : List X) → Rises (sorted before xs)
    sorted_rises [] = tt
    sorted_rises (x ∷ xs) = put_rises x (sorted before xs) (sorted_rises xs)

    -- a list in the order of its neighbours rises
    pub rises_from : (xs : List X) → ((i j : ℕ) (default : X) → i ≤ j → j < length xs → before (get_or xs j default) (get_or xs i default) ≡ false) → Rises xs
    rises_from [] far = tt
    rises_from (x ∷ xs) far = (
      recursion_from_All (λ y. before y x ≡ false) xs (λ k default within. far 0 (suc k) default (omega arith) (omega (arith, within))),
      rises_from xs (λ i j default upto within. far (suc i) (suc j) default (omega (arith, upto)) (omega (arith, within))),
    )

    -- ---- one order

    none_before : (x : X) (xs : List X) → AllByRecursion (λ y. before y x ≡ false) xs → sum_by (λ y. one_if (before y x)) xs ≡ 0
    none_before x [] all = refl
    none_before x (y ∷ ys) all = omega (arith, sum_by-cons (λ z. one_if (before z x)) y ys, none_before x ys all.1, ap one_if all.0)

    not_before : (x : X) (others : List X) (y : X) → sum_by (λ z. one_if (before z x)) (y ∷ others) ≡ 0 → before y x ≡ false
    not_before x others y none =
        let if_is = λ (is : before y x ≡ true). let no : before y x ≡ false = absurd (omega (arith, sum_by-cons (λ z. one_if (before z x)) y others, ap one_if is, none)) in no in
        ⊎_elim if_is (λ no. no) (cases_Bool (before y x))

    module _ (same : (x y : X) → before x y ≡ false → before y x ≡ false → x ≡ y) where
      pub unique : (xs ys : List X) → Rises xs → Rises ys → ((f : X → ℕ) → sum_by f xs ≡ sum_by f ys) → xs ≡ ys
      unique [] [] rises others_rise sums = refl
      unique [] (y ∷ ys) rises others_rise sums = absurd (omega (arith, sums (λ z. 1), sum_by-cons (λ (z : X). 1) y ys))
      unique (x ∷ xs) [] rises others_rise sums = absurd (omega (arith, sums (λ z. 1), sum_by-cons (λ (z : X). 1) x xs))
      unique (x ∷ xs) (y ∷ ys) rises others_rise sums =
          let none_y = none_before y (y ∷ ys) (irreflexive y, others_rise.0) in
          let none_x = none_before x (x ∷ xs) (irreflexive x, rises.0) in
          let first : x ≡ y = same x y (not_before y xs x (sums (λ z. one_if (before z y)) ∙ none_y)) (not_before x ys y (sym (sums (λ z. one_if (before z x))) ∙ none_x)) in
          let rest = unique xs ys rises.1 others_rise.1 (λ f. omega (arith, sums f, sum_by-cons f x xs, sum_by-cons f y ys, ap f first)) in
          ap₂ (λ (head : X) (tail : List X). head ∷ tail) first rest

      -- a list that was put in order is the list in order
      pub sorted_is : (old new : List X) → IsPermutation old new → IsSortedBy before new → new ≡ sorted before old
      sorted_is old new permutes in_order =
          unique new (sorted before old) (rises_from new (λ i j default upto within. sorted_far before order new in_order i j default upto within)) (sorted_rises old)
          (λ f. sum_by-IsPermutation f old new permutes ∙ sym (sum_sorted f old))

    -- ---- what an order keeps

    pub put_front : (x : X) (xs : List X) → AllByRecursion (λ y. before y x ≡ false) xs → put before x xs ≡ x ∷ xs
    put_front x [] all = refl
    put_front x (y ∷ ys) all = rw all.0 refl

    filter_put : (test : X → Bool) (x : X) (xs : List X) → Rises xs → filter test (put before x xs) ≡ cond (test x) (put before x (filter test xs)) (filter test xs)
    filter_put test x [] rises = refl
    filter_put test x (y ∷ ys) rises =
        let if_before = λ (is : before y x ≡ true).
        let whole : filter test (put before x (y ∷ ys)) ≡ cond (test x) (put before x (filter test (y ∷ ys))) (filter test (y ∷ ys)) = rw is (by (test y) (test x) is (filter_put test x ys rises.1)) in whole in
        let if_not = λ (is : before y x ≡ false).
        let front = put_front x (filter test (y ∷ ys)) (all_filter (λ z. before z x ≡ false) test (y ∷ ys) (is, not_sooner x y is ys rises.0)) in
        let whole : filter test (put before x (y ∷ ys)) ≡ cond (test x) (put before x (filter test (y ∷ ys))) (filter test (y ∷ ys)) = rw is (ap (λ (list : List X). cond (test x) list (filter test (y ∷ ys))) (sym front)) in whole in
        ⊎_elim if_before if_not (cases_Bool (before y x)) where
          by : (keeps_y keeps_x : Bool) → before y x ≡ true → filter test (put before x ys) ≡ cond keeps_x (put before x (filter test ys)) (filter test ys)
              → cond keeps_y (y ∷ filter test (put before x ys)) (filter test (put before x ys)) ≡ cond keeps_x (put before x (cond keeps_y (y ∷ filter test ys) (filter test ys))) (cond keeps_y (y ∷ filter test ys) (filter test ys))
          by true true is rest = rw is (ap (λ (list : List X). y ∷ list) rest)
          by true false is rest = ap (λ (list : List X). y ∷ list) rest
          by false true is rest = rest
          by false false is rest = rest

    -- those that pass a test are in order as all are
    pub filter_sorted : (test : X → Bool) (xs : List X) → filter test (sorted before xs) ≡ sorted before (filter test xs)
    filter_sorted test [] = refl
    filter_sorted test (x ∷ xs) = filter_put test x (sorted before xs) (sorted_rises xs) ∙ (elim (test x) as (λ keeps. cond keeps (put before x (filter test (sorted before xs))) (filter test (sorted before xs)) ≡ sorted before (cond keeps (x ∷ filter test xs) (filter test xs))) [
      | true ↦ ap (put before x) (filter_sorted test xs)
      | false ↦ filter_sorted test xs
    ])

    pub rises_filter : (test : X → Bool) (xs : List X) → Rises xs → Rises (filter test xs)
    rises_filter test [] rises = tt
    rises_filter test (x ∷ xs) rises = elim (test x) as (λ keeps. Rises (cond keeps (x ∷ filter test xs) (filter test xs))) [
      | true ↦ (all_filter (λ y. before y x ≡ false) test xs rises.0, rises_filter test xs rises.1)
      | false ↦ rises_filter test xs rises.1
    ]

    pub part_rises : (test : X → Bool) (xs : List X) → Rises (filter test (sorted before xs))
    part_rises test xs = rises_filter test (sorted before xs) (sorted_rises xs)

    none_of : (test : X → Bool) (x : X) → ((z : X) → test z ≡ true → before z x ≡ true) → (xs : List X) → AllByRecursion (λ z. before z x ≡ false) xs → list_any test xs ≡ true → ⊥
    none_of test x sooner [] all any = true≢false (sym any)
    none_of test x sooner (y ∷ ys) all any =
        ⊎_elim (λ here. true≢false (sym (sooner y here) ∙ all.0)) (λ later. none_of test x sooner ys all.1 later) (or_cases (test y) (list_any test ys) any)

    -- what is in a list in order and comes before one of it stands before it
    pub stands_before : (test : X → Bool) (xs : List X) (place : ℕ) (x : X) → Rises xs → slice_get xs place ≡ Some x → ((z : X) → test z ≡ true → before z x ≡ true) → list_any test xs ≡ true → list_any test (take place xs) ≡ true
    stands_before test [] place x rises is sooner any = absurd (true≢false (sym any))
    stands_before test (y ∷ ys) zero x rises is sooner any =
        let same : y ≡ x = cc in
        absurd (none_of test y (λ z passes. ap (before z) same ∙ sooner z passes) (y ∷ ys) (irreflexive y, rises.0) any)
    stands_before test (y ∷ ys) (suc place) x rises is sooner any =
        ⊎_elim (λ here. or_left (test y) (list_any test (take place ys)) here) (λ later. or_right (test y) (list_any test (take place ys)) (stands_before test ys place x rises.1 is sooner later)) (or_cases (test y) (list_any test ys) any)

    -- ---- a list that is mapped

    module _ (f : X → X) (P : X → Type 0) (keeps : (x y : X) → P x → P y → before (f x) (f y) ≡ before x y) where
      map_put : (x : X) (xs : List X) → P x → AllByRecursion P xs → put before (f x) (map f xs) ≡ map f (put before x xs)
      map_put x [] here all = refl
      map_put x (y ∷ ys) here all =
          ap (λ (first : Bool). cond first (f y ∷ put before (f x) (map f ys)) (f x ∷ f y ∷ map f ys)) (keeps y x all.0 here)
          ∙ (elim (before y x) as (λ first. cond first (f y ∷ put before (f x) (map f ys)) (f x ∷ f y ∷ map f ys) ≡ map f (cond first (y ∷ put before x ys) (x ∷ y ∷ ys))) [
            | true ↦ ap (λ (list : List X). f y ∷ list) (map_put x ys here all.1)
            | false ↦ refl
          ])

      pub sorted_map : (xs : List X) → AllByRecursion P xs → sorted before (map f xs) ≡ map f (sorted before xs)
      sorted_map [] all = refl
      sorted_map (x ∷ xs) all = ap (put before (f x)) (sorted_map xs all.1) ∙ map_put x (sorted before xs) all.0 (all_sorted P xs all.1)
