-- Sums over lists and over ranges of numbers.
use Rattle.std.proofs.Common.{◌≡◌, ◌<◌, ◌≤◌, ◌+◌, ℕ, zero, suc, Bool, true, false, List, [], ◌∷◌, ◌++◌, length, map, cond, eqb, ap, refl, sym, ◌∙◌, ⊎_elim, eq-eqb, ne_eqb, arith}
use Rattle.std.specs.Prelude.{sum_by}
use Rattle.std.specs.List.{filter, flat_map, range_with_len}
use Rattle.std.proofs.lemmas.Bool.{cases_Bool, cases_eq}
use Rattle.std.proofs.lemmas.List.Sums.{sum_by-append, sum_by-cons}

-- ---- over a list

pub sum_agree : {X : Type 0} (f g : X → ℕ) (xs : List X) → ((x : X) → f x ≡ g x) → sum_by f xs ≡ sum_by g xs
sum_agree f g [] agree = refl
sum_agree f g (x ∷ xs) agree = omega (arith, sum_by-cons f x xs, sum_by-cons g x xs, agree x, sum_agree f g xs agree)

pub sum_plus : {X : Type 0} (f g : X → ℕ) (xs : List X) → sum_by (λ x. f x + g x) xs ≡ sum_by f xs + sum_by g xs
sum_plus f g [] = refl
sum_plus f g (x ∷ xs) = omega (arith, sum_by-cons f x xs, sum_by-cons g x xs, sum_by-cons (λ y. f y + g y) x xs, sum_plus f g xs)

pub sum_none : {X : Type 0} (f : X → ℕ) (xs : List X) → ((x : X) → f x ≡ 0) → sum_by f xs ≡ 0
sum_none f [] none = refl
sum_none f (x ∷ xs) none = omega (arith, sum_by-cons f x xs, none x, sum_none f xs none)

pub sum_map : {X Y : Type 0} (f : Y → ℕ) (g : X → Y) (xs : List X) → sum_by f (map g xs) ≡ sum_by (λ x. f (g x)) xs
sum_map f g [] = refl
sum_map f g (x ∷ xs) = omega (arith, sum_by-cons f (g x) (map g xs), sum_by-cons (λ y. f (g y)) x xs, sum_map f g xs)

pub sum_filter : {X : Type 0} (f : X → ℕ) (test : X → Bool) (xs : List X) → sum_by f (filter test xs) ≡ sum_by (λ x. cond (test x) (f x) 0) xs
sum_filter f test [] = refl
sum_filter f test (x ∷ xs) =
    let all = sum_by-cons (λ y. cond (test y) (f y) 0) x xs in
    let rest = sum_filter f test xs in
    let if_kept = λ (kept : test x ≡ true).
    let term : cond (test x) (f x) 0 ≡ f x = rw kept refl in
    let same : sum_by f (x ∷ filter test xs) ≡ sum_by (λ y. cond (test y) (f y) 0) (x ∷ xs) = omega (arith, sum_by-cons f x (filter test xs), all, rest, term) in
    let whole : sum_by f (filter test (x ∷ xs)) ≡ sum_by (λ y. cond (test y) (f y) 0) (x ∷ xs) = ap (λ (bit : Bool). sum_by f (cond bit (x ∷ filter test xs) (filter test xs))) kept ∙ same in whole in
    let if_out = λ (out : test x ≡ false).
    let term : cond (test x) (f x) 0 ≡ 0 = rw out refl in
    let same : sum_by f (filter test xs) ≡ sum_by (λ y. cond (test y) (f y) 0) (x ∷ xs) = omega (arith, all, rest, term) in
    let whole : sum_by f (filter test (x ∷ xs)) ≡ sum_by (λ y. cond (test y) (f y) 0) (x ∷ xs) = ap (λ (bit : Bool). sum_by f (cond bit (x ∷ filter test xs) (filter test xs))) out ∙ same in whole in
    ⊎_elim if_kept if_out (cases_Bool (test x))

pub sum_flat_map : {X Y : Type 0} (f : Y → ℕ) (g : X → List Y) (xs : List X) → sum_by f (flat_map g xs) ≡ sum_by (λ x. sum_by f (g x)) xs
sum_flat_map f g [] = refl
sum_flat_map f g (x ∷ xs) = omega (arith, sum_by-append f (g x) (flat_map g xs), sum_by-cons (λ y. sum_by f (g y)) x xs, sum_flat_map f g xs)

-- a length is a sum of ones
pub length_sum : {X : Type 0} (xs : List X) → length xs ≡ sum_by (λ x. 1) xs
length_sum [] = refl
length_sum (x ∷ xs) = omega (arith, sum_by-cons (λ y. 1) x xs, length_sum xs)

-- ---- over a range

pub range_agree : (f g : ℕ → ℕ) (from many : ℕ) → ((x : ℕ) → from ≤ x → x < from + many → f x ≡ g x) → sum_by f (range_with_len from many) ≡ sum_by g (range_with_len from many)
range_agree f g from zero agree = refl
range_agree f g from (suc many) agree =
    let here : f from ≡ g from = agree from (omega arith) (omega arith) in
    let rest = range_agree f g (from + 1) many (λ x above below. agree x (omega arith) (omega arith)) in
    omega (arith, sum_by-cons f from (range_with_len (from + 1) many), sum_by-cons g from (range_with_len (from + 1) many), here, rest)

-- terms that are 0 add nothing
range_none : (f : ℕ → ℕ) (from many : ℕ) → ((x : ℕ) → from ≤ x → f x ≡ 0) → sum_by f (range_with_len from many) ≡ 0
range_none f from zero none = refl
range_none f from (suc many) none =
    omega (arith, sum_by-cons f from (range_with_len (from + 1) many), none from (omega arith), range_none f (from + 1) many (λ x above. none x (omega arith)))

pub range_longer : (f : ℕ → ℕ) (from many all : ℕ) → many ≤ all → ((x : ℕ) → from + many ≤ x → f x ≡ 0) → sum_by f (range_with_len from all) ≡ sum_by f (range_with_len from many)
range_longer f from zero all within none = range_none f from all (λ x above. none x (omega arith))
range_longer f from (suc many) zero within none = absurd (omega arith)
range_longer f from (suc many) (suc all) within none =
    omega (arith, sum_by-cons f from (range_with_len (from + 1) many), sum_by-cons f from (range_with_len (from + 1) all), range_longer f (from + 1) many all (omega arith) (λ x above. none x (omega arith)))

-- one more
pub range_more : (f : ℕ → ℕ) (from many : ℕ) → sum_by f (range_with_len from (many + 1)) ≡ sum_by f (range_with_len from many) + f (from + many)
range_more f from many = rw (add-one-of many) (more f from many) where
  add-one-of : (n : ℕ) → n + 1 ≡ suc n
  add-one-of n = omega arith

  more : (f : ℕ → ℕ) (from many : ℕ) → sum_by f (range_with_len from (suc many)) ≡ sum_by f (range_with_len from many) + f (from + many)
  more f from zero = let same : f (from + 0) ≡ f from = ap f (omega arith) in omega (arith, sum_by-cons f from [], same)
  more f from (suc many) =
      let same : f (from + 1 + many) ≡ f (from + suc many) = ap f (omega arith) in
      omega (arith, sum_by-cons f from (range_with_len (from + 1) (suc many)), sum_by-cons f from (range_with_len (from + 1) many), more f (from + 1) many, same)

-- so a sum grows by the term of the next number
pub range_next : (f : ℕ → ℕ) (many total value : ℕ) → total ≡ sum_by f (range_with_len 0 many) → value ≡ f many → total + value ≡ sum_by f (range_with_len 0 (many + 1))
range_next f many total value is_total is_value =
    let same : f (0 + many) ≡ f many = ap f (omega arith) in
    omega (arith, range_more f 0 many, same)

-- and a range by that number
pub range_end : (from many : ℕ) → range_with_len from (many + 1) ≡ range_with_len from many ++ (from + many) ∷ []
range_end from many = let one : many + 1 ≡ suc many = omega arith in ap (λ (count : ℕ). range_with_len from count) one ∙ ending from many where
  ending : (from many : ℕ) → range_with_len from (suc many) ≡ range_with_len from many ++ (from + many) ∷ []
  ending from zero = let same : from ≡ from + 0 = omega arith in ap (λ (number : ℕ). number ∷ []) same
  ending from (suc many) =
      let same : from + 1 + many ≡ from + suc many = omega arith in
      ap (λ (rest : List ℕ). from ∷ rest) (ending (from + 1) many ∙ ap (λ (number : ℕ). range_with_len (from + 1) many ++ number ∷ []) same)

-- only the term of one number
pub range_one : (f : ℕ → ℕ) (number from many : ℕ) → from ≤ number → number < from + many → sum_by (λ x. cond (eqb number x) (f x) 0) (range_with_len from many) ≡ f number
range_one f number from zero above below = absurd (omega arith)
range_one f number from (suc many) above below =
    let term = λ (x : ℕ). cond (eqb number x) (f x) 0 in
    let all = sum_by-cons term from (range_with_len (from + 1) many) in
    let if_here = λ (here : number ≡ from).
    let this : term from ≡ f number = rw (eq-eqb number from here) (ap f (sym here)) in
    let no_more = range_apart (from + 1) many (omega arith) in
    let whole : sum_by term (range_with_len from (suc many)) ≡ f number = omega (arith, all, this, no_more) in whole in
    let if_later = λ (later : number ≡ from → ⊥).
    let this : term from ≡ 0 = rw (ne_eqb number from later) refl in
    let rest = range_one f number (from + 1) many (omega arith) (omega arith) in
    let whole : sum_by term (range_with_len from (suc many)) ≡ f number = omega (arith, all, this, rest) in whole in
    ⊎_elim if_here if_later (cases_eq number from)
  where
    range_apart : (first left : ℕ) → number < first → sum_by (λ x. cond (eqb number x) (f x) 0) (range_with_len first left) ≡ 0
    range_apart first left apart = range_none (λ x. cond (eqb number x) (f x) 0) first left (λ x past. let other : eqb number x ≡ false = ne_eqb number x (λ same. omega arith) in rw other refl)
