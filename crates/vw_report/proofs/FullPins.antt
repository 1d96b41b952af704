-- Pins of a link, one after the other, and microcycles.
use Rattle.std.proofs.Common.{◌≡◌, ◌<◌, ◌≤◌, ◌+◌, ◌⊎◌, ◌&&◌, ℕ, zero, suc, Bool, true, false, ap, refl, sym, ◌∙◌, inl, inr, arith}
use Rattle.std.specs.List.{list_all, range_with_len}
use Rattle.vw_plan.specs.Distance.{least}

-- all numbers of a range pass a test, or one doesn't
all_in_range : (test : ℕ → Bool) (first count : ℕ) → ((number : ℕ) → number < count → test (first + number) ≡ true) → list_all test (range_with_len first count) ≡ true
all_in_range test first zero all = refl
all_in_range test first (suc count) all =
    let here : test first ≡ true = let same : first + 0 ≡ first = omega arith in ap test (sym same) ∙ all 0 (omega arith) in
    let later : list_all test (range_with_len (first + 1) count) ≡ true =
    all_in_range test (first + 1) count (λ number less. let same : first + 1 + number ≡ first + suc number = omega arith in ap test same ∙ all (suc number) (omega (arith, less))) in
    ap (λ (is : Bool). is && list_all test (range_with_len (first + 1) count)) here ∙ later

one_fails : (test : ℕ → Bool) (first count number : ℕ) → number < count → test (first + number) ≡ false → list_all test (range_with_len first count) ≡ false
one_fails test first zero number less fails = absurd (omega (arith, less))
one_fails test first (suc count) zero less fails =
    let here : test first ≡ false = let same : first + 0 ≡ first = omega arith in ap test (sym same) ∙ fails in
    ap (λ (is : Bool). is && list_all test (range_with_len (first + 1) count)) here
one_fails test first (suc count) (suc number) less fails =
    let later : list_all test (range_with_len (first + 1) count) ≡ false =
    one_fails test (first + 1) count number (omega (arith, less)) (let same : first + 1 + number ≡ first + suc number = omega arith in ap test same ∙ fails) in
    elim (test first) as (λ here. (here && list_all test (range_with_len (first + 1) count)) ≡ false) [ true ↦ later | false ↦ refl ]

-- the same from 0 on
pub all_below : (test : ℕ → Bool) (count : ℕ) → ((number : ℕ) → number < count → test number ≡ true) → list_all test (range_with_len 0 count) ≡ true
all_below test count all = all_in_range test 0 count (λ number less. let same : 0 + number ≡ number = omega arith in ap test same ∙ all number less)

pub one_below_fails : (test : ℕ → Bool) (count number : ℕ) → number < count → test number ≡ false → list_all test (range_with_len 0 count) ≡ false
one_below_fails test count number less fails = one_fails test 0 count number less (let same : 0 + number ≡ number = omega arith in ap test same ∙ fails)

-- the least number that passes a test, where none below it does, and it does or is the limit
pub least_is : (test : ℕ → Bool) (limit number : ℕ) → number ≤ limit → ((other : ℕ) → other < number → test other ≡ false) → (number ≡ limit) ⊎ (test number ≡ true)
    → least test limit ≡ number
least_is test zero zero within none ends = refl
least_is test zero (suc number) within none ends = absurd (omega (arith, within))
least_is test (suc limit) zero within none (inl same) = absurd (omega (arith, same))
least_is test (suc limit) zero within none (inr passes) = rw passes refl
least_is test (suc limit) (suc number) within none ends =
    let first : test 0 ≡ false = none 0 (omega arith) in
    let rest : least (λ one. test (suc one)) limit ≡ number = least_is (λ one. test (suc one)) limit number (omega (arith, within)) (λ other less. none (suc other) (omega (arith, less))) (end_of ends) in
    rw (first, rest) refl
  where
    end_of : (suc number ≡ suc limit) ⊎ (test (suc number) ≡ true) → (number ≡ limit) ⊎ (test (suc number) ≡ true)
    end_of (inl same) = inl (omega (arith, same))
    end_of (inr passes) = inr passes
