-- Sums over numbers, where each element of a list is counted at one number alone.
use Rattle.std.proofs.Common.{◌≡◌, ◌≤◌, ◌<◌, ◌+◌, ◌*◌, ℕ, zero, suc, Bool, true, false, cond, List, [], ◌∷◌, length, slice_get, Some, ap, refl, sym, arith}
use Rattle.std.specs.Prelude.{sum_by}
use Rattle.std.specs.List.{range_with_len}
use Rattle.std.proofs.lemmas.List.{length-append}
use Rattle.std.proofs.lemmas.List.Sums.{sum_by-cons}
use Rattle.vw_net.specs.Gathered.{gather, listed}
use Rattle.vw_net.proofs.SumsOverLists.{sum_agree, sum_plus}

-- the sum over so many numbers, from one on
abbrev pub total : (ℕ → ℕ) → ℕ → ℕ → ℕ
total f from count = sum_by f (range_with_len from count)

module _ {X : Type 0} where
  pub length_when : (test : Bool) (xs : List X) → length (cond test xs []) ≡ cond test (length xs) 0
  length_when true xs = refl
  length_when false xs = refl

  -- one element for each number
  pub length_singles : (each : ℕ → X) (count : ℕ) → length (gather (λ number. each number ∷ []) count) ≡ count
  length_singles each zero = refl
  length_singles each (suc count) = omega (arith, length-append (gather (λ number. each number ∷ []) count) (each count ∷ []), length_singles each count)

-- the same for each number
pub total_same : (value from count : ℕ) → total (λ number. value) from count ≡ count * value
total_same value from zero = let none : 0 * value ≡ 0 = omega arith in sym none
total_same value from (suc count) = omega (arith, sum_by-cons (λ (number : ℕ). value) from (range_with_len (from + 1) count), total_same value (from + 1) count, suc_times value count) where
  suc_times : (m n : ℕ) → suc n * m ≡ m + n * m
  suc_times m n = omega arith

-- what is counted at one number alone
module _ (own : ℕ) (test : ℕ → Bool) (only : (number : ℕ) → test number ≡ true → number ≡ own) (f : ℕ → ℕ) (most : ℕ) (few : (number : ℕ) → f number ≤ most) where
  off : (number : ℕ) → ¬ (number ≡ own) → cond (test number) (f number) 0 ≡ 0
  off number apart = by (test number) refl where
    by : (is : Bool) → test number ≡ is → cond is (f number) 0 ≡ 0
    by true is = absurd (apart (only number is))
    by false is = refl

  none_past : (from count : ℕ) → own < from → total (λ number. cond (test number) (f number) 0) from count ≡ 0
  none_past from zero past = refl
  none_past from (suc count) past =
      let here = off from (λ same. omega (arith, same, past)) in
      omega (arith, sum_by-cons (λ (number : ℕ). cond (test number) (f number) 0) from (range_with_len (from + 1) count), here, none_past (from + 1) count (omega (arith, past)))

  pub total_one : (from count : ℕ) → total (λ number. cond (test number) (f number) 0) from count ≤ most
  total_one from zero = omega arith
  total_one from (suc count) = by (test from) refl (total_one (from + 1) count) where
    whole : total (λ number. cond (test number) (f number) 0) from (suc count) ≡ cond (test from) (f from) 0 + total (λ number. cond (test number) (f number) 0) (from + 1) count
    whole = sum_by-cons (λ (number : ℕ). cond (test number) (f number) 0) from (range_with_len (from + 1) count)

    by : (is : Bool) → test from ≡ is → total (λ number. cond (test number) (f number) 0) (from + 1) count ≤ most
        → total (λ number. cond (test number) (f number) 0) from (suc count) ≤ most
    by true is behind_few =
        let here : cond (test from) (f from) 0 ≡ f from = ap (λ (b : Bool). cond b (f from) 0) is in
        let same = only from is in
        let behind = none_past (from + 1) count (omega (arith, same)) in
        omega (arith, whole, here, behind, few from)
    by false is behind_few =
        let here : cond (test from) (f from) 0 ≡ 0 = ap (λ (b : Bool). cond b (f from) 0) is in
        omega (arith, whole, here, behind_few)

-- lists of elements, for each number, where what an element gives over all numbers is bounded
module _ {A X : Type 0} (each : ℕ → ℕ → A → List X) (most : A → ℕ) (from count : ℕ) where
  pub total_listed : (number : ℕ) (xs : List A)
      → ((place : ℕ) (x : A) → slice_get xs place ≡ Some x → (k : ℕ) → total (λ node. length (each node k x)) from count ≤ most x)
      → total (λ node. length (listed (each node) number xs)) from count ≤ sum_by most xs
  total_listed number [] few = none (range_with_len from count) where
    none : (nodes : List ℕ) → sum_by (λ (node : ℕ). 0) nodes ≤ 0
    none [] = omega arith
    none (node ∷ nodes) = omega (arith, sum_by-cons (λ (node : ℕ). 0) node nodes, none nodes)
  total_listed number (x ∷ xs) few =
      let own = λ (node : ℕ). length (each node number x) in
      let behind = λ (node : ℕ). length (listed (each node) (suc number) xs) in
      let both = sum_agree (λ (node : ℕ). length (listed (each node) number (x ∷ xs))) (λ (node : ℕ). own node + behind node) (range_with_len from count) (λ node. length-append (each node number x) (listed (each node) (suc number) xs)) in
      omega (
        arith,
        both,
        sum_plus own behind (range_with_len from count),
        few 0 x refl number,
        total_listed (suc number) xs (λ place y is. few (suc place) y is),
        sum_by-cons most x xs,
      )
