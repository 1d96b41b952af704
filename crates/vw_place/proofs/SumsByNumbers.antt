-- Sums over a list as sums over all numbers that two functions give its elements.
use Rattle.std.proofs.Common.{◌≡◌, ◌<◌, ◌+◌, ◌*◌, ◌&&◌, ℕ, true, false, Bool, List, [], ◌∷◌, cond, eqb, sym, ◌∙◌, refl, All, arith}
use Rattle.std.specs.Prelude.{count_by, sum_by}
use Rattle.std.specs.List.{range_with_len}
use Rattle.std.proofs.lemmas.List.Elements.{All-head, All-tail}
use Rattle.std.proofs.lemmas.List.Sums.{sum_by-cons}
use Rattle.vw_net.proofs.SumsOverLists.{range_one, sum_agree, sum_none, sum_plus}

module _ {X : Type 0} (first second : X → ℕ) (weight : ℕ → ℕ → ℕ) (many : ℕ) where
  abbrev is_at : ℕ → ℕ → X → Bool
  is_at a b x = eqb (first x) a && eqb (second x) b

  abbrev counted : List X → ℕ → ℕ → ℕ
  counted xs a b = count_by (is_at a b) xs * weight a b

  abbrev twice : (ℕ → ℕ → ℕ) → ℕ
  twice term = sum_by (λ a. sum_by (term a) (range_with_len 0 many)) (range_with_len 0 many)

  -- one element has one term
  one_term : (x : X) → first x < many → second x < many → twice (λ a b. cond (is_at a b x) (weight a b) 0) ≡ weight (first x) (second x)
  one_term x first_within second_within =
      let inner = λ (a : ℕ). let same : sum_by (λ b. cond (is_at a b x) (weight a b) 0) (range_with_len 0 many) ≡ cond (eqb (first x) a) (weight a (second x)) 0 = by_first a (eqb (first x) a) in same in
      sum_agree (λ a. sum_by (λ b. cond (is_at a b x) (weight a b) 0) (range_with_len 0 many)) (λ a. cond (eqb (first x) a) (weight a (second x)) 0) (range_with_len 0 many) inner
      ∙ range_one (λ a. weight a (second x)) (first x) 0 many (omega arith) (omega arith)
    where
      by_first : (a : ℕ) (bit : Bool) → sum_by (λ b. cond (bit && eqb (second x) b) (weight a b) 0) (range_with_len 0 many) ≡ cond bit (weight a (second x)) 0
      by_first a true = range_one (weight a) (second x) 0 many (omega arith) (omega arith)
      by_first a false = sum_none (λ b. 0) (range_with_len 0 many) (λ b. refl)

  one_more : (x : X) (xs : List X) (a b : ℕ) → counted (x ∷ xs) a b ≡ cond (is_at a b x) (weight a b) 0 + counted xs a b
  one_more x xs a b = rw (sum_by-cons (λ y. cond (is_at a b y) 1 0) x xs) (by_test (is_at a b x) (count_by (is_at a b) xs) (weight a b)) where
    by_test : (bit : Bool) (count term : ℕ) → (cond bit 1 0 + count) * term ≡ cond bit term 0 + count * term
    by_test true count term = grind arith
    by_test false count term = grind arith

  pub by_numbers : (xs : List X) → All (λ x. (first x < many) × (second x < many)) xs → sum_by (λ x. weight (first x) (second x)) xs ≡ twice (counted xs)
  by_numbers [] within = sym (sum_none (λ a. sum_by (counted [] a) (range_with_len 0 many)) (range_with_len 0 many) (λ a. sum_none (counted [] a) (range_with_len 0 many) (λ b. omega arith)))
  by_numbers (x ∷ xs) within =
      let here = All-head (λ y. (first y < many) × (second y < many)) x xs within in
      let rest = by_numbers xs (All-tail (λ y. (first y < many) × (second y < many)) x xs within) in
      let range = range_with_len 0 many in
      let term = λ (a b : ℕ). cond (is_at a b x) (weight a b) 0 in
      let row = λ (a : ℕ). let split : sum_by (counted (x ∷ xs) a) range ≡ sum_by (term a) range + sum_by (counted xs a) range = sum_agree (counted (x ∷ xs) a) (λ b. term a b + counted xs a b) range (one_more x xs a) ∙ sum_plus (term a) (counted xs a) range in split in
      let rows : twice (counted (x ∷ xs)) ≡ twice term + twice (counted xs) = sum_agree (λ a. sum_by (counted (x ∷ xs) a) range) (λ a. sum_by (term a) range + sum_by (counted xs a) range) range row ∙ sum_plus (λ a. sum_by (term a) range) (λ a. sum_by (counted xs a) range) range in
      omega (arith, sum_by-cons (λ y. weight (first y) (second y)) x xs, one_term x here.0 here.1, rest, rows)
