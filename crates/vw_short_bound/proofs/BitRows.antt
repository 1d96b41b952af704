-- Bits of rows that change.
use Rattle.std.proofs.Common.{◌≡◌, ◌≢◌, ◌<◌, ◌*◌, ◌/◌, ◌%◌, ◌^◌, ◌⊎◌, inl, inr, ℕ, true, List, length, max, set, take, drop, ◌++◌, subst, slice_index, bit_or, eqb-true, eq-eqb, ap, sym, ◌∙◌, ⊎_elim, arith}
use Rattle.std.proofs.Math.Seq.{take-append_seam}
use Rattle.std.specs.Int.{bit_at}
use Rattle.std.proofs.Common.{w64}
use Rattle.std.proofs.lemmas.Bool.{cases_eq}
use Rattle.std.proofs.lemmas.Grind.{get_or-set_at}
use Rattle.std.proofs.lemmas.List.{get_or-set_other}
use Rattle.std.proofs.lemmas.Nat.Bits.{bit_at_or, bit_at-lt, bit_at_set_other}
use Rattle.vw_short_bound.specs.Steps.Rows.{has}

-- a bit is set where it is 1
has_bit : (row : List ℕ) (place : ℕ) → bit_at (slice_index row (place / 64)) (place % 64) ≡ 1 → has row place ≡ true
has_bit row place is = eq-eqb (bit_at (slice_index row (place / 64)) (place % 64)) 1 is

-- a word that takes the bits of another
pub or_has : (row : List ℕ) (index other : ℕ) (others : List ℕ) → index < length row → other ≡ slice_index others index → (place : ℕ)
    → has (set row index (bit_or (slice_index row index) other)) place ≡ true → (has row place ≡ true) ⊎ (has others place ≡ true)
or_has row index other others within is_other place is =
    let own = slice_index row index in
    let after = set row index (bit_or own other) in
    let bit : bit_at (slice_index after (place / 64)) (place % 64) ≡ 1 = eqb-true (bit_at (slice_index after (place / 64)) (place % 64)) 1 is in
    let Goal = (has row place ≡ true) ⊎ (has others place ≡ true) in
    let if_here = λ (here : place / 64 ≡ index).
    let word : slice_index after (place / 64) ≡ bit_or own other = get_or-set_at row index (place / 64) (bit_or own other) 0 here within in
    let either : max (bit_at own (place % 64)) (bit_at other (place % 64)) ≡ 1 = sym (bit_at_or own other (place % 64)) ∙ ap (λ (w : ℕ). bit_at w (place % 64)) (sym word) ∙ bit in
    let if_own = λ (one : bit_at own (place % 64) ≡ 1). let got : Goal = inl (has_bit row place (ap (λ (at : ℕ). bit_at (slice_index row at) (place % 64)) here ∙ one)) in got in
    let if_other = λ (apart : bit_at own (place % 64) ≢ 1).
    let one : bit_at other (place % 64) ≡ 1 = omega (arith, either, apart, bit_at-lt own (place % 64)) in
    let got : Goal = inr (has_bit others place (ap (λ (at : ℕ). bit_at (slice_index others at) (place % 64)) here ∙ ap (λ (w : ℕ). bit_at w (place % 64)) (sym is_other) ∙ one)) in got in
    ⊎_elim if_own if_other (cases_eq (bit_at own (place % 64)) 1) in
    let if_else = λ (apart : place / 64 ≢ index).
    let word : slice_index after (place / 64) ≡ slice_index row (place / 64) = get_or-set_other row index (place / 64) (bit_or own other) 0 apart in
    let got : Goal = inl (has_bit row place (ap (λ (w : ℕ). bit_at w (place % 64)) (sym word) ∙ bit)) in got in
    ⊎_elim if_here if_else (cases_eq (place / 64) index)

-- a word that takes one bit
pub add_has : (row : List ℕ) (place : ℕ) → place / 64 < length row → (at : ℕ)
    → has (set row (place / 64) (bit_or (slice_index row (place / 64)) (1 * 2 ^ (place % 64) % 2 ^ 64))) at ≡ true → (has row at ≡ true) ⊎ (at ≡ place)
add_has row place within at is =
    let index = place / 64 in
    let own = slice_index row index in
    let new = bit_or own (1 * 2 ^ (place % 64) % 2 ^ 64) in
    let after = set row index new in
    let bit : bit_at (slice_index after (at / 64)) (at % 64) ≡ 1 = eqb-true (bit_at (slice_index after (at / 64)) (at % 64)) 1 is in
    let Goal = (has row at ≡ true) ⊎ (at ≡ place) in
    let if_here = λ (here : at / 64 ≡ index).
    let word : slice_index after (at / 64) ≡ new = get_or-set_at row index (at / 64) new 0 here within in
    let if_same = λ (same : at % 64 ≡ place % 64). let got : Goal = inr (omega (arith, here, same)) in got in
    let if_apart = λ (apart : at % 64 ≢ place % 64).
    let kept : bit_at new (at % 64) ≡ bit_at own (at % 64) = bit_at_set_other w64 own (place % 64) (omega arith) (at % 64) apart in
    let got : Goal = inl (has_bit row at (ap (λ (i : ℕ). bit_at (slice_index row i) (at % 64)) here ∙ sym kept ∙ ap (λ (w : ℕ). bit_at w (at % 64)) (sym word) ∙ bit)) in got in
    ⊎_elim if_same if_apart (cases_eq (at % 64) (place % 64)) in
    let if_else = λ (apart : at / 64 ≢ index).
    let word : slice_index after (at / 64) ≡ slice_index row (at / 64) = get_or-set_other row index (at / 64) new 0 apart in
    let got : Goal = inl (has_bit row at (ap (λ (w : ℕ). bit_at w (at % 64)) (sym word) ∙ bit)) in got in
    ⊎_elim if_here if_else (cases_eq (at / 64) index)

-- a row that was written back keeps its length, so nothing of the old one is left
pub written_back : (size : ℕ) (new old : List ℕ) → length new ≡ length old → length old ≡ size → take size (new ++ drop (length new) old) ≡ new
written_back size new old same is = subst (λ (n : ℕ). take n (new ++ drop (length new) old) ≡ new) (same ∙ is) (take-append_seam new (drop (length new) old))
