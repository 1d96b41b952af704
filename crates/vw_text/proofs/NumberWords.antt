-- Words that spell numbers.
use Rattle.std.proofs.Common.{◌≡◌, ◌≢◌, ℕ, ◌+◌, ◌-◌, ◌*◌, ◌^◌, ◌<◌, ◌≤◌, true, ◌&&◌, nat_lt, List, [], ◌∷◌, Some, None, length, get_or, drop, slice_index, arith}
use Rattle.std.specs.List.{list_all}
use Rattle.std.proofs.lemmas.Bool.{and_parts, and_from, and_right, not_from_false, ne_eqb, cond-true, cond-false, lt-ltb, le-ltb}
use Rattle.std.proofs.lemmas.List.{at_drop_more}
use Rattle.vw_text.specs.Number.{is_digit, is_number, value_from, spelled_number}

-- further digits make no value smaller
value_from-le : (before : ℕ) (digits : List ℕ) → before ≤ value_from before digits
value_from-le before [] = omega arith
value_from-le before (b ∷ bs) = omega (arith, value_from-le (before * 10 + (b - 48)) bs)

-- a word whose value up to one of its digits is too large already
pub digit_too_large : (word : List ℕ) (i before : ℕ) → i < length word → value_from before (drop i word) ≡ value_from 0 word
    → 2 ^ 64 ≤ before * 10 + (get_or word i 0 - 48) → spelled_number word ≡ None
digit_too_large word i before within is large =
    let further = at_drop_more (value_from before) word i 0 within in
    let value : 2 ^ 64 ≤ value_from 0 word = omega (arith, value_from-le (before * 10 + (get_or word i 0 - 48)) (drop (i + 1) word)) in
    cond-false (is_number word && nat_lt (value_from 0 word) (2 ^ 64)) _ _ (and_right (is_number word) _ (le-ltb _ _ value))

-- digits of which the first isn't `0`, or which are one
spells_number : (word : List ℕ) → 0 < length word → (1 < length word → slice_index word 0 ≢ 48) → list_all is_digit word ≡ true → is_number word ≡ true
spells_number [] some first digits = absurd (omega arith)
spells_number (b ∷ []) some first digits = (and_parts (is_digit b) true digits).0
spells_number (b ∷ c ∷ bs) some first digits =
    let parts = and_parts (is_digit b) (list_all is_digit (c ∷ bs)) digits in
    and_from _ _ parts.0 (and_from _ _ (not_from_false _ (ne_eqb b 48 (first (omega arith)))) parts.1)

-- the number that such digits spell
pub number_spelled : (word : List ℕ) → 0 < length word → (1 < length word → slice_index word 0 ≢ 48) → list_all is_digit word ≡ true
    → value_from 0 word < 2 ^ 64 → spelled_number word ≡ Some (value_from 0 word)
number_spelled word some first digits small =
    cond-true (is_number word && nat_lt (value_from 0 word) (2 ^ 64)) _ _ (and_from _ _ (spells_number word some first digits) (lt-ltb _ _ small))
