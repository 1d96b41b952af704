-- The words that spell numbers are those that `decimal` writes.
use Rattle.std.proofs.Common.{◌≡◌, ◌<◌, ◌≤◌, ◌^◌, ◌+◌, ◌&&◌, ◌==◌, not, ℕ, Bool, true, false, List, [], ◌∷◌, length, get_or, Option, Some, None, if◌then◌else◌, ap, refl, sym, ◌∙◌, eq-eqb, ⊎_elim, ◌≢◌, true≢false, arith, rules}
use Rattle.std.specs.Prelude.{nat_lt, unwrap_or}
use Rattle.std.specs.Fmt.{decimal}
use Rattle.std.specs.List.{list_all}
use Rattle.std.proofs.lemmas.Bool.{and_parts, and_from, not-true, both_ways, cases_lt, ltb-true}
use Rattle.std.proofs.lemmas.Fmt.{digits_decimal, digits_value-decimal, decimal-digits_value, decimal_nonempty, first_decimal, length-decimal-le_succ}
use Rattle.std.proofs.lemmas.Str.Parse.{IsNumeralModel, numerals_by_fold}
use Rattle.vw_text.proofs.NumberWords.{number_spelled}
use Rattle.vw_text.specs.Number.{is_digit, is_number, value_from, spelled_number}

decimal_numerals : IsNumeralModel (λ digits. list_all is_digit digits ≡ true) (value_from 0)
decimal_numerals = numerals_by_fold _ (search rules) value_from (search rules)

-- a number below 2 ^ 64 is read back
pub number_of-decimal : (number : ℕ) → number < 2 ^ 64 → spelled_number (decimal number) ≡ Some number
number_of-decimal number small =
    let digits = digits_decimal decimal_numerals number small in
    let value : value_from 0 (decimal number) ≡ number = digits_value-decimal decimal_numerals number small in
    let some : 0 < length (decimal number) = decimal_nonempty number small in
    number_spelled (decimal number) some (first number small) digits (omega arith) ∙ ap Some value where
      first : (n : ℕ) → n < 2 ^ 64 → 1 < length (decimal n) → get_or (decimal n) 0 0 ≢ 48
      first n fits long is = ⊎_elim if_zero if_some (cases_lt 0 n) where
        if_zero : 0 < n → ⊥
        if_zero above = let high : 48 < get_or (decimal n) 0 0 = first_decimal n above fits in omega arith

        if_some : n ≤ 0 → ⊥
        if_some zero_ = let short : length (decimal n) ≤ n + 1 = length-decimal-le_succ n fits in omega arith

-- digits of which the first isn't `0`, or which are one
record AreDigits (word : List ℕ) : Type 0 where
  digits : list_all is_digit word ≡ true
  some : 0 < length word
  first : get_or word 0 0 ≡ 48 → length word ≡ 1

digits_from : (word : List ℕ) → is_number word ≡ true → AreDigits word
digits_from [] is = absurd (true≢false (sym is))
digits_from (b ∷ []) is = record { digits = and_from (is_digit b) true is refl; some = omega arith; first = λ zero_. refl }
digits_from (b ∷ c ∷ bs) is =
    let parts : (is_digit b ≡ true) × ((not (b == 48) && list_all is_digit (c ∷ bs)) ≡ true) = and_parts (is_digit b) (not (b == 48) && list_all is_digit (c ∷ bs)) is in
    let rest : (not (b == 48) ≡ true) × (list_all is_digit (c ∷ bs) ≡ true) = and_parts (not (b == 48)) (list_all is_digit (c ∷ bs)) parts.1 in
    record { digits = and_from (is_digit b) (list_all is_digit (c ∷ bs)) parts.0 rest.1; some = omega arith; first = λ zero_. absurd (both_ways (b == 48) (not-true (b == 48) rest.0) (eq-eqb b 48 zero_)) }

-- a word that spells a number
pub record IsDecimal (word : List ℕ) (number : ℕ) : Type 0 where
  pub is : word ≡ decimal number
  pub small : number < 2 ^ 64

found_decimal : (word : List ℕ) (number : ℕ) (test : Bool) → (is_number word && nat_lt (value_from 0 word) (2 ^ 64)) ≡ test → (if test then Some (value_from 0 word) else None) ≡ Some number → IsDecimal word number
found_decimal word number false passes found = absurd (cc)
found_decimal word number true passes found =
    let parts : (is_number word ≡ true) × (nat_lt (value_from 0 word) (2 ^ 64) ≡ true) = and_parts (is_number word) (nat_lt (value_from 0 word) (2 ^ 64)) passes in
    let small : value_from 0 word < 2 ^ 64 = ltb-true (value_from 0 word) (2 ^ 64) parts.1 in
    let value : value_from 0 word ≡ number = ap (λ (o : Option ℕ). unwrap_or o 0) found in
    let are : AreDigits word = digits_from word parts.0 in
    record { is = sym (decimal-digits_value decimal_numerals word are.digits are.some are.first small) ∙ ap decimal value; small = omega arith }

pub decimal-number_of : (word : List ℕ) (number : ℕ) → spelled_number word ≡ Some number → IsDecimal word number
decimal-number_of word number found = found_decimal word number (is_number word && nat_lt (value_from 0 word) (2 ^ 64)) refl found
