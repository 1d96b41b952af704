-- What `decimal` writes of a number, however large: digits only.
use Rattle.std.proofs.Common.{◌≡◌, ◌<◌, ◌≤◌, ◌+◌, ◌/◌, ◌%◌, ◌==◌, ℕ, zero, suc, true, false, List, [], ◌∷◌, get_or, All, refl, arith}
use Rattle.std.specs.Prelude.{nat_le, nat_lt}
use Rattle.std.specs.Fmt.{decimal, digit_glyph, digits, digits_onto}
use Rattle.std.specs.List.{list_all}
use Rattle.std.proofs.lemmas.Bool.{and_parts, and_from, cond_both, le-leb, leb-true, lt-ltb, ne_eqb}
use Rattle.std.proofs.lemmas.List.Sums.{AllPass-from_list_all}
use Rattle.vw_text.specs.Number.{is_digit}
use Rattle.vw_text.proofs.FoundBytes.{HasNo}

-- the character of a digit is one
glyph_is_digit : (d : ℕ) → d < 10 → is_digit (digit_glyph false d) ≡ true
glyph_is_digit d small =
    let is : nat_lt d 10 ≡ true = lt-ltb d 10 small in
    rw is (and_from (nat_le 48 (48 + d)) (nat_le (48 + d) 57) (le-leb 48 (48 + d) (omega arith)) (le-leb (48 + d) 57 (omega arith)))

-- digits written before digits
onto_digits : (count number : ℕ) (behind : List ℕ) → list_all is_digit behind ≡ true → list_all is_digit (digits_onto count 10 false number behind) ≡ true
onto_digits zero number behind digits_behind = digits_behind
onto_digits (suc count) number behind digits_behind =
    let glyph = digit_glyph false (number % 10) in
    let more : list_all is_digit (glyph ∷ behind) ≡ true = and_from (is_digit glyph) (list_all is_digit behind) (glyph_is_digit (number % 10) (omega arith)) digits_behind in
    cond_both (number / 10 == 0) (glyph ∷ behind) (digits_onto count 10 false (number / 10) (glyph ∷ behind)) (λ (bytes : List ℕ). list_all is_digit bytes ≡ true) (λ last. more) (λ further. onto_digits count (number / 10) (glyph ∷ behind) more)

-- so all of a number are
pub decimal_digits : (number : ℕ) → list_all is_digit (decimal number) ≡ true
unfolding digits
decimal_digits number = onto_digits 64 number [] refl

-- no byte of it is below `0`
pub decimal_above : (number : ℕ) → All (λ b. 48 ≤ b) (decimal number)
decimal_above number place default within =
    let byte = get_or (decimal number) place default in
    leb-true 48 byte (and_parts (nat_le 48 byte) (nat_le byte 57) (AllPass-from_list_all is_digit (decimal number) (decimal_digits number) place default within)).0

-- so none is a byte below it, as a space, a `/` or the end of a line
pub decimal_without : (byte : ℕ) → byte < 48 → (number : ℕ) → HasNo (λ b. b == byte) (decimal number)
decimal_without byte low number place default within =
    let above : 48 ≤ get_or (decimal number) place default = decimal_above number place default within in
    ne_eqb (get_or (decimal number) place default) byte (λ same. omega arith)
