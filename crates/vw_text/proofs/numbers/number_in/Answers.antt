-- A number that is too large already stays so, and digits that are all read spell their number.
use Rattle.std.proofs.Common.{◌≡◌, ◌≢◌, ◌<◌, ◌≤◌, ◌+◌, ◌-◌, ◌*◌, ℕ, true, List, [], ◌∷◌, length, take, drop, get_or, slice_index, Some, refl, sym, ap, ap₂, ◌∙◌, arith}
use Rattle.std.specs.List.{list_all}
use Rattle.std.proofs.lemmas.Bool.{and_from, both_ways, eq-eqb, eqb-false}
use Rattle.std.proofs.lemmas.List.{take_all, at_drop_all, drop_more, take_more}
use Rattle.std.proofs.lemmas.List.Folds.{list_all-append}
use Rattle.vw_text.specs.Number.{is_digit, value_from}
use Rattle.vw_text.proofs.NumberWords.{digit_too_large, number_spelled}
use Rattle.vw_text.proofs.numbers.number_in.Goals as goal
use Rattle.vw_text.proofs.numbers.number_in.Goals.{then-digits-gt1, else-digits-gt1}

-- a digit more
value_more : (digits : List ℕ) (i value new : ℕ) → i < length digits → new ≡ value * 10 + (get_or digits i 0 - 48) → value_from value (drop i digits) ≡ value_from 0 digits
    → value_from new (drop (i + 1) digits) ≡ value_from 0 digits
value_more digits i value new within is whole =
    ap (λ (n : ℕ). value_from n (drop (i + 1) digits)) is ∙ ap (value_from value) (sym (drop_more digits i 0 within)) ∙ whole

digits_more : (digits : List ℕ) (i : ℕ) → i < length digits → is_digit (get_or digits i 0) ≡ true → list_all is_digit (take i digits) ≡ true → list_all is_digit (take (i + 1) digits) ≡ true
digits_more digits i within one before =
    ap (list_all is_digit) (take_more digits i 0 within) ∙ list_all-append is_digit (take i digits) (get_or digits i 0 ∷ [])
    ∙ and_from (list_all is_digit (take i digits)) _ before (and_from (is_digit (get_or digits i 0)) true one refl)

pub loop-digit-preserved : goal.loop-digit-preserved
loop-digit-preserved c =
    let digits = c.args.digits.now in
    let i = c.loop-digit.digit-index in
    let kept = c.loop-digit.invariant in
    record {
      whole = value_more digits i c.loop-digit.value c.in_ok-value.value c.loop-digit-test.true (c.in_ok-value.ensures.1 ∙ ap₂ (λ (a b : ℕ). a + b) c.in_ok-checked_mul.ensures.1 c.from.ensures) kept.whole;
      fits = omega (arith, c.in_ok-value.ensures);
      digits = digits_more digits i c.loop-digit-test.true (sym c.if-not-is_ascii_digit.ensures.value) kept.digits;
    }

pub returns-in_err-checked_mul : goal.returns-in_err-checked_mul
returns-in_err-checked_mul c =
    let digits = c.args.digits.now in
    c.from_residual.ensures
    ∙ sym (digit_too_large digits c.loop-digit.digit-index c.loop-digit.value c.loop-digit-test.true c.loop-digit.invariant.whole (omega (arith, c.in_err-checked_mul.ensures)))

pub returns-in_err-value : goal.returns-in_err-value
returns-in_err-value c =
    let digits = c.args.digits.now in
    c.from_residual-in_err-value.ensures
    ∙ sym (digit_too_large digits c.loop-digit.digit-index c.loop-digit.value c.loop-digit-test.true c.loop-digit.invariant.whole (omega (arith, c.in_err-value.ensures, c.in_ok-checked_mul.ensures)))

pub returns : goal.returns
returns c =
    let digits = c.args.digits.now in
    let i = c.loop-digit.digit-index in
    let past : length digits ≤ i = omega arith in
    let first : 1 < length digits → slice_index digits 0 ≢ 48 =
    elim c.if-digits-gt1.branch [ then-digits-gt1 w ↦ λ long is. both_ways _ (sym w.value-is ∙ c.if-digits-eq48.false) (eq-eqb _ _ is) | else-digits-gt1 w ↦ λ long is. absurd (omega arith) ] in
    let all_digits = ap (list_all is_digit) (take_all i digits past) in
    let value : value_from 0 digits ≡ c.loop-digit.value = sym c.loop-digit.invariant.whole ∙ at_drop_all (value_from c.loop-digit.value) digits i past in
    let none = eqb-false _ _ (sym c.is_empty.ensures ∙ c.if-is_empty.false) in
    let some : 0 < length digits = omega arith in
    let spelled = number_spelled digits some first (sym all_digits ∙ c.loop-digit.invariant.digits) (omega arith) in
    sym (spelled ∙ ap (λ n. Some n) value)
