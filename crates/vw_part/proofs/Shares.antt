-- Sums over a list, sorted by a range that has all its numbers.
use Rattle.std.proofs.Common.{◌≡◌, ◌<◌, ◌≤◌, ◌+◌, ◌==◌, ◌||◌, ℕ, true, false, List, [], ◌∷◌, length, drop, get_or, nat_lt, eqb, ap, refl, subst, ◌∙◌, ⊎_elim, eq-eqb, ne_eqb, lt-ltb, if◌then◌else◌, arith}
use Rattle.std.specs.Prelude.{sum_by}
use Rattle.std.specs.List.{All, range_with_len}
use Rattle.std.proofs.lemmas.Bool.{cases_eq}
use Rattle.std.proofs.lemmas.List.Elements.{All-head, All-tail}
use Rattle.std.proofs.lemmas.List.Sums.{sum_by-cons, sum_by-drop_more}
use Rattle.vw_net.specs.Order.{is_among}
use Rattle.vw_net.specs.Steps.Bits.{one_if}
use Rattle.vw_net.proofs.SumsOverLists.{range_one, sum_agree, sum_none, sum_plus}
use Rattle.vw_part.specs.Steps.CellNets.{times_among}

-- ---- an amount at one number alone

abbrev pub at : ℕ → ℕ → ℕ → ℕ
at number amount other = if number == other then amount else 0

pub at_same : (number amount : ℕ) → at number amount number ≡ amount
at_same number amount = rw (eq-eqb number number refl) refl

pub at_other : (number amount other : ℕ) → (number ≡ other → ⊥) → at number amount other ≡ 0
at_other number amount other apart = rw (ne_eqb number other apart) refl

-- ---- sums by where numbers stand

-- what the numbers that are this one amount to
abbrev pub share : (ℕ → ℕ) → List ℕ → ℕ → ℕ
share amount numbers number = sum_by (λ other. at other (amount other) number) numbers

-- a sum over a list, sorted by a range that has all its numbers
pub by_share : (amount : ℕ → ℕ) (numbers : List ℕ) (from many : ℕ) → All (λ number. (from ≤ number) × (number < from + many)) numbers → sum_by (share amount numbers) (range_with_len from many) ≡ sum_by amount numbers
by_share amount [] from many within = sum_none (λ number. 0) (range_with_len from many) (λ number. refl)
by_share amount (number ∷ numbers) from many within =
    let range = range_with_len from many in
    let own = All-head (λ number. (from ≤ number) × (number < from + many)) number numbers within in
    let here = range_one (λ other. amount number) number from many own.0 own.1 in
    let rest = by_share amount numbers from many (All-tail (λ number. (from ≤ number) × (number < from + many)) number numbers within) in
    let both = sum_plus (at number (amount number)) (share amount numbers) range in
    let same = sum_agree (share amount (number ∷ numbers)) (λ x. at number (amount number) x + share amount numbers x) range (λ x. sum_by-cons (λ other. at other (amount other) x) number numbers) in
    omega (arith, sum_by-cons amount number numbers, here, rest, both, same)

-- that of a number that doesn't stand there, and of one that stands there once
pub share_none : (amount : ℕ → ℕ) (numbers : List ℕ) (number : ℕ) → times_among numbers number ≡ 0 → share amount numbers number ≡ 0
share_none amount [] number none = refl
share_none amount (other ∷ numbers) number none =
    let times = sum_by-cons (λ x. at x 1 number) other numbers in
    let amounts = sum_by-cons (λ x. at x (amount x) number) other numbers in
    let if_here = λ (here : other ≡ number). absurd (omega (arith, none, times, subst (λ (x : ℕ). at other 1 x ≡ 1) here (at_same other 1))) in
    let if_not = λ (apart : other ≡ number → ⊥).
    let sum : share amount (other ∷ numbers) number ≡ 0 = omega (arith, amounts, at_other other (amount other) number apart, share_none amount numbers number (omega (arith, none, times))) in sum in
    ⊎_elim if_here if_not (cases_eq other number)

pub share_one : (amount : ℕ → ℕ) (numbers : List ℕ) (number : ℕ) → times_among numbers number ≡ 1 → share amount numbers number ≡ amount number
share_one amount [] number one = absurd (omega (arith, one))
share_one amount (other ∷ numbers) number one =
    let times = sum_by-cons (λ x. at x 1 number) other numbers in
    let amounts = sum_by-cons (λ x. at x (amount x) number) other numbers in
    let if_here = λ (here : other ≡ number).
    let unit : at other 1 number ≡ 1 = subst (λ (x : ℕ). at other 1 x ≡ 1) here (at_same other 1) in
    let own : at other (amount other) number ≡ amount number = subst (λ (x : ℕ). at other (amount other) x ≡ amount x) here (at_same other (amount other)) in
    let sum : share amount (other ∷ numbers) number ≡ amount number = omega (arith, amounts, own, share_none amount numbers number (omega (arith, one, times, unit))) in sum in
    let if_not = λ (apart : other ≡ number → ⊥).
    let sum : share amount (other ∷ numbers) number ≡ amount number = omega (arith, amounts, at_other other (amount other) number apart, share_one amount numbers number (omega (arith, one, times, at_other other 1 number apart))) in sum in
    ⊎_elim if_here if_not (cases_eq other number)

-- ---- how often a number stands

-- a number is among some where it stands there at least once
pub among : (numbers : List ℕ) (number : ℕ) → nat_lt 0 (times_among numbers number) ≡ is_among numbers number
among [] number = refl
among (other ∷ numbers) number =
    ap (λ (n : ℕ). nat_lt 0 n) (sum_by-cons (λ x. at x 1 number) other numbers)
    ∙ elim (eqb other number) as (λ bit. nat_lt 0 (one_if bit + times_among numbers number) ≡ (bit || is_among numbers number)) [
      | true ↦ lt-ltb 0 (1 + times_among numbers number) (omega arith)
      | false ↦ ap (λ (n : ℕ). nat_lt 0 n) (omega arith) ∙ among numbers number
    ]

-- one of those that are left
pub one_left : (numbers : List ℕ) (i : ℕ) → i < length numbers → 1 ≤ times_among (drop i numbers) (get_or numbers i 0)
one_left numbers i within =
    let number = get_or numbers i 0 in
    omega (arith, sum_by-drop_more (λ other. at other 1 number) numbers i 0 within, at_same number 1)
