-- Names that are a letter and numbers, with `_` between the numbers: two of them are the same only where the letters and
-- the numbers are.
use Rattle.std.proofs.Common.{◌≡◌, ◌<◌, ◌≤◌, ◌+◌, ◌^◌, ◌/◌, ◌%◌, ◌==◌, ℕ, zero, suc, Bool, true, false, List, [], ◌∷◌, ◌++◌, if◌then◌else◌, inl, inr, ⊎_elim, refl, sym, ap, ap₂, subst, arith}
use Rattle.std.specs.Fmt.{digit_glyph, digits_onto, digits, decimal}
use Rattle.std.proofs.lemmas.Bool.{lt-ltb}
use Rattle.std.proofs.lemmas.Fmt.{decimal_injective}
use Rattle.vw_design.specs.Paths.{Word}
use Rattle.vw_design.proofs.ListElements.{Has}

-- ---- digits

-- a byte from `0` to `9`
abbrev pub IsDigit : ℕ → Type 0
IsDigit byte = (48 ≤ byte) × (byte ≤ 57)

-- the digit of a number below ten
glyph : (number : ℕ) → digit_glyph false (number % 10) ≡ 48 + number % 10
glyph number = ap (λ (small : Bool). if small then 48 + number % 10 else 87 + number % 10) (lt-ltb (number % 10) 10 (omega arith))

-- it is one
glyph_digit : (number : ℕ) → IsDigit (digit_glyph false (number % 10))
glyph_digit number = subst IsDigit (sym (glyph number)) (omega arith, omega arith)

-- digits before others
digits_before : (steps number : ℕ) (others : List ℕ) → ((byte : ℕ) → Has byte others → IsDigit byte) → (byte : ℕ)
    → Has byte (digits_onto steps 10 false number others) → IsDigit byte
digits_before zero number others all = all
digits_before (suc steps) number others all = by (number / 10 == 0) (digits_before steps (number / 10) (digit_glyph false (number % 10) ∷ others) more) where
  more : (byte : ℕ) → Has byte (digit_glyph false (number % 10) ∷ others) → IsDigit byte
  more byte has = ⊎_elim (λ same. subst IsDigit same (glyph_digit number)) (all byte) has

  by : (last : Bool) → ((byte : ℕ) → Has byte (digits_onto steps 10 false (number / 10) (digit_glyph false (number % 10) ∷ others)) → IsDigit byte) → (byte : ℕ)
      → Has byte (if last then digit_glyph false (number % 10) ∷ others else digits_onto steps 10 false (number / 10) (digit_glyph false (number % 10) ∷ others))
      → IsDigit byte
  by true further = more
  by false further = further

-- what is written of a number, however great, is digits alone
pub decimal_digits : (number byte : ℕ) → Has byte (decimal number) → IsDigit byte
unfolding digits
decimal_digits number = digits_before 64 number [] (λ byte has. absurd has)

-- so it has no `_`
pub no_sign : (number : ℕ) → Has 95 (decimal number) → ⊥
no_sign number has = omega (arith, (decimal_digits number 95 has).1)

-- ---- words that are cut at a sign

-- lists that are the same begin alike and go on alike
head_same : {a b : ℕ} {xs ys : Word} → a ∷ xs ≡ b ∷ ys → a ≡ b
head_same e = cc

tail_same : {a b : ℕ} {xs ys : Word} → a ∷ xs ≡ b ∷ ys → xs ≡ ys
tail_same e = cc

-- words that go on behind a sign that isn't in their fronts have the same fronts, and go on alike
pub cut_same : (sign : ℕ) (front other : Word) (more others : Word) → (Has sign front → ⊥) → (Has sign other → ⊥)
    → front ++ sign ∷ more ≡ other ++ sign ∷ others → (front ≡ other) × (more ≡ others)
cut_same sign [] [] more others none none_too same = (refl, tail_same same)
cut_same sign [] (b ∷ other) more others none none_too same = absurd (none_too (inl (sym (head_same same))))
cut_same sign (a ∷ front) [] more others none none_too same = absurd (none (inl (head_same same)))
cut_same sign (a ∷ front) (b ∷ other) more others none none_too same =
    let rest = cut_same sign front other more others (λ has. none (inr has)) (λ has. none_too (inr has)) (tail_same same) in
    (ap₂ (λ (c : ℕ) (w : Word). c ∷ w) (head_same same) rest.0, rest.1)

-- a word with a sign is none without
pub no_cut : (sign : ℕ) (front more word : Word) → (Has sign word → ⊥) → front ++ sign ∷ more ≡ word → ⊥
no_cut sign [] more [] none same = cc
no_cut sign [] more (b ∷ word) none same = none (inl (sym (head_same same)))
no_cut sign (a ∷ front) more [] none same = cc
no_cut sign (a ∷ front) more (b ∷ word) none same = no_cut sign front more word (λ has. none (inr has)) (tail_same same)

-- ---- names

-- numbers with `_` between them
abbrev pub joined_numbers : ℕ → List ℕ → Word
joined_numbers number [] = decimal number
joined_numbers number (next ∷ numbers) = decimal number ++ 95 ∷ joined_numbers next numbers

-- a letter and numbers
abbrev pub numbered_name : ℕ → ℕ → List ℕ → Word
numbered_name letter number numbers = letter ∷ joined_numbers number numbers

-- all of some numbers have 64 bits at most
abbrev pub AreSmall : List ℕ → Type 0
AreSmall [] = Unit {0}
AreSmall (number ∷ numbers) = (number < 2 ^ 64) × AreSmall numbers

-- joined numbers that are the same are the same numbers
joined_same : (one : ℕ) (more : List ℕ) (other : ℕ) (others : List ℕ) → AreSmall (one ∷ more) → AreSmall (other ∷ others)
    → joined_numbers one more ≡ joined_numbers other others
    → (one ≡ other) × (more ≡ others)
joined_same one [] other [] small small_too same = (decimal_injective one other small.0 small_too.0 same, refl)
joined_same one [] other (next ∷ others) small small_too same = absurd (no_cut 95 (decimal other) (joined_numbers next others) (decimal one) (no_sign one) (sym same))
joined_same one (next ∷ more) other [] small small_too same = absurd (no_cut 95 (decimal one) (joined_numbers next more) (decimal other) (no_sign other) same)
joined_same one (next ∷ more) other (after ∷ others) small small_too same =
    let cut = cut_same 95 (decimal one) (decimal other) (joined_numbers next more) (joined_numbers after others) (no_sign one) (no_sign other) same in
    let rest = joined_same next more after others small.1 small_too.1 cut.1 in
    (decimal_injective one other small.0 small_too.0 cut.0, ap₂ (λ (n : ℕ) (ns : List ℕ). n ∷ ns) rest.0 rest.1)

-- names that are the same have the same letter and the same numbers
pub numbers_same : (letter one : ℕ) (more : List ℕ) (sign other : ℕ) (others : List ℕ) → AreSmall (one ∷ more) → AreSmall (other ∷ others)
    → numbered_name letter one more ≡ numbered_name sign other others → (letter ≡ sign) × (one ≡ other) × (more ≡ others)
numbers_same letter one more sign other others small small_too same =
    let rest = joined_same one more other others small small_too (tail_same same) in
    (head_same same, rest.0, rest.1)
