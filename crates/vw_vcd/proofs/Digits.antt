-- The digits of identifiers: which number they spell, what stands behind the first of them, and which bytes they are.
use Rattle.std.proofs.Common.{◌≡◌, ◌<◌, ◌≤◌, ◌+◌, ◌-◌, ◌*◌, ◌/◌, ◌%◌, ◌^◌, ◌==◌, ◌∙◌, ℕ, zero, suc, true, List, [], ◌∷◌, get_or, if◌then◌else◌, All, ap, refl, sym, eqb-true, arith}
use Rattle.std.proofs.lemmas.Bool.{cond_both, eq-eqb, ne_eqb}
use Rattle.std.proofs.lemmas.List.Elements.{All-cons, All-nil}
use Rattle.vw_text.proofs.FoundBytes.{HasNo}
use Rattle.vw_vcd.specs.Identifiers.{digits_94, identifier}

-- so many digits have the numbers below this one
abbrev most : ℕ → ℕ
most zero = 1
most (suc more) = 94 * most more

-- the number that digits spell
abbrev spelled_94 : List ℕ → ℕ
spelled_94 [] = 0
spelled_94 (b ∷ bs) = (b - 33) + 94 * spelled_94 bs

-- ---- the number that digits spell is the one that they are of

-- all digits of a number spell it
digits_spell : (more n : ℕ) → n < most more → spelled_94 (digits_94 more n) ≡ n
digits_spell zero n small = omega arith
digits_spell (suc more) n small =
    let further : spelled_94 (if n / 94 == 0 then [] else digits_94 more (n / 94)) ≡ n / 94 =
    cond_both (n / 94 == 0) [] (digits_94 more (n / 94)) (λ (bytes : List ℕ). spelled_94 bytes ≡ n / 94) (λ none. sym (eqb-true (n / 94) 0 none)) (λ some. digits_spell more (n / 94) (omega arith)) in
    omega arith

-- so numbers with one identifier are one number
pub same_number : (one other : ℕ) → one < 2 ^ 32 → other < 2 ^ 32 → identifier one ≡ identifier other → one ≡ other
same_number one other small other_small same = sym (digits_spell 5 one (omega arith)) ∙ ap spelled_94 same ∙ digits_spell 5 other (omega arith)

-- ---- what stands behind the first digit

-- where there are few digits, one more changes nothing
one_more : (more n : ℕ) → n < most (suc more) → digits_94 (suc more) n ≡ digits_94 (suc (suc more)) n
one_more zero n small =
    let none : n / 94 ≡ 0 = omega arith in
    let is : (n / 94 == 0) ≡ true = eq-eqb (n / 94) 0 none in
    rw is refl
one_more (suc more) n small =
    ap (λ (rest : List ℕ). (33 + n % 94) ∷ (if n / 94 == 0 then [] else rest)) (one_more more (n / 94) (omega arith))

-- the digits behind the first one
abbrev pub further_digits : ℕ → List ℕ
further_digits n = if n / 94 == 0 then [] else identifier (n / 94)

-- an identifier is its first digit and these
pub first_digit : (n : ℕ) → n < 2 ^ 32 → identifier n ≡ (33 + n % 94) ∷ further_digits n
first_digit n small =
    ap (λ (rest : List ℕ). (33 + n % 94) ∷ (if n / 94 == 0 then [] else rest)) (one_more 3 (n / 94) (omega arith))

-- ---- which bytes they are

-- no digit is a byte below `!`
digits_above : (more n : ℕ) → All (λ b. 33 ≤ b) (digits_94 more n)
digits_above zero n = All-nil (λ b. 33 ≤ b)
digits_above (suc more) n =
    All-cons (λ b. 33 ≤ b) (33 + n % 94) (if n / 94 == 0 then [] else digits_94 more (n / 94)) (omega arith)
    (cond_both (n / 94 == 0) [] (digits_94 more (n / 94)) (λ (bytes : List ℕ). All (λ b. 33 ≤ b) bytes) (λ none. All-nil (λ b. 33 ≤ b)) (λ some. digits_above more (n / 94)))

-- none is a byte below `!`, as a space or the end of a line
pub identifier_without : (byte : ℕ) → byte < 33 → (number : ℕ) → HasNo (λ b. b == byte) (identifier number)
identifier_without byte low number place default within =
    let above_ : 33 ≤ get_or (identifier number) place default = digits_above 5 number place default within in
    ne_eqb (get_or (identifier number) place default) byte (λ same. omega arith)
