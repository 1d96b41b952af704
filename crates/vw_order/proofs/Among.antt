-- Numbers among others, and lists in which none stands twice.
use Rattle.std.proofs.Common.{◌≡◌, ◌≢◌, ◌<◌, ◌≤◌, ◌+◌, ◌==◌, not, cond, take, drop, ap, inl, inr, ℕ, zero, suc, Bool, true, false, List, [], ◌∷◌, ◌++◌, length, get_or, ◌⊎◌, ⊎_elim, refl, sym, ◌∙◌, subst, eqb, true≢false, append_assoc, arith}
use Rattle.std.specs.List.{list_any, position_or_len, IsDistinct}
use Rattle.std.specs.Cmp.{nat_eq_equiv}
use Rattle.std.proofs.lemmas.Bool.{eqb-true, eq-eqb, or_cases, or_left, or_right}
use Rattle.std.proofs.lemmas.List.{take-append-drop, take_all}
use Rattle.std.proofs.lemmas.List.Sums.{passes_at_first}
use Rattle.std.proofs.lemmas.List.Folds.{list_any-append}
use Rattle.std.proofs.lemmas.List.Sorted.{IsPermutation-append_right, IsPermutation-to_front}
use Rattle.std.proofs.lemmas.Map.Keys.{IsDistinct-push, IsDistinct-IsPermutation, IsDistinct-tail, apart_from_distinct}
use Rattle.std.proofs.lemmas.Map.Steps.{length-le_from_distinct_below}
use Rattle.vw_net.specs.Order.{is_among}
use Rattle.vw_net.proofs.Orders.{eqb_comm, is_among-flip}

-- among numbers that are joined
pub among_left : (numbers others : List ℕ) (number : ℕ) → is_among numbers number ≡ true → is_among (numbers ++ others) number ≡ true
among_left numbers others number among =
    list_any-append (λ (other : ℕ). other == number) numbers others ∙ or_left (is_among numbers number) (is_among others number) among

pub among_right : (numbers others : List ℕ) (number : ℕ) → is_among others number ≡ true → is_among (numbers ++ others) number ≡ true
among_right numbers others number among =
    list_any-append (λ (other : ℕ). other == number) numbers others ∙ or_right (is_among numbers number) (is_among others number) among

pub among_either : (numbers others : List ℕ) (number : ℕ) → is_among (numbers ++ others) number ≡ true
    → (is_among numbers number ≡ true) ⊎ (is_among others number ≡ true)
among_either numbers others number among =
    or_cases (is_among numbers number) (is_among others number) (sym (list_any-append (λ (other : ℕ). other == number) numbers others) ∙ among)

pub among_one : (other number : ℕ) → is_among (other ∷ []) number ≡ true → other ≡ number
among_one other number among = ⊎_elim (λ same. eqb-true other number same) (λ later. absurd (true≢false (sym later))) (or_cases (other == number) false among)

pub among_first : (number : ℕ) (numbers : List ℕ) → is_among (number ∷ numbers) number ≡ true
among_first number numbers = or_left (number == number) (is_among numbers number) (eq-eqb number number refl)

pub among_last : (numbers : List ℕ) (number : ℕ) → is_among (numbers ++ number ∷ []) number ≡ true
among_last numbers number = among_right numbers (number ∷ []) number (among_first number [])

-- numbers of which none stands twice
pub once_part : (front back : List ℕ) → IsDistinct eqb (front ++ back) → IsDistinct eqb back
once_part [] back once = once
once_part (number ∷ front) back once = once_part front back (IsDistinct-tail eqb number (front ++ back) once)

pub once_push : (numbers : List ℕ) (number : ℕ) → IsDistinct eqb numbers → is_among numbers number ≡ false → IsDistinct eqb (numbers ++ number ∷ [])
once_push numbers number once fresh = IsDistinct-push nat_eq_equiv numbers number once (sym (is_among-flip number numbers) ∙ fresh)

pub once_short : (numbers : List ℕ) (count : ℕ) → IsDistinct eqb numbers → ((number : ℕ) → is_among numbers number ≡ true → number < count)
    → length numbers ≤ count
once_short numbers count once within = length-le_from_distinct_below numbers count once (λ number among. within number (is_among-flip number numbers ∙ among))

pub once_moved : (order stack : List ℕ) (number : ℕ) → IsDistinct eqb (order ++ (stack ++ number ∷ [])) → IsDistinct eqb ((order ++ number ∷ []) ++ stack)
once_moved order stack number once =
    subst (λ (numbers : List ℕ). IsDistinct eqb numbers) (sym (append_assoc order (number ∷ []) stack))
    (IsDistinct-IsPermutation eqb eqb_comm (order ++ (stack ++ number ∷ [])) (order ++ number ∷ stack)
    (IsPermutation-append_right order (stack ++ number ∷ []) (number ∷ stack) (IsPermutation-to_front stack number)) once)

pub once_apart : (numbers : List ℕ) → IsDistinct eqb numbers → (i j : ℕ) → i < j → j < length numbers → get_or numbers i 0 ≢ get_or numbers j 0
once_apart numbers once i j before within same =
    absurd (true≢false (sym (eq-eqb (get_or numbers i 0) (get_or numbers j 0) same) ∙ apart_from_distinct eqb numbers i j 0 once before within))

-- what stands at the front of a list stands in it
pub front_among : (numbers : List ℕ) (i number : ℕ) → is_among (take i numbers) number ≡ true → is_among numbers number ≡ true
front_among numbers i number among = ap (λ (l : List ℕ). is_among l number) (sym (take-append-drop i numbers)) ∙ among_left (take i numbers) (drop i numbers) number among

-- the first that passes stands before what is behind another one that passes
pub front_position : {A : Type 0} → (test : A → Bool) (xs : List A) (end : ℕ) → list_any test (take end xs) ≡ true → position_or_len test xs < end
front_position test [] zero any = absurd (true≢false (sym any))
front_position test [] (suc end) any = absurd (true≢false (sym any))
front_position test (x ∷ xs) zero any = absurd (true≢false (sym any))
front_position test (x ∷ xs) (suc end) any = by (test x) refl (⊎_elim (λ here. inl here) (λ there. inr (front_position test xs end there)) (or_cases (test x) (list_any test (take end xs)) any)) where
  by : (b : Bool) → test x ≡ b → (test x ≡ true) ⊎ (position_or_len test xs < end) → cond (not b) (1 + position_or_len test xs) 0 < suc end
  by true is which = omega arith
  by false is which = ⊎_elim (λ here. absurd (true≢false (sym here ∙ is))) (λ further. omega (arith, further)) which

-- where a number stands first, and that it stands there
abbrev pub place_among : List ℕ → ℕ → ℕ
place_among numbers number = position_or_len (λ (other : ℕ). other == number) numbers

pub at_place : (numbers : List ℕ) (number : ℕ) → is_among numbers number ≡ true
    → (place_among numbers number < length numbers) × (get_or numbers (place_among numbers number) 0 ≡ number)
at_place numbers number among =
    let whole : is_among (take (length numbers) numbers) number ≡ true = ap (λ (l : List ℕ). is_among l number) (take_all (length numbers) numbers (omega arith)) ∙ among in
    let within : place_among numbers number < length numbers = front_position (λ (other : ℕ). other == number) numbers (length numbers) whole in
    (within, eqb-true (get_or numbers (place_among numbers number) 0) number (passes_at_first (λ (other : ℕ). other == number) numbers 0 within))
