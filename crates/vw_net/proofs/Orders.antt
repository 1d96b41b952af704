-- Numbers among others, which cells are gates, and how long an order of gates is.
use Rattle.std.proofs.Common.{◌≡◌, ◌<◌, ◌≤◌, ◌||◌, ◌==◌, ℕ, zero, suc, Bool, true, false, List, [], ◌∷◌, length, get_or, slice_get, eqb, ap, ap₂, refl, sym, ◌∙◌, ⊎_elim, ne_eqb, true≢false, All, arith}
use Rattle.std.specs.List.{list_any, IsDistinct}
use Rattle.std.proofs.lemmas.Bool.{cases_lt, eq-eqb, eqb-true, or_cases}
use Rattle.std.proofs.lemmas.Grind.{common_steps}
use Rattle.std.proofs.lemmas.List.{get_or_default}
use Rattle.std.proofs.lemmas.List.Elements.{All-head, All-tail}
use Rattle.std.proofs.lemmas.List.Folds.{list_any_at}
use Rattle.std.proofs.lemmas.Map.Keys.{IsDistinct-from_apart}
use Rattle.std.proofs.lemmas.Map.Steps.{length-le_from_distinct_below}
use Rattle.std.proofs.lemmas.Option.{slice_get_past}
use Rattle.vw_net.specs.declared.cell.Cell.{Cell}
use Rattle.vw_net.specs.declared.cell.Cell.TheVariants.{Gate, Latch}
use Rattle.vw_net.specs.Order.{IsOrder, is_gate, is_latch, is_among}

-- a test of two numbers goes both ways
pub eqb_comm : (a b : ℕ) → eqb a b ≡ eqb b a
eqb_comm a b = grind (arith, common_steps)

-- a number is among others whichever side of the test it stands on
pub is_among-flip : (number : ℕ) (numbers : List ℕ) → is_among numbers number ≡ list_any (eqb number) numbers
is_among-flip number [] = refl
is_among-flip number (other ∷ others) = ap₂ (λ (first rest : Bool). first || rest) (eqb_comm other number) (is_among-flip number others)

-- a number that is among others stands at a place
pub among_at : (numbers : List ℕ) (number : ℕ) → is_among numbers number ≡ true → (i : ℕ) × (i < length numbers) × (get_or numbers i 0 ≡ number)
among_at [] number among = absurd (true≢false (sym among))
among_at (first ∷ numbers) number among =
    ⊎_elim
    (λ here. (0, omega arith, eqb-true first number here))
    (λ there. let at = among_at numbers number there in (suc at.0, omega (arith, at.1), at.2))
    (or_cases (first == number) (is_among numbers number) among)

-- and has what each of them has
pub among_below : (nets : List ℕ) (net past : ℕ) → All (λ other. other < past) nets → is_among nets net ≡ true → net < past
among_below [] net past below among = absurd (true≢false (sym among))
among_below (first ∷ nets) net past below among =
    let if_first = λ (is : eqb first net ≡ true). let same : first ≡ net = eqb-true first net is in let low : net < past = omega (arith, All-head (λ other. other < past) first nets below) in low in
    let if_later = λ (later : is_among nets net ≡ true). among_below nets net past (All-tail (λ other. other < past) first nets below) later in
    ⊎_elim if_first if_later (or_cases (eqb first net) (is_among nets net) among)

-- what stands at a place is among them
pub at_among : (numbers : List ℕ) (i default : ℕ) → i < length numbers → is_among numbers (get_or numbers i default) ≡ true
at_among numbers i default within = list_any_at (λ (other : ℕ). other == get_or numbers i default) numbers i default within (eq-eqb (get_or numbers i default) (get_or numbers i default) refl)

-- a gate's number is below the number of cells
pub gate_within : (cells : List Cell) (number : ℕ) → is_gate (slice_get cells number) ≡ true → number < length cells
gate_within cells number gate = ⊎_elim (λ within. within) (λ past. absurd (true≢false (sym gate ∙ ap is_gate (slice_get_past cells number past)))) (cases_lt number (length cells))

-- a cell is a gate or a latch
pub gate_or_latch : (cells : List Cell) (number : ℕ) → number < length cells → (is_latch (slice_get cells number) || is_gate (slice_get cells number)) ≡ true
gate_or_latch [] number within = absurd (omega arith)
gate_or_latch (Gate ins cover ∷ cells) zero within = refl
gate_or_latch (Latch d init ∷ cells) zero within = refl
gate_or_latch (cell ∷ cells) (suc number) within = gate_or_latch cells number (omega arith)

module _ (inputs : ℕ) (cells : List Cell) (order : List ℕ) (is_order : IsOrder inputs cells order) where
  -- no two places of an order have one number
  order_distinct : IsDistinct eqb order
  order_distinct = IsDistinct-from_apart eqb order apart where
    apart : (i j default : ℕ) → i < j → j < length order → eqb (get_or order i default) (get_or order j default) ≡ false
    apart i j default before within =
        let at_i = get_or_default order i default 0 (omega arith) in
        let at_j = get_or_default order j default 0 within in
        ne_eqb (get_or order i default) (get_or order j default) (λ same. is_order.once i j before within (sym at_i ∙ same ∙ at_j))

  -- an order lists at most as many gates as there are cells
  pub length-order : length order ≤ length cells
  length-order = length-le_from_distinct_below order (length cells) order_distinct (λ number among. gate_within cells number (is_order.each number ∙ is_among-flip number order ∙ among))
