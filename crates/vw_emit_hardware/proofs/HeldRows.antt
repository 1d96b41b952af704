-- Rows that are held, and lists of bits that are shown.
use Rattle.std.proofs.Common.{◌≡◌, ◌<◌, ◌≤◌, ◌+◌, ◌*◌, ◌++◌, ◌∙◌, ℕ, zero, suc, Bool, false, List, [], ◌∷◌, length, map, replicate, take, slice_get, slice_index_or, Some, ap, ap₂, refl, sym, suc-mul, arith}
use Rattle.std.proofs.lemmas.List.{length-map, length-replicate}
use Rattle.std.proofs.lemmas.Option.{none-some, same_Some}
use Rattle.vw_net.specs.Cells.{latch_count, latch_inputs, start_value, start_values}
use Rattle.vw_net.specs.Gathered.{listed}
use Rattle.vw_net.specs.History.{next_state}
use Rattle.vw_net.specs.Value.{net_value}
use Rattle.vw_net.specs.declared.cell.Cell.{Cell}
use Rattle.vw_net.specs.declared.cell.Cell.TheVariants.{Gate, Latch}
use Rattle.vw_net.specs.declared.cell.Init.{Init}
use Rattle.vw_net.specs.declared.flat.Flat.{Flat}
use Rattle.vw_net.proofs.ListedLists.{left_at, right_at}
use Rattle.vw_plan.specs.PlannedBoard.{PlannedBoard}
use Rattle.vw_emit_hardware.specs.Run.{Values}
use Rattle.vw_emit_hardware.specs.Shown.{held_rows, shown_latch}

-- ---- rows

copy_at : {X : Type 0} (x : X) (count place : ℕ) → place < count → slice_get (replicate count x) place ≡ Some x
copy_at x zero place below = absurd (omega (arith, below))
copy_at x (suc count) zero below = refl
copy_at x (suc count) (suc place) below = copy_at x count place (omega (arith, below))

-- each row is held for all microclocks of its clock
pub row_held : (planned : PlannedBoard) (rows : List (List Bool)) (place : ℕ) (row : List Bool) (microcycle : ℕ)
    → slice_get rows place ≡ Some row → microcycle ≤ planned.plan.period
    → slice_get (held_rows planned rows) (place * (planned.plan.period + 1) + microcycle) ≡ Some row
row_held planned [] place row microcycle at early = absurd (none-some row at)
row_held planned (first ∷ rows) zero row microcycle at early =
    let copies = replicate (planned.plan.period + 1) first in
    let none : 0 * (planned.plan.period + 1) + microcycle ≡ microcycle = omega arith in
    ap (slice_get (held_rows planned (first ∷ rows))) none ∙ left_at first copies (held_rows planned rows) microcycle (copy_at first (planned.plan.period + 1) microcycle (omega (arith, early))) ∙ at
row_held planned (first ∷ rows) (suc place) row microcycle at early =
    let copies = replicate (planned.plan.period + 1) first in
    let long : length copies ≡ planned.plan.period + 1 = length-replicate (planned.plan.period + 1) first in
    let behind : suc place * (planned.plan.period + 1) + microcycle ≡ length copies + (place * (planned.plan.period + 1) + microcycle) = one_more place (planned.plan.period + 1) microcycle (length copies) long in
    ap (slice_get (held_rows planned (first ∷ rows))) behind ∙ right_at row copies (held_rows planned rows) (place * (planned.plan.period + 1) + microcycle) (row_held planned rows place row microcycle at early) where
      one_more : (k count rest whole : ℕ) → whole ≡ count → suc k * count + rest ≡ whole + (k * count + rest)
      one_more k count rest whole same = let product = suc-mul k count in omega (arith, product, same)

-- ---- bits that are shown

-- what each element shows, as the values of a function
pub listed_values : {X : Type 0} (shown : ℕ → Bool) (bit : X → Bool) (number : ℕ) (xs : List X)
    → ((place : ℕ) (x : X) → slice_get xs place ≡ Some x → shown (number + place) ≡ bit x)
    → listed (λ k x. shown k ∷ []) number xs ≡ map bit xs
listed_values shown bit number [] agree = refl
listed_values shown bit number (x ∷ xs) agree =
    let none : number ≡ number + 0 = omega arith in
    ap₂ (λ (first : Bool) (rest : List Bool). first ∷ rest) (ap shown none ∙ agree 0 x refl)
    (listed_values shown bit (suc number) xs (λ place y at. let one : suc number + place ≡ number + suc place = omega arith in ap shown one ∙ agree (suc place) y at))

-- what the latches show, as a state
pub listed_latches : (planned : PlannedBoard) (value : Values) (time number : ℕ) (cells : List Cell) (state : List Bool) → length state ≡ latch_count cells
    → ((place d : ℕ) (init : Init) → slice_get cells place ≡ Some (Latch d init) → shown_latch planned value time (number + place) (Latch d init) ≡ slice_index_or state (latch_count (take place cells)) false ∷ [])
    → listed (shown_latch planned value time) number cells ≡ state
listed_latches planned value time number [] [] long agree = refl
listed_latches planned value time number [] (bit ∷ state) long agree = absurd (omega (arith, long))
listed_latches planned value time number (Gate ins cover ∷ cells) state long agree =
    listed_latches planned value time (suc number) cells state long (λ place d init at.
    let one : suc number + place ≡ number + suc place = omega arith in
    ap (λ (k : ℕ). shown_latch planned value time k (Latch d init)) one ∙ agree (suc place) d init at)
listed_latches planned value time number (Latch e other ∷ cells) [] long agree = absurd (omega (arith, long))
listed_latches planned value time number (Latch e other ∷ cells) (bit ∷ state) long agree =
    let none : number ≡ number + 0 = omega arith in
    ap₂ (λ (first rest : List Bool). first ++ rest) (ap (λ (k : ℕ). shown_latch planned value time k (Latch e other)) none ∙ agree 0 e other refl)
    (listed_latches planned value time (suc number) cells state (omega (arith, long)) (λ place d init at.
    let one : suc number + place ≡ number + suc place = omega arith in
    ap (λ (k : ℕ). shown_latch planned value time k (Latch d init)) one ∙ agree (suc place) d init at))

-- ---- states

-- there is a bit for each latch, at first and after each clock
pub start_long : (unknown : Bool) (cells : List Cell) → length (start_values unknown cells) ≡ latch_count cells
start_long unknown [] = refl
start_long unknown (Gate ins cover ∷ cells) = start_long unknown cells
start_long unknown (Latch d init ∷ cells) = ap (λ (n : ℕ). suc n) (start_long unknown cells)

inputs_long : (cells : List Cell) → length (latch_inputs cells) ≡ latch_count cells
inputs_long [] = refl
inputs_long (Gate ins cover ∷ cells) = inputs_long cells
inputs_long (Latch d init ∷ cells) = ap (λ (n : ℕ). suc n) (inputs_long cells)

pub next_long : (flat : Flat) (row state : List Bool) → length (next_state flat row state) ≡ latch_count flat.cells
next_long flat row state = length-map (latch_inputs flat.cells) (net_value flat row state) ∙ inputs_long flat.cells

-- the bit of a latch at first
pub start_bit : (unknown : Bool) (cells : List Cell) (cell d : ℕ) (init : Init) → slice_get cells cell ≡ Some (Latch d init)
    → start_value unknown init ≡ slice_index_or (start_values unknown cells) (latch_count (take cell cells)) false
start_bit unknown [] cell d init at = absurd (none-some (Latch d init) at)
start_bit unknown (Gate ins cover ∷ cells) zero d init at = cc
start_bit unknown (Latch e other ∷ cells) zero d init at = inits (same_Some (Latch e other) (Latch d init) at) where
  init_of : Cell → Init
  init_of (Gate ins cover) = init
  init_of (Latch f one) = one

  inits : Latch e other ≡ Latch d init → start_value unknown init ≡ start_value unknown other
  inits same = ap (start_value unknown) (sym (ap init_of same))
start_bit unknown (Gate ins cover ∷ cells) (suc cell) d init at = start_bit unknown cells cell d init at
start_bit unknown (Latch e other ∷ cells) (suc cell) d init at = start_bit unknown cells cell d init at
