-- All rows: at the last microclock of each clock an emitted board shows its design.
use Rattle.std.proofs.Common.{◌≡◌, ◌<◌, ◌≤◌, ◌+◌, ◌*◌, ◌∙◌, ℕ, zero, suc, Bool, false, List, [], ◌∷◌, length, map, take, slice_get, slice_index, slice_index_or, Some, ap, ap₂, refl, sym, subst, ne_eqb, eqb, add-one, suc-mul, arith}
use Rattle.std.specs.List.{range_with_len}
use Rattle.std.proofs.lemmas.Option.{none-some, same_Some, slice_get_within}
use Rattle.vw_net.specs.Cells.{latch_count, start_values}
use Rattle.vw_net.specs.History.{next_state, outputs_at, outputs_of, states_of}
use Rattle.vw_net.specs.Value.{net_value}
use Rattle.vw_net.specs.declared.cell.Cell.TheVariants.{Latch}
use Rattle.vw_net.specs.declared.cell.Init.{Init}
use Rattle.vw_plan.specs.PlannedBoard.{PlannedBoard}
use Rattle.vw_plan.specs.Sound.{IsSound}
use Rattle.vw_emit_hardware.specs.Locals.{kept, moment, result}
use Rattle.vw_emit_hardware.specs.Run.{IsRun, Values}
use Rattle.vw_emit_hardware.specs.Shown.{IsClockOf, at_each_clock, held_rows, last_microclock, shown_latches, shown_outputs}
use Rattle.vw_emit_hardware.proofs.Clocks.{IsAtStart, IsClock, cell_chip, latch_is}
use Rattle.vw_emit_hardware.proofs.Equations.{first_stage, latch_start, other_stage}
use Rattle.vw_emit_hardware.proofs.HeldRows.{listed_latches, listed_values, next_long, row_held, start_bit, start_long}
use Rattle.vw_emit_hardware.proofs.LastMicroclocks.{next_start, output_shown}

module _ (planned : PlannedBoard) (sound : IsSound planned) (unknown : Bool) (rows : List (List Bool)) (value : Values) (run : IsRun planned unknown (held_rows planned rows) value) where
  abbrev board_rows : List (List Bool)
  board_rows = held_rows planned rows

  -- the first microclock of a clock
  abbrev first_microclock : ℕ → ℕ
  first_microclock clock = clock * (planned.plan.period + 1)

  -- ---- one clock

  module _ (number : ℕ) (row state : List Bool) (clock : IsClock planned board_rows value (first_microclock number) row state) where
    outputs_shown : shown_outputs planned value (last_microclock planned number) ≡ outputs_at planned.ordered.flat row state
    outputs_shown =
        listed_values (λ output. value (last_microclock planned number) 0 (result output)) (net_value planned.ordered.flat row state) 0 planned.ordered.flat.outputs (λ output net at.
        let none : 0 + output ≡ output = omega arith in
        ap (λ (k : ℕ). value (last_microclock planned number) 0 (result k)) none ∙ output_shown planned sound unknown board_rows value run (first_microclock number) row state clock output net at)

    latches_shown : length state ≡ latch_count planned.ordered.flat.cells → shown_latches planned value (last_microclock planned number) ≡ state
    latches_shown long =
        listed_latches planned value (last_microclock planned number) 0 planned.ordered.flat.cells state long (λ cell d init at.
        let none : 0 + cell ≡ cell = omega arith in
        ap (λ (k : ℕ). value (last_microclock planned number) (slice_index planned.plan.chip_of k) (kept k) ∷ []) none
        ∙ ap (λ (one : Bool). one ∷ []) (latch_is planned sound unknown board_rows value run (first_microclock number) row state clock planned.plan.period cell d init (omega arith) at))

  -- ---- clock after clock

  -- the rows from one on are left, and the next clock begins in a state, if there is one
  record IsLeft (number : ℕ) (state : List Bool) (left : List (List Bool)) : Type 0 where
    rows_left : (place : ℕ) (row : List Bool) → slice_get left place ≡ Some row → slice_get rows (number + place) ≡ Some row
    begins : first_microclock number < length board_rows → IsAtStart planned value (first_microclock number) state
    long : length state ≡ latch_count planned.ordered.flat.cells

  -- the clock of the first of these rows
  first_clock : (number : ℕ) (state row : List Bool) (left : List (List Bool)) → IsLeft number state (row ∷ left)
      → IsClock planned board_rows value (first_microclock number) row state
  first_clock number state row left is = record { begins = begins; holds = holds } where
    holds : (microcycle : ℕ) → microcycle ≤ planned.plan.period → slice_get board_rows (first_microclock number + microcycle) ≡ Some row
    holds microcycle early = let none : number ≡ number + 0 = omega arith in row_held planned rows number row microcycle (ap (slice_get rows) none ∙ is.rows_left 0 row refl) early

    begins : IsAtStart planned value (first_microclock number) state
    begins =
        let inside = slice_get_within board_rows (first_microclock number + 0) row (holds 0 (omega arith)) in
        is.begins (omega (arith, inside))

  -- and what is left behind it
  next_left : (number : ℕ) (state row : List Bool) (left : List (List Bool)) → IsLeft number state (row ∷ left)
      → IsLeft (suc number) (next_state planned.ordered.flat row state) left
  next_left number state row left is = record { rows_left = rows_left; begins = begins; long = next_long planned.ordered.flat row state } where
    rows_left : (place : ℕ) (one : List Bool) → slice_get left place ≡ Some one → slice_get rows (suc number + place) ≡ Some one
    rows_left place one at = let next : suc number + place ≡ number + suc place = omega arith in ap (slice_get rows) next ∙ is.rows_left (suc place) one at

    begins : first_microclock (suc number) < length board_rows
        → IsAtStart planned value (first_microclock (suc number)) (next_state planned.ordered.flat row state)
    begins inside =
        let product = suc-mul number (planned.plan.period + 1) in
        let next : first_microclock (suc number) ≡ suc (last_microclock planned number) = omega (arith, product) in
        subst (λ (time : ℕ). IsAtStart planned value time (next_state planned.ordered.flat row state)) (sym next)
        (next_start planned sound unknown board_rows value run (first_microclock number) row state (first_clock number state row left is) (subst (λ (time : ℕ). time < length board_rows) next inside))

  -- so each clock of the history is a clock of the run
  clock_at : (number : ℕ) (state : List Bool) (left : List (List Bool)) → IsLeft number state left → (place : ℕ) (row own : List Bool)
      → slice_get left place ≡ Some row → slice_get (states_of planned.ordered.flat state left) place ≡ Some own
      → IsClock planned board_rows value (first_microclock (number + place)) row own
  clock_at number state [] is place row own at stands = absurd (none-some row at)
  clock_at number state (first ∷ left) is zero row own at stands =
      let none : number ≡ number + 0 = omega arith in
      let here = first_clock number state first left is in
      subst (λ (k : ℕ). IsClock planned board_rows value (first_microclock k) row own) none
      (subst (λ (one : List Bool). IsClock planned board_rows value (first_microclock number) row one) (same_Some state own stands)
      (subst (λ (one : List Bool). IsClock planned board_rows value (first_microclock number) one state) (same_Some first row at) here))
  clock_at number state (first ∷ left) is (suc place) row own at stands =
      let next : suc number + place ≡ number + suc place = omega arith in
      subst (λ (k : ℕ). IsClock planned board_rows value (first_microclock k) row own) next
      (clock_at (suc number) (next_state planned.ordered.flat first state) left (next_left number state first left is) place row own at stands)

  all_outputs : (number : ℕ) (state : List Bool) (left : List (List Bool)) → IsLeft number state left
      → map (λ clock. shown_outputs planned value (last_microclock planned clock)) (range_with_len number (length left)) ≡ outputs_of planned.ordered.flat state left
  all_outputs number state [] is = refl
  all_outputs number state (row ∷ left) is =
      ap₂ (λ (first : List Bool) (rest : List (List Bool)). first ∷ rest) (outputs_shown number row state (first_clock number state row left is))
      (ap (λ (from : ℕ). map (λ clock. shown_outputs planned value (last_microclock planned clock)) (range_with_len from (length left))) (add-one number)
      ∙ all_outputs (suc number) (next_state planned.ordered.flat row state) left (next_left number state row left is))

  all_latches : (number : ℕ) (state : List Bool) (left : List (List Bool)) → IsLeft number state left
      → map (λ clock. shown_latches planned value (last_microclock planned clock)) (range_with_len number (length left)) ≡ states_of planned.ordered.flat state left
  all_latches number state [] is = refl
  all_latches number state (row ∷ left) is =
      ap₂ (λ (first : List Bool) (rest : List (List Bool)). first ∷ rest) (latches_shown number row state (first_clock number state row left is) is.long)
      (ap (λ (from : ℕ). map (λ clock. shown_latches planned value (last_microclock planned clock)) (range_with_len from (length left))) (add-one number)
      ∙ all_latches (suc number) (next_state planned.ordered.flat row state) left (next_left number state row left is))

  -- ---- from the start

  starts : 0 < length board_rows → IsAtStart planned value 0 (start_values unknown planned.ordered.flat.cells)
  starts some = record { stages = stages; latches = latches } where
    stages : (node microcycle : ℕ) → node ≤ planned.board.chips → microcycle ≤ planned.plan.period → value 0 node (moment microcycle) ≡ eqb 0 microcycle
    stages node zero among small = first_stage planned unknown board_rows value run node among some
    stages node (suc before) among small = other_stage planned unknown board_rows value run node among before (omega (arith, small)) some ∙ sym (ne_eqb 0 (suc before) (λ same. omega (arith, same)))

    latches : (cell d : ℕ) (init : Init) → slice_get planned.ordered.flat.cells cell ≡ Some (Latch d init)
        → value 0 (slice_index planned.plan.chip_of cell) (kept cell) ≡ slice_index_or (start_values unknown planned.ordered.flat.cells) (latch_count (take cell planned.ordered.flat.cells)) false
    latches cell d init at =
        latch_start planned unknown board_rows value run (slice_index planned.plan.chip_of cell) (cell_chip planned sound cell (Latch d init) at).1 cell d init some at refl
        ∙ start_bit unknown planned.ordered.flat.cells cell d init at

  all_left : IsLeft 0 (start_values unknown planned.ordered.flat.cells) rows
  all_left = record { rows_left = rows_left; begins = begins; long = start_long unknown planned.ordered.flat.cells } where
    rows_left : (place : ℕ) (row : List Bool) → slice_get rows place ≡ Some row → slice_get rows (0 + place) ≡ Some row
    rows_left place row at = let none : 0 + place ≡ place = omega arith in ap (slice_get rows) none ∙ at

    begins : first_microclock 0 < length board_rows → IsAtStart planned value (first_microclock 0) (start_values unknown planned.ordered.flat.cells)
    begins inside =
        let none : first_microclock 0 ≡ 0 = omega arith in
        subst (λ (time : ℕ). IsAtStart planned value time (start_values unknown planned.ordered.flat.cells)) (sym none) (starts (omega (arith, inside)))

  pub shows_outputs : at_each_clock planned (shown_outputs planned value) (length rows) ≡ outputs_of planned.ordered.flat (start_values unknown planned.ordered.flat.cells) rows
  shows_outputs = all_outputs 0 (start_values unknown planned.ordered.flat.cells) rows all_left

  pub shows_latches : at_each_clock planned (shown_latches planned value) (length rows) ≡ states_of planned.ordered.flat (start_values unknown planned.ordered.flat.cells) rows
  shows_latches = all_latches 0 (start_values unknown planned.ordered.flat.cells) rows all_left

  pub clock_of : (clock : ℕ) (row state : List Bool) → IsClockOf planned unknown rows clock row state
      → IsClock planned board_rows value (clock * (planned.plan.period + 1)) row state
  clock_of clock row state is =
      let none : 0 + clock ≡ clock = omega arith in
      subst (λ (k : ℕ). IsClock planned board_rows value (first_microclock k) row state) none
      (clock_at 0 (start_values unknown planned.ordered.flat.cells) rows all_left clock row state is.row_is is.state_is)
