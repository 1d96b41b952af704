-- The lines of a cell, and the draws that they take.
use Rattle.std.proofs.Common.{◌≡◌, ◌≢◌, ◌+◌, ◌-◌, ◌%◌, ◌++◌, ◌∷◌, [], ◌∙◌, ℕ, Bool, List, min, if◌then◌else◌, ap, sym, append-nil, eq-eqb, arith}
use Rattle.std.proofs.lemmas.Bool.{ne_eqb}
use Rattle.std.specs.Prelude.{codes}
use Rattle.std.specs.Fmt.{decimal}
use Rattle.vw_text.specs.Physical.{lines_text}
use Rattle.vw_gen.specs.Draws.{drawn_state}
use Rattle.vw_gen.specs.Nets.{net_name, cell_name}
use Rattle.vw_gen.specs.Design.{names_line, gate_rows, gate_lines, latch_line, draws_before, cell_lines}
use Rattle.vw_gen.proofs.StatesAfter.{drawn_state-add}

gate_moved : (start drawn cell : ℕ) → gate_lines (drawn_state start drawn) 0 cell ≡ gate_lines start drawn cell
gate_moved start drawn cell =
    let nets = min (8 + cell) 64 in
    let one = drawn_state-add start drawn 1 in
    let two = drawn_state-add start drawn 2 in
    let three = drawn_state-add start drawn 3 in
    λ i. names_line (7 + cell - one i % nets) (7 + cell - two i % nets) cell ∷ gate_rows (three i % 4)

latch_moved : (start drawn cells cell : ℕ) → latch_line (drawn_state start drawn) 0 cells cell ≡ latch_line start drawn cells cell
latch_moved start drawn cells cell =
    let one = drawn_state-add start drawn 1 in
    let two = drawn_state-add start drawn 2 in
    λ i. codes ".latch " ++ net_name (one i % (8 + cells)) ++ 32 ∷ cell_name cell ++ 32 ∷ decimal (two i % 2)

module _ (cells cell state : ℕ) (at : state ≡ drawn_state cells (draws_before cell)) where
  -- a latch
  pub latch_written : cell % 4 ≡ 3 → latch_line state 0 cells cell ++ 10 ∷ [] ≡ lines_text (cell_lines cells cell)
  latch_written is =
      let moved = ap (λ (s : ℕ). latch_line s 0 cells cell) at ∙ latch_moved cells (draws_before cell) cells cell in
      sym (append-nil (latch_line state 0 cells cell ++ 10 ∷ []))
      ∙ ap (λ (line : List ℕ). lines_text (line ∷ [])) moved
      ∙ ap (λ (test : Bool). lines_text (if test then latch_line cells (draws_before cell) cells cell ∷ [] else gate_lines cells (draws_before cell) cell)) (sym (eq-eqb (cell % 4) 3 is))

  -- a gate
  pub gate_written : cell % 4 ≢ 3 → lines_text (gate_lines state 0 cell) ≡ lines_text (cell_lines cells cell)
  gate_written is_not =
      let moved = ap (λ (s : ℕ). gate_lines s 0 cell) at ∙ gate_moved cells (draws_before cell) cell in
      ap (λ (lines : List (List ℕ)). lines_text lines) moved
      ∙ ap (λ (test : Bool). lines_text (if test then latch_line cells (draws_before cell) cells cell ∷ [] else gate_lines cells (draws_before cell) cell)) (sym (ne_eqb (cell % 4) 3 is_not))

  -- what a latch draws
  pub latch_drawn : cell % 4 ≡ 3 → drawn_state state 2 ≡ drawn_state cells (draws_before (cell + 1))
  latch_drawn is =
      let count : draws_before cell + 2 ≡ draws_before (cell + 1) = omega arith in
      ap (λ (s : ℕ). drawn_state s 2) at ∙ drawn_state-add cells (draws_before cell) 2 ∙ ap (drawn_state cells) count

  -- what a gate draws
  pub gate_drawn : cell % 4 ≢ 3 → drawn_state state 3 ≡ drawn_state cells (draws_before (cell + 1))
  gate_drawn is_not =
      let count : draws_before cell + 3 ≡ draws_before (cell + 1) = omega arith in
      ap (λ (s : ℕ). drawn_state s 3) at ∙ drawn_state-add cells (draws_before cell) 3 ∙ ap (drawn_state cells) count
