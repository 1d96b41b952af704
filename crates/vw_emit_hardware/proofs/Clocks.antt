-- One clock of a run of an emitted board: how it begins, and what the stages and the latches have in each microclock of it.
use Rattle.std.proofs.Common.{◌≡◌, ◌<◌, ◌≤◌, ◌+◌, ◌∙◌, ℕ, zero, suc, Bool, false, cond, List, length, take, slice_get, slice_index, slice_index_or, Some, eqb, ap, refl, sym, ⊎_elim, ne_eqb, eq-eqb, arith}
use Rattle.std.proofs.lemmas.Bool.{cases_eq}
use Rattle.std.proofs.lemmas.Option.{slice_get_within}
use Rattle.vw_net.specs.Cells.{latch_count}
use Rattle.vw_net.specs.declared.cell.Cell.{Cell}
use Rattle.vw_net.specs.declared.cell.Cell.TheVariants.{Latch}
use Rattle.vw_net.specs.declared.cell.Init.{Init}
use Rattle.vw_plan.specs.PlannedBoard.{PlannedBoard}
use Rattle.vw_plan.specs.Sound.{IsSound}
use Rattle.vw_emit_hardware.specs.Locals.{kept, moment}
use Rattle.vw_emit_hardware.specs.Names.{name_at}
use Rattle.vw_emit_hardware.specs.Run.{IsRun, Values}
use Rattle.vw_emit_hardware.proofs.Equations.{latch_bit, stage_moves, stage_wraps}

-- a microclock at which a clock begins: at each node the first stage of the sequencer alone is 1, and the latches have a
-- state
pub record IsAtStart (planned : PlannedBoard) (value : Values) (time : ℕ) (state : List Bool) : Type 0 where
  pub stages : (node microcycle : ℕ) → node ≤ planned.board.chips → microcycle ≤ planned.plan.period → value time node (moment microcycle) ≡ eqb 0 microcycle
  pub latches : (cell d : ℕ) (init : Init) → slice_get planned.ordered.flat.cells cell ≡ Some (Latch d init)
      → value time (slice_index planned.plan.chip_of cell) (kept cell) ≡ slice_index_or state (latch_count (take cell planned.ordered.flat.cells)) false

-- a clock of a run: it begins so, and its row is held for all of its microclocks
pub record IsClock (planned : PlannedBoard) (rows : List (List Bool)) (value : Values) (start : ℕ) (row state : List Bool) : Type 0 where
  pub begins : IsAtStart planned value start state
  pub holds : (microcycle : ℕ) → microcycle ≤ planned.plan.period → slice_get rows (start + microcycle) ≡ Some row

-- ---- numbers

eqb-suc : (one other : ℕ) → eqb (suc one) (suc other) ≡ eqb one other
eqb-suc one other =
    let if_same = λ (same : one ≡ other). let both : suc one ≡ suc other = ap (λ (n : ℕ). suc n) same in eq-eqb (suc one) (suc other) both ∙ sym (eq-eqb one other same) in
    let if_apart = λ (apart : ¬ (one ≡ other)). ne_eqb (suc one) (suc other) (λ same. apart (omega (arith, same))) ∙ sym (ne_eqb one other apart) in
    ⊎_elim if_same if_apart (cases_eq one other)

-- ---- nodes of cells

-- a cell of a sound plan is on a chip
pub cell_chip : (planned : PlannedBoard) → IsSound planned → (cell : ℕ) (is : Cell) → slice_get planned.ordered.flat.cells cell ≡ Some is
    → (1 ≤ slice_index planned.plan.chip_of cell) × (slice_index planned.plan.chip_of cell ≤ planned.board.chips)
cell_chip planned sound cell is at =
    let inside = slice_get_within planned.ordered.flat.cells cell is at in
    sound.one_chip_each.chips cell 0 (omega (arith, inside, sound.one_chip_each.each))

module _ (planned : PlannedBoard) (sound : IsSound planned) (unknown : Bool) (rows : List (List Bool)) (value : Values) (run : IsRun planned unknown rows value)
    (start : ℕ) (row state : List Bool) (clock : IsClock planned rows value start row state) where
  -- the run goes on through the clock
  pub within : (microcycle : ℕ) → microcycle ≤ planned.plan.period → start + microcycle < length rows
  within microcycle early = slice_get_within rows (start + microcycle) row (clock.holds microcycle early)

  -- in each microcycle its own stage alone is 1, at each node
  pub stage_is : (microcycle node other : ℕ) → microcycle ≤ planned.plan.period → node ≤ planned.board.chips → other ≤ planned.plan.period
      → value (start + microcycle) node (moment other) ≡ eqb microcycle other
  stage_is zero node other early among small = let none : start + 0 ≡ start = omega arith in ap (λ (time : ℕ). value time node (moment other)) none ∙ clock.begins.stages node other among small
  stage_is (suc before) node zero early among small =
      let next : start + suc before ≡ suc (start + before) = omega arith in
      let inside = within (suc before) early in
      ap (λ (time : ℕ). value time node (moment 0)) next ∙ stage_wraps planned unknown rows value run node among (start + before) (omega (arith, inside))
      ∙ stage_is before node planned.plan.period (omega (arith, early)) among (omega arith)
      ∙ ne_eqb before planned.plan.period (λ same. omega (arith, same, early)) ∙ sym (ne_eqb (suc before) 0 (λ same. omega (arith, same)))
  stage_is (suc before) node (suc other) early among small =
      let next : start + suc before ≡ suc (start + before) = omega arith in
      let inside = within (suc before) early in
      ap (λ (time : ℕ). value time node (moment (suc other))) next ∙ stage_moves planned unknown rows value run node among other (start + before) (omega (arith, small)) (omega (arith, inside))
      ∙ stage_is before node other (omega (arith, early)) among (omega (arith, small)) ∙ sym (eqb-suc before other)

  -- a latch has its bit of the state in all of them
  pub latch_is : (microcycle cell d : ℕ) (init : Init) → microcycle ≤ planned.plan.period → slice_get planned.ordered.flat.cells cell ≡ Some (Latch d init)
      → value (start + microcycle) (slice_index planned.plan.chip_of cell) (kept cell) ≡ slice_index_or state (latch_count (take cell planned.ordered.flat.cells)) false
  latch_is zero cell d init early at = let none : start + 0 ≡ start = omega arith in ap (λ (time : ℕ). value time (slice_index planned.plan.chip_of cell) (kept cell)) none ∙ clock.begins.latches cell d init at
  latch_is (suc before) cell d init early at =
      let node = slice_index planned.plan.chip_of cell in
      let among = (cell_chip planned sound cell (Latch d init) at).1 in
      let next : start + suc before ≡ suc (start + before) = omega arith in
      let inside = within (suc before) early in
      let not_last = stage_is before node planned.plan.period (omega (arith, early)) among (omega arith) ∙ ne_eqb before planned.plan.period (λ same. omega (arith, same, early)) in
      ap (λ (time : ℕ). value time node (kept cell)) next ∙ latch_bit planned unknown rows value run node among (start + before) cell d init (omega (arith, inside)) at refl
      ∙ ap (λ (test : Bool). cond test (value (start + before) node (name_at planned node d)) (value (start + before) node (kept cell))) not_last
      ∙ latch_is before cell d init (omega (arith, early)) at
