use Rattle.std.proofs.Common.{◌≡◌, ◌<◌, ◌+◌, ℕ, List, [], ◌∷◌, ◌++◌, length, take, drop, set, map, get_or, slice_index_or, ap, ap₂, sym, ◌∙◌, append_assoc, arith}
use Rattle.std.proofs.lemmas.List.{drop_more, take_more_set, length-set}
use Rattle.vw_net.specs.declared.cell.Cell.{Cell}
use Rattle.vw_net.specs.declared.cell.Cell.TheVariants.{Gate, Latch}
use Rattle.vw_net.specs.declared.cell.Init.{Init}
use Rattle.vw_net.specs.declared.cover.Cover.{Cover}
use Rattle.vw_net.specs.Cells.{latch_count, latch_inputs}
use Rattle.vw_net.proofs.Counts.{latch_count-le}
use Rattle.vw_fault.proofs.clock.move_latches.Goals as goal
use Rattle.vw_fault.proofs.clock.move_latches.Goals.{in-Latch, in_default}

-- there are at most as many latches as cells
pub overflow_add-latch : goal.overflow_add-latch
overflow_add-latch c = omega (arith, latch_count-le c.cells-cell-items.result.now, ap length c.cells-cell-items.ensures, c.args.flat.now.few_cells)

-- the bits of the latches before a place, and one cell more
module _ (value : ℕ → ℕ) (cells : List Cell) (i : ℕ) (cell : Cell) (state : List ℕ) (latch : ℕ) (within : i < length cells) (is : cell ≡ get_or cells i cell)
    (size : length state ≡ latch_count cells) (count : latch + latch_count (drop i cells) ≡ latch_count cells)
    (bits : take latch state ++ map value (latch_inputs (drop i cells)) ≡ map value (latch_inputs cells)) where
  cells_left : drop i cells ≡ cell ∷ drop (i + 1) cells
  cells_left = drop_more cells i cell within ∙ ap (λ (c : Cell). c ∷ drop (i + 1) cells) (sym is)

  abbrev Moved : List ℕ → ℕ → Type 0
  Moved new at = (length new ≡ latch_count cells) × (at + latch_count (drop (i + 1) cells) ≡ latch_count cells)
      × (take at new ++ map value (latch_inputs (drop (i + 1) cells)) ≡ map value (latch_inputs cells))

  with_latch : (d : ℕ) (init : Init) (new : List ℕ) (at : ℕ) → cell ≡ Latch d init → new ≡ set state latch (value d) → at ≡ latch + 1 → Moved new at
  with_latch d init new at is_latch written next =
      let cut = cells_left ∙ ap (λ (c : Cell). c ∷ drop (i + 1) cells) is_latch in
      let counts = ap latch_count cut in
      let inside : latch < length state = omega (size, count, counts, arith) in
      let rest = map value (latch_inputs (drop (i + 1) cells)) in (
        ap (λ (bs : List ℕ). length bs) written ∙ length-set state latch (value d) ∙ size,
        omega (next, count, counts, arith),
        ap₂ (λ (n : ℕ) (bs : List ℕ). take n bs ++ rest) next written ∙ ap (λ (bs : List ℕ). bs ++ rest) (take_more_set state latch (value d) inside)
            ∙ append_assoc (take latch state) (value d ∷ []) rest ∙ ap (λ (cs : List Cell). take latch state ++ map value (latch_inputs cs)) (sym cut) ∙ bits,
      )

  with_gate : (ins : List ℕ) (cover : Cover) (new : List ℕ) (at : ℕ) → cell ≡ Gate ins cover → new ≡ state → at ≡ latch → Moved new at
  with_gate ins cover new at gate same still =
      let cut = cells_left ∙ ap (λ (c : Cell). c ∷ drop (i + 1) cells) gate in
      let counts = ap latch_count cut in
      let rest = map value (latch_inputs (drop (i + 1) cells)) in (
        ap (λ (bs : List ℕ). length bs) same ∙ size,
        omega (still, count, counts, arith),
        ap₂ (λ (n : ℕ) (bs : List ℕ). take n bs ++ rest) still same ∙ ap (λ (cs : List Cell). take latch state ++ map value (latch_inputs cs)) (sym cut) ∙ bits,
      )

pub loop-cell-preserved : goal.loop-cell-preserved
loop-cell-preserved c =
    let value : ℕ → ℕ = λ net. slice_index_or c.args.words.now net 0 in
    let cells = c.cells-cell-items.result.now in
    let i = c.loop-cell.cell-index in
    let state = c.loop-cell.state in
    let latch = c.loop-cell.latch in
    let kept = c.loop-cell.invariant in
    elim c.match-cell.branch [
      | in-Latch w ↦
          with_latch value cells i c.cell-item.result state latch c.loop-cell-test.true c.cell-item.is kept.0 kept.1 kept.2 w.in-Latch.d w.in-Latch.init c.match-cell.state c.match-cell.latch
          w.in-Latch.is (w.state-is ∙ w.set.ensures ∙ ap (set state latch) w.get.ensures) w.latch-is
      | in_default w ↦
          with_gate value cells i c.cell-item.result state latch c.loop-cell-test.true c.cell-item.is kept.0 kept.1 kept.2 w.in_default.field-0 w.in_default.field-1 c.match-cell.state
          c.match-cell.latch w.in_default.is w.state-is w.latch-is
    ]
