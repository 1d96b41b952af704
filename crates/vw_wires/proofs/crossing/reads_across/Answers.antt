use Rattle.std.proofs.Common.{◌≡◌, ◌<◌, ◌+◌, ◌++◌, ◌∙◌, ℕ, suc, List, length, drop, get_or, ap, sym, arith, add-one, append_assoc, drop-cons, ap₂, append-nil, ◌≤◌}
use Rattle.std.proofs.lemmas.List.{drop_all}
use Rattle.std.specs.List.{zip}
use Rattle.vw_net.specs.Cells.{read_nets}
use Rattle.vw_net.specs.declared.cell.Cell.{Cell}
use Rattle.vw_net.specs.declared.flat.Flat.{Flat}
use Rattle.vw_plan.specs.declared.need.Need.{Need}
use Rattle.vw_wires.specs.Steps.Crossings.{cell_crossings, crossing_nets}
use Rattle.vw_wires.proofs.crossing.reads_across.Goals as goal

-- what crosses to one cell is the first of what crosses to those that are left
module _ (flat : Flat) (chips : List ℕ) (cells : List Cell) (place : ℕ) (cell : Cell) where
  abbrev crossings_left : ℕ → List Need
  crossings_left from = cell_crossings flat chips (zip (drop from chips) (drop from cells))

  one_cell_more : (listed more all : List Need) → place < length chips → place < length cells → cell ≡ get_or cells place cell → more ≡ listed ++ crossing_nets flat chips (get_or chips place 0) (read_nets cell) → listed ++ crossings_left place ≡ all → more ++ crossings_left (place + 1) ≡ all
  one_cell_more listed more all chip within here is so_far =
      let first = crossing_nets flat chips (get_or chips place 0) (read_nets cell) in
      let left : crossings_left place ≡ first ++ crossings_left (place + 1) = rw (add-one, drop-cons chips place 0 chip, drop-cons cells place cell within) (ap (λ (one : Cell). crossing_nets flat chips (get_or chips place 0) (read_nets one) ++ cell_crossings flat chips (zip (drop (suc place) chips) (drop (suc place) cells))) (sym here)) in
      ap (λ (front : List Need). front ++ crossings_left (place + 1)) is
      ∙ append_assoc listed first (crossings_left (place + 1))
      ∙ ap (λ (rest : List Need). listed ++ rest) (sym left)
      ∙ so_far

pub loop-number-preserved : goal.loop-number-preserved
loop-number-preserved c =
    let within = rw c.cells-cell-items.ensures at c.loop-number-test.true in
    let here = rw c.cells-cell-items.ensures at c.cell-item.is in
    one_cell_more c.args.flat.now c.args.chip_of.now c.args.flat.now.cells c.loop-number.number c.cell-item.result c.loop-number.needs.items c.list_reads.new.needs.items _ (omega (arith, c.requires, within)) within here c.in_ok-list_reads.ensures c.loop-number.invariant

-- past the last cell, the outputs are left
pub returns : goal.returns
returns c =
    let flat = c.args.flat.now in
    let chips = c.args.chip_of.now in
    let place = c.loop-number.number in
    let listed = c.loop-number.needs.items in
    let past : length chips ≤ place = omega (arith, c.requires, ap (λ (cells : List Cell). length cells) c.cells-cell-items.ensures) in
    let done =
    sym (append-nil listed)
    ∙ ap (λ (rest : List ℕ). listed ++ cell_crossings flat chips (zip rest (drop place flat.cells))) (sym (drop_all place chips past))
    ∙ c.loop-number.invariant
    in
    c.in_ok-list_nets.ensures ∙ ap₂ (λ (front : List Need) (outputs : List ℕ). front ++ crossing_nets flat chips 0 outputs) done c.outputs.ensures
