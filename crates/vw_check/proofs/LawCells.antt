-- The faults of chips and the period, and the points of a sound plan that they break.
use Rattle.std.proofs.Common.{◌≡◌, ◌==◌, ◌<◌, ◌≤◌, ◌+◌, ◌&&◌, not, ℕ, zero, suc, Bool, true, false, List, [], ◌∷◌, length, count_by, Some, None, nat_le, refl, sym, subst, ◌∙◌, ap, ap₂, All, ⊎_elim, true≢false, arith}
use Rattle.std.specs.List.{range_with_len}
use Rattle.std.proofs.lemmas.Bool.{and_parts, cases_lt, eqb-true, eq-eqb, leb-true, le-leb, ne_eqb}
use Rattle.std.proofs.lemmas.Option.{none-some}
use Rattle.std.proofs.lemmas.List.Elements.{All-head, All-tail}
use Rattle.vw_net.specs.declared.flat.Flat.{Flat}
use Rattle.vw_plan.specs.declared.board.Board.{Board}
use Rattle.vw_plan.specs.declared.plan.Plan.{Plan}
use Rattle.vw_plan.specs.PlannedBoard.{PlannedBoard}
use Rattle.vw_plan.specs.Sound.{IsPlaced}
use Rattle.vw_check.specs.declared.fault.PlanFault.{PlanFault}
use Rattle.vw_check.specs.declared.fault.PlanFault.TheVariants.{WrongCells, ZeroPeriod, BadChip, Overfull}
use Rattle.vw_net.specs.FirstFound.{found_unless}
use Rattle.vw_check.specs.CellFaults.{wrong_cells, zero_period, is_chip, bad_chip, overfull}
use Rattle.vw_plan.specs.Chips.{IsChip, cells_on}
use Rattle.vw_check.specs.Answers.{Breaks, HasPlace}
use Rattle.vw_net.proofs.FirstFound.{EachAt, each_none, none_each, each_to, each_all, all_each, unless_none, none_unless, if_none, none_if, first_is, unless_is, if_is}

-- ---- chips

positive : (n : ℕ) → (n ≡ 0 → ⊥) → 1 ≤ n
positive zero some = absurd (some refl)
positive (suc n) some = omega arith

chip_passes : (board : Board) (chip : ℕ) → is_chip board chip ≡ true → IsChip board chip
chip_passes board chip is =
    let parts = and_parts (not (chip == 0)) (nat_le chip board.chips) is in
    let some : (chip ≡ 0 → ⊥) = λ zero_is. true≢false (sym parts.0 ∙ ap not (eq-eqb chip 0 zero_is)) in
    (positive chip some, leb-true chip board.chips parts.1)

passes_chip : (board : Board) (chip : ℕ) → IsChip board chip → is_chip board chip ≡ true
passes_chip board chip is =
    ap₂ (λ (one other : Bool). not one && other) (ne_eqb chip 0 (λ zero_is. let wrong : 1 ≤ 0 = subst (λ (n : ℕ). 1 ≤ n) zero_is is.0 in omega (arith, wrong))) (le-leb chip board.chips is.1)

-- ---- how many cells are on a chip

count_step : (P : ℕ → Type 0) (other chip : ℕ) (chips : List ℕ) → P other → (P chip → ⊥) → count_by (λ one. one == chip) chips ≡ 0
    → (same : Bool) → (other == chip) ≡ same
    → count_by (λ one. one == chip) (other ∷ chips) ≡ 0
count_step P other chip chips here none rest true same = absurd (none (subst P (eqb-true other chip same) here))
count_step P other chip chips here none rest false same = rw same rest

no_cells : (P : ℕ → Type 0) (chips : List ℕ) (chip : ℕ) → All P chips → (P chip → ⊥) → count_by (λ other. other == chip) chips ≡ 0
no_cells P [] chip all none = refl
no_cells P (other ∷ chips) chip all none = count_step P other chip chips (All-head P other chips all) none (no_cells P chips chip (All-tail P other chips all) none) (other == chip) refl

-- ---- each of the chips, by their numbers

range_step : (from count : ℕ) → range_with_len from (suc count) ≡ from ∷ range_with_len (suc from) count
range_step from count = let one : from + 1 ≡ suc from = omega arith in ap (λ (n : ℕ). from ∷ range_with_len n count) one

each_from : (P : ℕ → Type 0) (number from count : ℕ) → EachAt (λ k chip. P chip) number (range_with_len from count) → (chip : ℕ)
    → from ≤ chip → chip < from + count → P chip
each_from P number from zero each chip above below = absurd (omega arith)
each_from P number from (suc count) each chip above below =
    let split = subst (EachAt (λ k one. P one) number) (range_step from count) each in
    ⊎_elim
    (λ (more : from < chip). each_from P (suc number) (suc from) count split.1 chip (omega arith) (omega arith))
    (λ (same : chip ≤ from). let here : from ≡ chip = omega arith in subst P here split.0)
    (cases_lt from chip)

from_each : (P : ℕ → Type 0) (number from count : ℕ) → ((chip : ℕ) → P chip) → EachAt (λ k chip. P chip) number (range_with_len from count)
from_each P number from zero all = tt
from_each P number from (suc count) all = subst (EachAt (λ k one. P one) number) (sym (range_step from count)) (all from, from_each P (suc number) (suc from) count all)

-- ---- chips without faults

module _ (flat : Flat) (board : Board) (chip_of : List ℕ) where
  are_chips : bad_chip board chip_of ≡ None → All (IsChip board) chip_of
  are_chips none =
      each_all (IsChip board) 0 chip_of
      (each_to (λ k chip. found_unless (is_chip board chip) (BadChip k) ≡ None) (λ k chip. IsChip board chip) (λ k chip is. chip_passes board chip (unless_none (is_chip board chip) (BadChip k) is)) 0 chip_of
      (each_none (λ k chip. found_unless (is_chip board chip) (BadChip k)) 0 chip_of none))

  have_room : bad_chip board chip_of ≡ None → overfull board chip_of ≡ None → (chip : ℕ) → cells_on chip_of chip ≤ board.cells
  have_room chips none chip = by (is_chip board chip) refl where
    by : (is : Bool) → is_chip board chip ≡ is → cells_on chip_of chip ≤ board.cells
    by true is =
        let its = chip_passes board chip is in
        let full : ℕ → PlanFault = λ one. Overfull one (cells_on chip_of one) in
        leb-true (cells_on chip_of chip) board.cells
        (each_from (λ one. nat_le (cells_on chip_of one) board.cells ≡ true) 0 1 board.chips
        (each_to (λ k one. found_unless (nat_le (cells_on chip_of one) board.cells) (full one) ≡ None) (λ k one. nat_le (cells_on chip_of one) board.cells ≡ true) (λ k one got. unless_none (nat_le (cells_on chip_of one) board.cells) (full one) got) 0 (range_with_len 1 board.chips)
        (each_none (λ k one. found_unless (nat_le (cells_on chip_of one) board.cells) (full one)) 0 (range_with_len 1 board.chips) none))
        chip its.0 (omega (arith, its.1)))
    by false is =
        let empty : cells_on chip_of chip ≡ 0 = no_cells (IsChip board) chip_of chip (are_chips chips) (λ its. true≢false (sym (passes_chip board chip its) ∙ is)) in
        omega (arith, empty)

  pub has_place : wrong_cells flat chip_of ≡ None → bad_chip board chip_of ≡ None → overfull board chip_of ≡ None → HasPlace flat board chip_of
  has_place cells chips room = record {
    each = eqb-true (length chip_of) (length flat.cells) (unless_none (length chip_of == length flat.cells) (WrongCells (length chip_of) (length flat.cells)) cells);
    chips = are_chips chips;
    room = have_room chips room;
  }

  -- ---- and back

  module _ (is : HasPlace flat board chip_of) where
    pub right_cells : wrong_cells flat chip_of ≡ None
    right_cells = none_unless (length chip_of == length flat.cells) (WrongCells (length chip_of) (length flat.cells)) (eq-eqb (length chip_of) (length flat.cells) is.each)

    pub right_chips : bad_chip board chip_of ≡ None
    right_chips =
        none_each (λ k chip. found_unless (is_chip board chip) (BadChip k)) 0 chip_of
        (each_to (λ k chip. IsChip board chip) (λ k chip. found_unless (is_chip board chip) (BadChip k) ≡ None) (λ k chip its. none_unless (is_chip board chip) (BadChip k) (passes_chip board chip its)) 0 chip_of
        (all_each (IsChip board) 0 chip_of is.chips))

    pub right_room : overfull board chip_of ≡ None
    right_room =
        none_each (λ k one. found_unless (nat_le (cells_on chip_of one) board.cells) (Overfull one (cells_on chip_of one))) 0 (range_with_len 1 board.chips)
        (each_to (λ k one. cells_on chip_of one ≤ board.cells) (λ k one. found_unless (nat_le (cells_on chip_of one) board.cells) (Overfull one (cells_on chip_of one)) ≡ None)
        (λ k one room. none_unless (nat_le (cells_on chip_of one) board.cells) (Overfull one (cells_on chip_of one)) (le-leb (cells_on chip_of one) board.cells room)) 0 (range_with_len 1 board.chips)
        (from_each (λ one. cells_on chip_of one ≤ board.cells) 0 1 board.chips is.room))

-- ---- plans without faults

module _ (planned : PlannedBoard) where
  abbrev flat : Flat
  flat = planned.ordered.flat

  abbrev board : Board
  board = planned.board

  abbrev plan : Plan
  plan = planned.plan

  pub placed : wrong_cells flat plan.chip_of ≡ None → bad_chip board plan.chip_of ≡ None → overfull board plan.chip_of ≡ None → IsPlaced planned
  placed cells chips room = let place = has_place flat board plan.chip_of cells chips room in record { each = place.each; chips = place.chips; room = place.room }

  pub a_period : zero_period plan ≡ None → 1 ≤ plan.period
  a_period none = ne_zero plan.period (if_none (plan.period == 0) ZeroPeriod none) where
    ne_zero : (n : ℕ) → (n == 0) ≡ false → 1 ≤ n
    ne_zero zero is = absurd (true≢false is)
    ne_zero (suc n) is = omega arith

  -- ---- and back

  pub its_place : IsPlaced planned → HasPlace flat board plan.chip_of
  its_place is = record { each = is.each; chips = is.chips; room = is.room }

  pub no_wrong_cells : IsPlaced planned → wrong_cells flat plan.chip_of ≡ None
  no_wrong_cells is = right_cells flat board plan.chip_of (its_place is)

  pub no_zero_period : 1 ≤ plan.period → zero_period plan ≡ None
  no_zero_period some = none_if (plan.period == 0) ZeroPeriod (ne_eqb plan.period 0 (λ is. let wrong : 1 ≤ 0 = subst (λ (n : ℕ). 1 ≤ n) is some in omega (arith, wrong)))

  pub no_bad_chip : IsPlaced planned → bad_chip board plan.chip_of ≡ None
  no_bad_chip is = right_chips flat board plan.chip_of (its_place is)

  pub no_overfull : IsPlaced planned → overfull board plan.chip_of ≡ None
  no_overfull is = right_room flat board plan.chip_of (its_place is)

  -- ---- what the faults break

  pub wrong_cells_break : (fault : PlanFault) → wrong_cells flat plan.chip_of ≡ Some fault → Breaks planned fault
  wrong_cells_break fault is =
      subst (Breaks planned) (unless_is (length plan.chip_of == length flat.cells) (WrongCells (length plan.chip_of) (length flat.cells)) fault is)
      (λ its. none-some fault (sym (no_wrong_cells its) ∙ is))

  pub zero_period_breaks : (fault : PlanFault) → zero_period plan ≡ Some fault → Breaks planned fault
  zero_period_breaks fault is = subst (Breaks planned) (if_is (plan.period == 0) ZeroPeriod fault is) (λ some. none-some fault (sym (no_zero_period some) ∙ is))

  pub bad_chip_breaks : (fault : PlanFault) → bad_chip board plan.chip_of ≡ Some fault → Breaks planned fault
  bad_chip_breaks fault is =
      first_is (λ k chip. found_unless (is_chip board chip) (BadChip k)) (λ found. Breaks planned found)
      (λ k chip found its. subst (Breaks planned) (unless_is (is_chip board chip) (BadChip k) found its) (λ sound. none-some fault (sym (no_bad_chip sound) ∙ is))) 0 plan.chip_of fault is

  pub overfull_breaks : (fault : PlanFault) → overfull board plan.chip_of ≡ Some fault → Breaks planned fault
  overfull_breaks fault is =
      first_is (λ k one. found_unless (nat_le (cells_on plan.chip_of one) board.cells) (Overfull one (cells_on plan.chip_of one))) (λ found. Breaks planned found)
      (λ k one found its. subst (Breaks planned) (unless_is (nat_le (cells_on plan.chip_of one) board.cells) (Overfull one (cells_on plan.chip_of one)) found its) (λ sound. none-some fault (sym (no_overfull sound) ∙ is))) 0 (range_with_len 1 board.chips) fault is
