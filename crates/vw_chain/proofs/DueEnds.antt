-- What is waited for longest, wire by wire and cell by cell.
use Rattle.std.proofs.Common.{◌≡◌, ◌<◌, ◌≤◌, ◌+◌, ℕ, List, [], length, get_or, slice_get, slice_index, Option, None, Some, ap, refl, sym, ◌∙◌, ⊎_elim, subst, arith}
use Rattle.std.proofs.lemmas.Bool.{cases_eq}
use Rattle.std.proofs.lemmas.List.{get_or-map, length-map, get_or_default}
use Rattle.std.proofs.lemmas.Option.{get_or_from_slice_get, slice_get-get_or, slice_get_within}
use Rattle.vw_net.specs.declared.cell.Cell.{Cell}
use Rattle.vw_net.specs.declared.cell.Cell.TheVariants.{Gate, Latch}
use Rattle.vw_plan.specs.declared.wire.Wire.{Wire}
use Rattle.vw_net.specs.declared.cell.Init.{Init}
use Rattle.vw_plan.specs.Lead.{after_last, usable}
use Rattle.vw_plan.specs.PlannedBoard.{PlannedBoard}
use Rattle.vw_ready.specs.LeadTables.{arrivals_of}
use Rattle.vw_chain.specs.declared.chain.End.TheVariants as end
use Rattle.vw_chain.specs.Steps.{EndsSo, IsCellDue, WiresAreDue}

abbrev no_wire : Wire
no_wire = record { net = 0; to = 0; hops = [] }

module _ (planned : PlannedBoard) (arrivals : List ℕ) (are : arrivals ≡ arrivals_of planned) where
  as_many : length arrivals ≡ length planned.plan.wires
  as_many = ap length are ∙ length-map planned.plan.wires (λ (wire : Wire). after_last planned.board.links wire.hops)

  -- the arrival at a place is that of the wire there
  arrival_at : (number : ℕ) → number < length arrivals
      → get_or arrivals number 0 ≡ after_last planned.board.links (get_or planned.plan.wires number no_wire).hops
  arrival_at number within =
      ap (λ (list : List ℕ). get_or list number 0) are
      ∙ get_or-map (λ (wire : Wire). after_last planned.board.links wire.hops) planned.plan.wires number no_wire 0 (omega (arith, as_many))

  -- a wire is waited for up to its arrival
  pub wire_waited : (number arrival : ℕ) → slice_get arrivals number ≡ Some arrival → EndsSo planned arrival (Some (end.Wire number))
  wire_waited number arrival here =
      let within = slice_get_within arrivals number arrival here in
      let is : get_or arrivals number 0 ≡ arrival = get_or_from_slice_get arrivals number arrival 0 here in
      let wire = get_or planned.plan.wires number no_wire in
      (wire.net, wire.to, (wire, slice_get-get_or planned.plan.wires number no_wire (omega (arith, as_many)), refl, refl, sym (arrival_at number within) ∙ is))

  -- where no arrival is later, all wires are due
  pub all_due : (last : ℕ) → ((place : ℕ) → place < length arrivals → get_or arrivals place 0 ≤ last) → WiresAreDue planned last
  all_due last past place default within =
      let inside : place < length arrivals = omega (arith, as_many) in
      let same : get_or planned.plan.wires place default ≡ get_or planned.plan.wires place no_wire = get_or_default planned.plan.wires place default no_wire within in
      subst (λ (wire : Wire). after_last planned.board.links wire.hops ≤ last) (sym same) (subst (λ (time : ℕ). time ≤ last) (arrival_at place inside) (past place inside))

-- a later microcycle is enough, too
pub later_cell : (planned : PlannedBoard) (last later number : ℕ) (cell : Cell) → last ≤ later → IsCellDue planned last number cell → IsCellDue planned later number cell
later_cell planned last later number (Gate ins cover) less due = tt
later_cell planned last later number (Latch d init) less due = omega (arith, less, due)

pub later_wires : (planned : PlannedBoard) (last later : ℕ) → last ≤ later → WiresAreDue planned last → WiresAreDue planned later
later_wires planned last later less due place default within = omega (arith, due place default within)

-- the same of what stands at a number
abbrev IsPlaceDue : PlannedBoard → ℕ → ℕ → Option Cell → Type 0
IsPlaceDue planned last number None = Unit {0}
IsPlaceDue planned last number (Some cell) = IsCellDue planned last number cell

-- the cells so far, and the next one
pub next_cell : (planned : PlannedBoard) (last later number : ℕ) (cell : Cell) → last ≤ later → slice_get planned.ordered.flat.cells number ≡ Some cell
    → IsCellDue planned later number cell
    → ((other : ℕ) (its : Cell) → other < number → slice_get planned.ordered.flat.cells other ≡ Some its → IsCellDue planned last other its)
    → (other : ℕ) (its : Cell) → other < number + 1 → slice_get planned.ordered.flat.cells other ≡ Some its → IsCellDue planned later other its
next_cell planned last later number cell less here due before other its below there =
    let cells = planned.ordered.flat.cells in
    let if_here = λ (same : other ≡ number).
    subst (λ (place : ℕ). IsCellDue planned later place its) (sym same)
    (subst (IsPlaceDue planned later number) (sym here ∙ ap (slice_get cells) (sym same) ∙ there) due) in
    let if_before = λ (not : ¬ (other ≡ number)). later_cell planned last later other its less (before other its (omega (arith, not)) there) in
    ⊎_elim if_here if_before (cases_eq other number)

-- so all latches are due in the end
pub latches_due : (planned : PlannedBoard) (last count : ℕ) → length planned.ordered.flat.cells ≤ count
    → ((other : ℕ) (its : Cell) → other < count → slice_get planned.ordered.flat.cells other ≡ Some its → IsCellDue planned last other its)
    → (number d : ℕ) (init : Init) → slice_get planned.ordered.flat.cells number ≡ Some (Latch d init)
    → usable planned (slice_index planned.plan.chip_of number) d ≤ last
latches_due planned last count whole due number d init there = due number (Latch d init) (omega (arith, whole, slice_get_within planned.ordered.flat.cells number (Latch d init) there)) there
