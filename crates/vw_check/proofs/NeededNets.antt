-- What a plan without some faults has.
use Rattle.std.proofs.Common.{◌≡◌, ◌<◌, ◌≤◌, ◌+◌, ◌&&◌, ℕ, zero, suc, Bool, true, false, not, List, [], ◌∷◌, length, take, get_or, eqb, Option, None, refl, subst, true≢false, eqb-true, All, arith}
use Rattle.std.specs.Prelude.{nat_le}
use Rattle.std.specs.Option.{option_or}
use Rattle.std.proofs.lemmas.Bool.{and_parts, not-true}
use Rattle.vw_net.proofs.FirstOptions.{or_none}
use Rattle.vw_net.specs.declared.flat.Flat.{Flat}
use Rattle.vw_plan.specs.declared.board.Board.{Board}
use Rattle.vw_plan.specs.declared.plan.Plan.{Plan}
use Rattle.vw_plan.specs.declared.wire.Wire.{Wire}
use Rattle.vw_plan.specs.Nets.{is_needed}
use Rattle.vw_plan.proofs.NeededNets.{needed_net}
use Rattle.vw_check.specs.declared.fault.PlanFault.{PlanFault}
use Rattle.vw_check.specs.declared.fault.PlanFault.TheVariants.{BadChip, ExtraWire, WrongCells}
use Rattle.vw_net.specs.FirstFound.{first_at, found_unless}
use Rattle.vw_check.specs.CellFaults.{bad_chip, is_chip, overfull, wrong_cells, zero_period}
use Rattle.vw_check.specs.WireFaults.{extra_wire, is_brought, missing_wire}
use Rattle.vw_check.specs.Faults.{cell_fault, wire_fault}

-- ---- searches that find nothing

none_at : {X Y : Type 0} (found : ℕ → X → Option Y) (from : ℕ) (xs : List X) → first_at found from xs ≡ None → (place : ℕ) (default : X)
    → place < length xs → found (from + place) (get_or xs place default) ≡ None
none_at found from [] none place default within = absurd (omega arith)
none_at found from (x ∷ xs) none zero default within =
    let here : from ≡ from + 0 = omega arith in
    subst (λ (number : ℕ). found number x ≡ None) here (or_none (found from x) (first_at found (suc from) xs) none).0
none_at found from (x ∷ xs) none (suc place) default within =
    let later : suc from + place ≡ from + suc place = omega arith in
    subst (λ (number : ℕ). found number (get_or xs place default) ≡ None) later (none_at found (suc from) xs (or_none (found from x) (first_at found (suc from) xs) none).1 place default (omega arith))

passed : (test : Bool) (fault : PlanFault) → found_unless test fault ≡ None → test ≡ true
passed true fault none = refl
passed false fault none = cc

-- ---- what a plan has

-- without a fault of the cells, each cell has a chip
pub chips_fine : (flat : Flat) (board : Board) (plan : Plan) → cell_fault flat board plan ≡ None
    → (length plan.chip_of ≡ length flat.cells) × All (λ chip. 1 ≤ chip) plan.chip_of
chips_fine flat board plan none =
    let counted = or_none (wrong_cells flat plan.chip_of) (option_or (zero_period plan) (option_or (bad_chip board plan.chip_of) (option_or (overfull board plan.chip_of) None))) none in
    let timed = or_none (zero_period plan) (option_or (bad_chip board plan.chip_of) (option_or (overfull board plan.chip_of) None)) counted.1 in
    let placed = or_none (bad_chip board plan.chip_of) (option_or (overfull board plan.chip_of) None) timed.1 in
    let same = passed (eqb (length plan.chip_of) (length flat.cells)) (WrongCells (length plan.chip_of) (length flat.cells)) counted.0 in (
      eqb-true (length plan.chip_of) (length flat.cells) same,
      λ place default within.
          let chip = get_or plan.chip_of place default in
          let is = passed (is_chip board chip) (BadChip (0 + place)) (none_at (λ cell one. found_unless (is_chip board one) (BadChip cell)) 0 plan.chip_of placed.0 place default within) in
          let some : eqb chip 0 ≡ false = not-true (eqb chip 0) (and_parts (not (eqb chip 0)) (nat_le chip board.chips) is).0 in
          some_chip chip some,
    ) where
      some_chip : (chip : ℕ) → eqb chip 0 ≡ false → 1 ≤ chip
      some_chip zero is = absurd (true≢false is)
      some_chip (suc chip) is = omega arith

-- without a fault of the wires, each wire brings one of the nets
pub wires_fine : (flat : Flat) (plan : Plan) → wire_fault flat plan ≡ None → All (λ wire. wire.net < flat.inputs + length flat.cells) plan.wires
wires_fine flat plan none = λ place default within.
    let wires = or_none (missing_wire flat plan) (option_or (extra_wire flat plan) None) none in
    let extra = or_none (extra_wire flat plan) None wires.1 in
    let found = λ (number : ℕ) (wire : Wire). found_unless (is_needed flat plan.chip_of wire.net wire.to && not (is_brought (take number plan.wires) wire.net wire.to)) (ExtraWire number) in
    let wire = get_or plan.wires place default in
    let needed = passed (is_needed flat plan.chip_of wire.net wire.to && not (is_brought (take (0 + place) plan.wires) wire.net wire.to)) (ExtraWire (0 + place)) (none_at found 0 plan.wires extra.0 place default within) in
    needed_net flat plan.chip_of wire.net wire.to (and_parts (is_needed flat plan.chip_of wire.net wire.to) (not (is_brought (take (0 + place) plan.wires) wire.net wire.to)) needed).0
