-- The wires of a sound plan bring nets of the netlist to nodes where they are needed.
use Rattle.std.proofs.Common.{◌≡◌, ◌<◌, ◌+◌, ℕ, Bool, true, false, length, get_or, slice_get, slice_index, Some, cond, eqb, ap, refl, ◌∙◌, ◌⊎◌, inl, inr, ⊎_elim, eq-eqb, eqb-true, All, arith}
use Rattle.std.specs.List.{count_by}
use Rattle.std.proofs.lemmas.Bool.{and_from, and_parts, cases_Bool}
use Rattle.vw_net.proofs.CountsOverLists.{counted_at, some_counted}
use Rattle.vw_net.proofs.ListedLists.{from_any}
use Rattle.vw_net.specs.declared.cell.Cell.{Cell}
use Rattle.vw_net.specs.Cells.{read_nets}
use Rattle.vw_net.specs.Order.{is_among}
use Rattle.vw_plan.specs.declared.wire.Wire.{Wire}
use Rattle.vw_plan.specs.Lead.{brings}
use Rattle.vw_plan.specs.Nets.{is_needed}
use Rattle.vw_plan.specs.PlannedBoard.{PlannedBoard, home}
use Rattle.vw_plan.specs.Sound.{IsSound}
use Rattle.vw_plan.proofs.NeededNets.{needed_net}
use Rattle.vw_plan.proofs.ReadNets.{output_or_needed, read_or_needed}

-- a wire brings its net to its node
pub own_pair : (wire : Wire) → brings wire.net wire.to wire ≡ true
own_pair wire = and_from (eqb wire.net wire.net) (eqb wire.to wire.to) (eq-eqb wire.net wire.net refl) (eq-eqb wire.to wire.to refl)

-- where that net is needed
pub wire_needed : (planned : PlannedBoard) → IsSound planned → (place : ℕ) (default : Wire) → place < length planned.plan.wires → let wire = get_or planned.plan.wires place default in is_needed planned.ordered.flat planned.plan.chip_of wire.net wire.to ≡ true
wire_needed planned sound place default within =
    let wire = get_or planned.plan.wires place default in
    let needed = is_needed planned.ordered.flat planned.plan.chip_of wire.net wire.to in
    let some = counted_at (brings wire.net wire.to) planned.plan.wires place default within (own_pair wire) in
    let if_not = λ (no : needed ≡ false).
    let none : count_by (brings wire.net wire.to) planned.plan.wires ≡ 0 = sound.one_wire_for_each_need wire.net wire.to ∙ ap (λ (is : Bool). cond is 1 0) no in
    let whole : needed ≡ true = absurd (omega (arith, some, none)) in whole in
    ⊎_elim (λ is. is) if_not (cases_Bool needed)

-- so the net is one of the netlist
pub wires_fine : (planned : PlannedBoard) → IsSound planned
    → All (λ wire. wire.net < planned.ordered.flat.inputs + length planned.ordered.flat.cells) planned.plan.wires
wires_fine planned sound place default within =
    let wire = get_or planned.plan.wires place default in
    needed_net planned.ordered.flat planned.plan.chip_of wire.net wire.to (wire_needed planned sound place default within)

-- ---- and a net that is needed at a node has one wire

-- the wire that brings a net to a node, by its number
pub record WireFor (planned : PlannedBoard) (net node : ℕ) : Type 0 where
  pub number : ℕ
  pub wire : Wire
  pub there : slice_get planned.plan.wires number ≡ Some wire
  pub brought : wire.net ≡ net
  pub to : wire.to ≡ node

-- there is such a wire for each needed pair
pub needed_wire : (planned : PlannedBoard) → IsSound planned → (net node : ℕ)
    → is_needed planned.ordered.flat planned.plan.chip_of net node ≡ true → WireFor planned net node
needed_wire planned sound net node needed =
    let one : count_by (brings net node) planned.plan.wires ≡ 1 = sound.one_wire_for_each_need net node ∙ ap (λ (is : Bool). cond is 1 0) needed in
    let found = from_any (brings net node) planned.plan.wires (some_counted (brings net node) planned.plan.wires (omega (arith, one))) in
    let parts = and_parts (eqb found.0.net net) (eqb found.0.to node) found.2 in
    record { number = found.1.0; wire = found.0; there = found.1.1; brought = eqb-true found.0.net net parts.0; to = eqb-true found.0.to node parts.1 }

-- what a cell reads is of its own node, or a wire brings it there
pub read_own_or_brought : (planned : PlannedBoard) → IsSound planned → (number net : ℕ) (cell : Cell)
    → slice_get planned.ordered.flat.cells number ≡ Some cell → is_among (read_nets cell) net ≡ true
    → (home planned net ≡ slice_index planned.plan.chip_of number) ⊎ WireFor planned net (slice_index planned.plan.chip_of number)
read_own_or_brought planned sound number net cell is reads =
    let node = slice_index planned.plan.chip_of number in
    ⊎_elim (λ own. inl own) (λ needed. inr (needed_wire planned sound net node needed)) (read_or_needed planned.ordered.flat planned.plan.chip_of number net cell sound.one_chip_each.each is reads)

-- what an output has is of the host, or a wire brings it there
pub output_own_or_brought : (planned : PlannedBoard) → IsSound planned → (net : ℕ) → is_among planned.ordered.flat.outputs net ≡ true
    → (home planned net ≡ 0) ⊎ WireFor planned net 0
output_own_or_brought planned sound net shown =
    ⊎_elim (λ own. inl own) (λ needed. inr (needed_wire planned sound net 0 needed)) (output_or_needed planned.ordered.flat planned.plan.chip_of net shown)
