-- Chains go over nets, wires and cells that are there.
use Rattle.std.proofs.Common.{◌≡◌, ◌<◌, ◌+◌, ◌-◌, ◌∙◌, ℕ, Bool, true, false, List, [], ◌∷◌, length, nat_lt, slice_get, Option, None, Some, ap, refl, sym, subst, true≢false, ⊎_elim, All, arith, if◌then◌else◌}
use Rattle.std.proofs.lemmas.Bool.{cases_Bool}
use Rattle.std.proofs.lemmas.List.Elements.{All-cons}
use Rattle.std.proofs.lemmas.Option.{get_or_from_slice_get, slice_get_within}
use Rattle.vw_net.specs.declared.cell.Cell.{Cell}
use Rattle.vw_net.specs.declared.cell.Cell.TheVariants.{Gate, Latch}
use Rattle.vw_net.specs.Order.{gate_inputs, is_among}
use Rattle.vw_net.proofs.FittingCells.{cell_fits}
use Rattle.vw_net.proofs.Orders.{among_below}
use Rattle.vw_plan.specs.declared.wire.Wire.{Wire}
use Rattle.vw_plan.specs.ChainsBack.{is_read_by}
use Rattle.vw_plan.specs.PlannedBoard.{PlannedBoard}
use Rattle.vw_plan.specs.Sound.{IsSound}
use Rattle.vw_plan.proofs.NeededWires.{wires_fine}
use Rattle.vw_chain.specs.declared.chain.Chain.{Chain}
use Rattle.vw_chain.specs.declared.chain.End.{End}
use Rattle.vw_chain.specs.declared.chain.End.TheVariants as end
use Rattle.vw_chain.specs.declared.chain.Step.{Step}
use Rattle.vw_chain.specs.declared.chain.Step.TheVariants as step
use Rattle.vw_chain.specs.Chains.{IsChain, IsWaitedFor, IsWay}
use Rattle.vw_report.specs.Steps.Chains.{IsEndOf, IsNetOf, IsStepOf}

module _ (planned : PlannedBoard) (sound : IsSound planned) where
  abbrev nets : ℕ
  nets = planned.ordered.flat.inputs + length planned.ordered.flat.cells

  wire_net : (number : ℕ) (wire : Wire) → slice_get planned.plan.wires number ≡ Some wire → wire.net < nets
  wire_net number wire there =
      subst (λ (one : Wire). one.net < nets) (get_or_from_slice_get planned.plan.wires number wire wire there)
      (wires_fine planned sound number wire (slice_get_within planned.plan.wires number wire there))

  -- what drives a net that reads something is a gate, so the net is one of the netlist, and so is what it reads
  read_by : (net number : ℕ) (found : Option Cell) → slice_get planned.ordered.flat.cells number ≡ found → is_among (gate_inputs found) net ≡ true
      → (number < length planned.ordered.flat.cells) × (net < nets)
  read_by net number None there among = absurd (true≢false (sym among))
  read_by net number (Some (Gate ins cover)) there among = (
    slice_get_within planned.ordered.flat.cells number (Gate ins cover) there,
    among_below ins net nets (cell_fits nets planned.ordered.flat.cells number (Gate ins cover) planned.ordered.flat.cells_fit there).1 among,
  )
  read_by net number (Some (Latch d init)) there among = absurd (true≢false (sym among))

  read_nets : (made net : ℕ) → is_read_by planned.ordered.flat made net ≡ true → IsNetOf planned made × IsNetOf planned net
  read_nets made net read =
      let inputs = planned.ordered.flat.inputs in
      let cells = planned.ordered.flat.cells in
      let if_input = λ (input : nat_lt made inputs ≡ true).
      let none : is_read_by planned.ordered.flat made net ≡ false = ap (λ (is : Bool). is_among (gate_inputs (if is then None else slice_get cells (made - inputs))) net) input in
      let whole : IsNetOf planned made × IsNetOf planned net = absurd (true≢false (sym read ∙ none)) in whole in
      let if_cell = λ (cell : nat_lt made inputs ≡ false).
      let same : is_read_by planned.ordered.flat made net ≡ is_among (gate_inputs (slice_get cells (made - inputs))) net = ap (λ (is : Bool). is_among (gate_inputs (if is then None else slice_get cells (made - inputs))) net) cell in
      let its = read_by net (made - inputs) (slice_get cells (made - inputs)) refl (sym same ∙ read) in
      let whole : IsNetOf planned made × IsNetOf planned net = (omega (arith, its.0), its.1) in whole in
      ⊎_elim if_input if_cell (cases_Bool (nat_lt made inputs))

  -- what is waited for is a net
  waited_net : (its : End) (net node last : ℕ) → IsWaitedFor planned its net node last → IsNetOf planned net
  waited_net (end.Wire number) net node last so = subst (IsNetOf planned) so.2 (wire_net number so.0 so.1)
  waited_net (end.Latch number reads) net node last so =
      subst (IsNetOf planned) so.2 ((cell_fits nets planned.ordered.flat.cells number (Latch reads so.0) planned.ordered.flat.cells_fit so.1).1 0 0 (omega arith))

  -- a way begins with a net
  way_net : (steps : List Step) (net node to at : ℕ) → IsWay planned steps net node to at → IsNetOf planned to → IsNetOf planned net
  way_net [] net node to at way ends = subst (IsNetOf planned) (sym way.0) ends
  way_net (step.Gate made ∷ steps) net node to at way ends = (read_nets made net way.0.read).1
  way_net (step.Wire number ∷ steps) net node to at way ends = subst (IsNetOf planned) way.1.its_net (wire_net number way.0 way.1.there)

  -- and goes over nets and wires
  way_steps : (steps : List Step) (net node to at : ℕ) → IsWay planned steps net node to at → All (IsStepOf planned) steps
  way_steps [] net node to at way = λ place default within. absurd (omega (arith, within))
  way_steps (step.Gate made ∷ steps) net node to at way =
      All-cons (IsStepOf planned) (step.Gate made) steps (read_nets made net way.0.read).0 (way_steps steps made node to at way.1)
  way_steps (step.Wire number ∷ steps) net node to at way =
      All-cons (IsStepOf planned) (step.Wire number) steps (slice_get_within planned.plan.wires number way.0 way.1.there) (way_steps steps net way.0.to to at way.2)

  end_cell : (its : End) (net node last : ℕ) → IsWaitedFor planned its net node last → IsEndOf planned its
  end_cell (end.Wire number) net node last so = tt
  end_cell (end.Latch number reads) net node last so = slice_get_within planned.ordered.flat.cells number (Latch reads so.0) so.1

  module _ (last : ℕ) (chain : Chain) (is : IsChain planned last chain) where
    pub chain_first : IsNetOf planned chain.first
    chain_first = way_net chain.steps chain.first _ is.net is.node is.way (waited_net chain.end is.net is.node last is.ends)

    pub chain_steps : All (IsStepOf planned) chain.steps
    chain_steps = way_steps chain.steps chain.first _ is.net is.node is.way

    pub chain_end : IsEndOf planned chain.end
    chain_end = end_cell chain.end is.net is.node last is.ends
