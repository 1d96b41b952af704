use Rattle.std.proofs.Common.{◌≡◌, ◌<◌, ◌≤◌, ◌∙◌, ℕ, List, Bool, Option, Some, None, nat_le, ap, ap₂, sym, arith}
use Rattle.std.proofs.lemmas.Bool.{le-leb, lt-leb}
use Rattle.std.specs.List.{slice_get}
use Rattle.std.specs.Option.{option_and_then, option_copied}
use Rattle.vw_net.specs.declared.flat.Flat.{Flat}
use Rattle.vw_plan.specs.Lead.{usable}
use Rattle.vw_plan.specs.Nets.{node_of}
use Rattle.vw_plan.specs.PlannedBoard.{PlannedBoard}
use Rattle.vw_ready.specs.LeadTables.{planned_in}
use Rattle.vw_plan.specs.declared.wire.Hop.{Hop}
use Rattle.vw_plan.specs.declared.wire.Wire.{Wire}
use Rattle.vw_net.specs.FirstFound.{found_unless}
use Rattle.vw_check.specs.MicrocycleFaults.{early_wire, usable_at_home}
use Rattle.vw_check.specs.declared.fault.PlanFault.{PlanFault}
use Rattle.vw_check.specs.declared.fault.PlanFault.TheVariants.{TooEarly}
use Rattle.vw_net.proofs.FirstFound.{search_ends, search_on}
use Rattle.vw_check.proofs.microcycles.too_early.Goals as goal
use Rattle.vw_check.proofs.microcycles.too_early.Goals.{in-Some+else-at-usable, in_default}

module _ (planned : PlannedBoard) (number : ℕ) (wire : Wire) where
  abbrev home_microcycle : ℕ
  home_microcycle = usable_at_home planned wire.net

  abbrev fault_of : Hop → Option PlanFault
  fault_of hop = found_unless (nat_le home_microcycle hop.at) (TooEarly number hop.at home_microcycle)

  -- what the code finds usable at a net's own node is the net's microcycle
  microcycle : (flat : Flat) (chips : List ℕ) (net again node found : ℕ) → flat ≡ planned.ordered.flat → chips ≡ planned.plan.chip_of
      → net ≡ wire.net → again ≡ wire.net → node ≡ node_of flat chips net → found ≡ usable planned node again → found ≡ home_microcycle
  microcycle flat chips net again node found flats listed one other home is =
      is ∙ ap₂ (usable planned) (home ∙ ap (λ (netlist : Flat). node_of netlist chips net) flats ∙ ap₂ (node_of planned.ordered.flat) listed one) other

  early : (hop : Hop) (sent found : ℕ) → slice_get wire.hops 0 ≡ Some hop → found ≡ home_microcycle → sent ≡ hop.at → sent < found
      → early_wire planned number wire ≡ Some (TooEarly number sent found)
  early hop sent found first at when before =
      ap (option_and_then fault_of) first
      ∙ ap₂ (λ (hop_at from : ℕ). found_unless (nat_le from hop_at) (TooEarly number hop_at from)) (sym when) (sym at)
      ∙ ap (λ (fits : Bool). found_unless fits (TooEarly number sent found)) (lt-leb found sent before)

  in_time : (hop : Hop) → slice_get wire.hops 0 ≡ Some hop → home_microcycle ≤ hop.at → early_wire planned number wire ≡ None
  in_time hop first after =
      ap (option_and_then fault_of) first
      ∙ ap (λ (fits : Bool). found_unless fits (TooEarly number hop.at home_microcycle)) (le-leb home_microcycle hop.at after)

  no_hop : slice_get wire.hops 0 ≡ None → early_wire planned number wire ≡ None
  no_hop none = ap (option_and_then fault_of) none

-- a wire that is sent too early is the first of those that are looked for
pub returns-then-at-usable : goal.returns-then-at-usable
returns-then-at-usable c =
    let planned = planned_in c.args.wired.now in
    let number = c.loop-number.number in
    let wire = c.wire-item.result in
    let first = ap (λ (hops : List Hop). slice_get hops 0) (sym c.hops.ensures) ∙ sym c.in-Some.ensures.value in
    let at = microcycle planned number wire c.flat.result.now c.chip_of.result.now c.net.result c.net-in-Some.result c.node_of-node.result c.usable_at-usable.result c.flat.ensures c.chip_of.ensures c.net.ensures c.net-in-Some.ensures c.node_of-node.ensures c.usable_at-usable.ensures in
    let found = early planned number wire c.in-Some.hop.now c.at-then-at-usable.result c.usable_at-usable.result first at c.at-then-at-usable.ensures (omega (arith, c.at.ensures, c.at-then-at-usable.ensures, c.if-at-usable.true)) in
    let within = rw c.wires-wire-items.ensures at c.loop-number-test.true in
    let here = rw c.wires-wire-items.ensures at c.wire-item.is in
    search_ends (early_wire planned) number planned.plan.wires wire within (TooEarly number c.at-then-at-usable.result c.usable_at-usable.result) (ap (early_wire planned number) (sym here) ∙ found) ∙ c.loop-number.invariant

-- a wire that isn't is none of them
pub loop-number-preserved : goal.loop-number-preserved
loop-number-preserved c =
    let planned = planned_in c.args.wired.now in
    let number = c.loop-number.number in
    let wire = c.wire-item.result in
    let listed = ap (λ (hops : List Hop). slice_get hops 0) (sym c.hops.ensures) in
    let none : early_wire planned number wire ≡ None = elim c.match-first.branch [
      | in-Some+else-at-usable w ↦
          let at = microcycle planned number wire w.flat.result.now w.chip_of.result.now w.net.result w.net-in-Some.result w.node_of-node.result w.usable_at-usable.result w.flat.ensures w.chip_of.ensures w.net.ensures w.net-in-Some.ensures w.node_of-node.ensures w.usable_at-usable.ensures in
          in_time planned number wire w.in-Some.hop.now (listed ∙ sym w.in-Some.ensures.value) (omega (arith, at, w.at.ensures, w.if-at-usable.false))
      | in_default w ↦ no_hop planned number wire (listed ∙ sym c.first.ensures.value ∙ ap option_copied w.in_default.is)
    ] in
    let within = rw c.wires-wire-items.ensures at c.loop-number-test.true in
    let here = rw c.wires-wire-items.ensures at c.wire-item.is in
    search_on (early_wire planned) number planned.plan.wires wire within (ap (early_wire planned number) (sym here) ∙ none) ∙ c.loop-number.invariant
