-- What a node has of a net once the net's lead is over: the net's value, if the registers of the hops that have arrived have
-- the values of their wires' nets.
use Rattle.std.proofs.Common.{◌≡◌, ◌<◌, ◌≤◌, ◌+◌, ◌-◌, ◌∙◌, ◌⊎◌, inl, inr, ℕ, Bool, true, false, cond, List, length, get_or, slice_get, slice_index, nat_lt, Option, Some, None, eqb, ap, ap₂, refl, sym, subst, ⊎_elim, true≢false, eqb-true, eq-eqb, lt-ltb, All, arith}
use Rattle.std.proofs.lemmas.Bool.{and_parts, cases_Bool, cases_lt, ltb-true}
use Rattle.std.proofs.lemmas.List.Folds.{list_any_at}
use Rattle.vw_net.specs.Cells.{IsWellFormed, read_nets}
use Rattle.vw_net.specs.Cover.{cover_value}
use Rattle.vw_net.specs.Order.{gate_inputs, is_latch}
use Rattle.vw_net.specs.Value.{net_value}
use Rattle.vw_net.specs.declared.cell.Cell.{Cell}
use Rattle.vw_net.specs.declared.cell.Cell.TheVariants.{Gate, Latch}
use Rattle.vw_net.proofs.DrivenValues.{map_agree}
use Rattle.vw_net.proofs.Levels.{net_value-gate, net_value-input, net_value-latch}
use Rattle.vw_net.proofs.ListedLists.{stands_below}
use Rattle.vw_plan.specs.Lead.{arrival, brings, brought_at, lead}
use Rattle.vw_plan.specs.Nets.{driving_cell, greatest_read}
use Rattle.vw_plan.specs.PlannedBoard.{PlannedBoard, home}
use Rattle.vw_plan.specs.Sound.{IsSound}
use Rattle.vw_plan.specs.declared.wire.Hop.{Hop}
use Rattle.vw_plan.specs.declared.wire.Wire.{Wire}
use Rattle.vw_plan.proofs.AlongOrder.{every_net}
use Rattle.vw_plan.proofs.GreatestReads.{greatest_read-least}
use Rattle.vw_plan.proofs.HopsOfWires.{at_place}
use Rattle.vw_plan.proofs.LeadLevels.{lead-by_driver}
use Rattle.vw_plan.proofs.NeededWires.{WireFor, own_pair, read_own_or_brought}
use Rattle.vw_plan.proofs.WireEnds.{last_hop}
use Rattle.vw_emit_hardware.specs.Locals.{Local, column, gate, held, kept}
use Rattle.vw_emit_hardware.specs.Names.{brought_name, name_at, own_name}
use Rattle.vw_emit_hardware.specs.Run.{IsRun, Values}
use Rattle.vw_emit_hardware.proofs.Clocks.{IsClock, cell_chip, latch_is, within}
use Rattle.vw_emit_hardware.proofs.Equations.{gate_bit}
use Rattle.vw_emit_hardware.proofs.Firsts.{brought_by_first}

-- how many nets there are
abbrev pub net_count : PlannedBoard → ℕ
net_count planned = planned.ordered.flat.inputs + length planned.ordered.flat.cells

-- a net is of a node, or a wire brings it there
abbrev pub IsThere : PlannedBoard → ℕ → ℕ → Type 0
IsThere planned net node = (home planned net ≡ node) ⊎ WireFor planned net node

-- what a cell reads is there on its chip
pub read_is_there : (planned : PlannedBoard) → IsSound planned → (cell : ℕ) (is : Cell)
    → slice_get planned.ordered.flat.cells cell ≡ Some is → (place default : ℕ) → place < length (read_nets is)
    → let net = get_or (read_nets is) place default in (net < net_count planned) × IsThere planned net (slice_index planned.plan.chip_of cell)
read_is_there planned sound cell is at place default inside =
    let nets = read_nets is in
    let net = get_or nets place default in
    let fits = at_place (IsWellFormed (net_count planned)) planned.ordered.flat.cells cell is planned.ordered.flat.cells_fit at in
    (fits.1 place default inside, read_own_or_brought planned sound cell net is at (list_any_at (λ (other : ℕ). eqb other net) nets place default inside (eq-eqb net net refl)))

module _ (planned : PlannedBoard) (sound : IsSound planned) (unknown : Bool) (rows : List (List Bool)) (value : Values) (run : IsRun planned unknown rows value)
    (start : ℕ) (row state : List Bool) (clock : IsClock planned rows value start row state) where
  -- the value of a net in this clock
  abbrev pub bit : ℕ → Bool
  bit net = net_value planned.ordered.flat row state net

  -- the register of each hop that has arrived before a microcycle has the value of its wire's net
  abbrev pub AreHeld : ℕ → Type 0
  AreHeld microcycle = (wire place : ℕ) (is : Wire) (hop : Hop) → slice_get planned.plan.wires wire ≡ Some is → slice_get is.hops place ≡ Some hop → arrival planned.board.links hop < microcycle
      → value (start + microcycle) hop.to (held wire place) ≡ bit is.net

  module _ (microcycle : ℕ) (early : microcycle ≤ planned.plan.period) (are_held : AreHeld microcycle) where
    -- a net has its value in a microcycle at each node where it is, if its lead there is over
    abbrev IsKnown : ℕ → Type 0
    IsKnown net = (node : ℕ) → net < net_count planned → IsThere planned net node → lead planned node net ≤ microcycle → value (start + microcycle) node (name_at planned node net) ≡ bit net

    -- at another node
    brought_known : (net node : ℕ) → eqb (home planned net) node ≡ false → IsThere planned net node → lead planned node net ≤ microcycle
        → value (start + microcycle) node (name_at planned node net) ≡ bit net
    brought_known net node apart (inl own) over = absurd (true≢false (sym (eq-eqb (home planned net) node own) ∙ apart))
    brought_known net node apart (inr for) over =
        let brought : brings net node for.wire ≡ true = subst (λ (n : ℕ). brings n node for.wire ≡ true) for.brought (subst (λ (n : ℕ). brings for.wire.net n for.wire ≡ true) for.to (own_pair for.wire)) in
        let by = brought_by_first planned net node for.number for.wire for.there brought in
        let parts = and_parts (eqb by.wire.net net) (eqb by.wire.to node) by.brought in
        let last = last_hop planned sound by.number by.wire by.there in
        let place : length by.wire.hops - 1 ≡ last.place = omega (arith, last.last) in
        let name : name_at planned node net ≡ held by.number last.place = ap (λ (test : Bool). cond test (own_name planned.ordered.flat net) (brought_name planned node net)) apart ∙ by.named ∙ ap (held by.number) place in
        let arrives : lead planned node net ≡ arrival planned.board.links last.hop + 1 =
        lead-by_driver planned node net ∙ ap (λ (test : Bool). cond test (greatest_read (lead planned node) (driving_cell planned.ordered.flat net)) (brought_at planned node net)) apart ∙ by.lead ∙ last.ends.brings in
        let reaches : last.hop.to ≡ node = last.ends.to ∙ eqb-true by.wire.to node parts.1 in
        ap (value (start + microcycle) node) name
        ∙ ap (λ (n : ℕ). value (start + microcycle) n (held by.number last.place)) (sym reaches)
        ∙ are_held by.number last.place by.wire last.hop by.there last.at (omega (arith, over, arrives))
        ∙ ap bit (eqb-true by.wire.net net parts.0)

    -- a cell at its own node
    cell_known : (number : ℕ) (cell : Cell) → slice_get planned.ordered.flat.cells number ≡ Some cell → (reads : All IsKnown (gate_inputs (Some cell)))
        → (node : ℕ) → slice_index planned.plan.chip_of number ≡ node → greatest_read (lead planned node) (Some cell) ≤ microcycle
        → value (start + microcycle) node (cond (is_latch (Some cell)) (kept number) (gate number)) ≡ bit (planned.ordered.flat.inputs + number)
    cell_known number (Gate ins cover) at reads node chip over =
        let among : node ≤ planned.board.chips = subst (λ (n : ℕ). n ≤ planned.board.chips) chip (cell_chip planned sound number (Gate ins cover) at).1 in
        let inside = within planned sound unknown rows value run start row state clock microcycle early in
        let fits = at_place (IsWellFormed (net_count planned)) planned.ordered.flat.cells number (Gate ins cover) planned.ordered.flat.cells_fit at in
        let known : All (λ net. value (start + microcycle) node (name_at planned node net) ≡ bit net) ins = (λ place default below.
        let net = get_or ins place default in
        let there = read_is_there planned sound number (Gate ins cover) at place default below in
        let least = greatest_read-least (lead planned node) (Some (Gate ins cover)) net (list_any_at (λ (other : ℕ). eqb other net) ins place default below (eq-eqb net net refl)) in
        reads place default below node there.0 (subst (IsThere planned net) chip there.1) (omega (arith, least, over))) in
        gate_bit planned unknown rows value run node among (start + microcycle) number ins cover inside at chip fits.0
        ∙ ap (cover_value cover) (map_agree (λ net. value (start + microcycle) node (name_at planned node net)) bit ins known)
        ∙ sym (net_value-gate planned.ordered.flat planned.ordered.order planned.ordered.is_order row state number ins cover at)
    cell_known number (Latch d init) at reads node chip over =
        let latch : is_latch (slice_get planned.ordered.flat.cells number) ≡ true = ap is_latch at in
        ap (λ (n : ℕ). value (start + microcycle) n (kept number)) (sym chip)
        ∙ latch_is planned sound unknown rows value run start row state clock microcycle number d init early at
        ∙ sym (net_value-latch planned.ordered.flat row state number latch)

    -- at its own node
    own_known : (net node : ℕ) → All IsKnown (gate_inputs (driving_cell planned.ordered.flat net)) → net < net_count planned
        → eqb (home planned net) node ≡ true → lead planned node net ≤ microcycle
        → value (start + microcycle) node (name_at planned node net) ≡ bit net
    own_known net node reads small own over = by (nat_lt net planned.ordered.flat.inputs) refl where
      name : name_at planned node net ≡ own_name planned.ordered.flat net
      name = ap (λ (test : Bool). cond test (own_name planned.ordered.flat net) (brought_name planned node net)) own

      its_lead : lead planned node net ≡ greatest_read (lead planned node) (driving_cell planned.ordered.flat net)
      its_lead = lead-by_driver planned node net ∙ ap (λ (test : Bool). cond test (greatest_read (lead planned node) (driving_cell planned.ordered.flat net)) (brought_at planned node net)) own

      by : (input : Bool) → nat_lt net planned.ordered.flat.inputs ≡ input → value (start + microcycle) node (name_at planned node net) ≡ bit net
      by true input =
          let host : home planned net ≡ 0 = ap (λ (test : Bool). cond test 0 (slice_index planned.plan.chip_of (net - planned.ordered.flat.inputs))) input in
          let at_host : node ≡ 0 = sym (eqb-true (home planned net) node own) ∙ host in
          let called : own_name planned.ordered.flat net ≡ column net = ap (λ (test : Bool). cond test (column net) (cond (is_latch (driving_cell planned.ordered.flat net)) (kept (net - planned.ordered.flat.inputs)) (gate (net - planned.ordered.flat.inputs)))) input in
          ap₂ (λ (n : ℕ) (local : Local). value (start + microcycle) n local) at_host (name ∙ called)
          ∙ run.columns (start + microcycle) net row (clock.holds microcycle early) (ltb-true net planned.ordered.flat.inputs input)
          ∙ sym (net_value-input planned.ordered.flat row state net input)
      by false input =
          let inputs = planned.ordered.flat.inputs in
          let number = net - inputs in
          let past : inputs ≤ net = ⊎_elim (λ less. absurd (true≢false (sym (lt-ltb net inputs less) ∙ input))) (λ upto. upto) (cases_lt net inputs) in
          let below : number < length planned.ordered.flat.cells = omega (arith, small, past) in
          let found = stands_below planned.ordered.flat.cells number below in
          let driver : driving_cell planned.ordered.flat net ≡ Some found.0 = ap (λ (test : Bool). cond test None (slice_get planned.ordered.flat.cells number)) input ∙ found.1 in
          let chip : slice_index planned.plan.chip_of number ≡ node = sym (ap (λ (test : Bool). cond test 0 (slice_index planned.plan.chip_of number)) input) ∙ eqb-true (home planned net) node own in
          let called : own_name planned.ordered.flat net ≡ cond (is_latch (Some found.0)) (kept number) (gate number) =
          ap (λ (test : Bool). cond test (column net) (cond (is_latch (driving_cell planned.ordered.flat net)) (kept number) (gate number))) input
          ∙ ap (λ (cell : Option Cell). cond (is_latch cell) (kept number) (gate number)) driver in
          let its : lead planned node net ≡ greatest_read (lead planned node) (Some found.0) = its_lead ∙ ap (greatest_read (lead planned node)) driver in
          let back : inputs + number ≡ net = omega (arith, past) in
          ap (value (start + microcycle) node) (name ∙ called)
          ∙ cell_known number found.0 found.1 (subst (λ (cell : Option Cell). All IsKnown (gate_inputs cell)) driver reads) node chip (omega (arith, over, its))
          ∙ ap bit back

    -- so every net has its value where it is, from its lead on
    pub net_is : (net node : ℕ) → net < net_count planned → IsThere planned net node → lead planned node net ≤ microcycle
        → value (start + microcycle) node (name_at planned node net) ≡ bit net
    net_is net = every_net planned.ordered (λ from one. IsKnown one) (λ from to one later known. known) step net where
      step : (from one : ℕ) → All IsKnown (gate_inputs (driving_cell planned.ordered.flat one)) → IsKnown one
      step from one reads node small there over =
          ⊎_elim (λ own. own_known one node reads small own over) (λ apart. brought_known one node apart there over) (cases_Bool (eqb (home planned one) node))
