-- The last microclock of a clock: the host shows the outputs, and the latches take what comes next.
use Rattle.std.proofs.Common.{◌≡◌, ◌<◌, ◌≤◌, ◌+◌, ◌-◌, ◌∙◌, ◌⊎◌, inl, inr, ℕ, zero, suc, Bool, true, false, cond, List, length, take, get_or, slice_get, slice_index, slice_index_or, nat_lt, Some, None, eqb, ap, refl, sym, subst, ⊎_elim, true≢false, eqb-true, eq-eqb, ne_eqb, lt-ltb, le-ltb, arith}
use Rattle.std.proofs.lemmas.Bool.{cases_Bool, cases_lt}
use Rattle.std.proofs.lemmas.List.Folds.{list_any_at}
use Rattle.std.proofs.lemmas.Option.{get_or_from_slice_get, slice_get_within}
use Rattle.vw_net.specs.Cells.{latch_count}
use Rattle.vw_net.specs.History.{next_state}
use Rattle.vw_net.specs.Order.{is_among}
use Rattle.vw_net.specs.declared.cell.Cell.TheVariants.{Latch}
use Rattle.vw_net.specs.declared.cell.Init.{Init}
use Rattle.vw_net.proofs.LatchValues.{next_state-latch}
use Rattle.vw_net.proofs.ListedLists.{stands_below}
use Rattle.vw_plan.specs.Lead.{arrival, brings, brought_at, lead, usable}
use Rattle.vw_plan.specs.Nets.{driving_cell, greatest_read}
use Rattle.vw_plan.specs.PlannedBoard.{PlannedBoard, home}
use Rattle.vw_plan.specs.Sound.{IsSound}
use Rattle.vw_plan.proofs.HopLinks.{hop_facts}
use Rattle.vw_plan.proofs.HopsOfWires.{at_place}
use Rattle.vw_plan.proofs.LeadLevels.{lead-by_driver}
use Rattle.vw_plan.proofs.NeededWires.{WireFor, output_own_or_brought, own_pair}
use Rattle.vw_plan.proofs.WireEnds.{last_hop}
use Rattle.vw_emit_hardware.specs.Locals.{kept, moment, result}
use Rattle.vw_emit_hardware.specs.Names.{name_at}
use Rattle.vw_emit_hardware.specs.Run.{IsRun, Values}
use Rattle.vw_emit_hardware.proofs.Clocks.{IsAtStart, IsClock, cell_chip, stage_is, within}
use Rattle.vw_emit_hardware.proofs.Equations.{latch_bit, result_bit, stage_moves, stage_wraps}
use Rattle.vw_emit_hardware.proofs.Firsts.{brought_by_first}
use Rattle.vw_emit_hardware.proofs.Hops.{have_come}
use Rattle.vw_emit_hardware.proofs.Nets.{IsThere, bit, net_count, net_is, read_is_there}

module _ (planned : PlannedBoard) (sound : IsSound planned) where
  -- a net of a node has its lead by its driver, another one by its arrival
  own_lead : (node net : ℕ) → eqb (home planned net) node ≡ true
      → lead planned node net ≡ greatest_read (lead planned node) (driving_cell planned.ordered.flat net)
  own_lead node net own =
      lead-by_driver planned node net ∙ ap (λ (test : Bool). cond test (greatest_read (lead planned node) (driving_cell planned.ordered.flat net)) (brought_at planned node net)) own

  -- a net of the host is an input, so its lead there is 0
  host_lead : (net : ℕ) → net < net_count planned → eqb (home planned net) 0 ≡ true → lead planned 0 net ≡ 0
  host_lead net small own = own_lead 0 net own ∙ by (nat_lt net planned.ordered.flat.inputs) refl where
    by : (input : Bool) → nat_lt net planned.ordered.flat.inputs ≡ input → greatest_read (lead planned 0) (driving_cell planned.ordered.flat net) ≡ 0
    by true input = ap (λ (test : Bool). greatest_read (lead planned 0) (cond test None (slice_get planned.ordered.flat.cells (net - planned.ordered.flat.inputs)))) input
    by false input =
        let inputs = planned.ordered.flat.inputs in
        let past : inputs ≤ net = ⊎_elim (λ less. absurd (true≢false (sym (lt-ltb net inputs less) ∙ input))) (λ upto. upto) (cases_lt net inputs) in
        let found = stands_below planned.ordered.flat.cells (net - inputs) (omega (arith, small, past)) in
        let chip = (cell_chip planned sound (net - inputs) found.0 found.1).0 in
        let host : slice_index planned.plan.chip_of (net - inputs) ≡ 0 = sym (ap (λ (test : Bool). cond test 0 (slice_index planned.plan.chip_of (net - inputs))) input) ∙ eqb-true (home planned net) 0 own in
        absurd (omega (arith, chip, host))

  -- a net that a wire brings has arrived before the period ends
  brought_lead : (node net : ℕ) → eqb (home planned net) node ≡ false → WireFor planned net node → lead planned node net ≤ planned.plan.period
  brought_lead node net apart for =
      let brought : brings net node for.wire ≡ true = subst (λ (n : ℕ). brings n node for.wire ≡ true) for.brought (subst (λ (n : ℕ). brings for.wire.net n for.wire ≡ true) for.to (own_pair for.wire)) in
      let by = brought_by_first planned net node for.number for.wire for.there brought in
      let last = last_hop planned sound by.number by.wire by.there in
      let arrived = (hop_facts planned sound by.number last.place by.wire last.hop by.there last.at).within in
      let arrives : lead planned node net ≡ arrival planned.board.links last.hop + 1 =
      lead-by_driver planned node net ∙ ap (λ (test : Bool). cond test (greatest_read (lead planned node) (driving_cell planned.ordered.flat net)) (brought_at planned node net)) apart ∙ by.lead ∙ last.ends.brings in
      omega (arith, arrives, arrived)

  -- so the host has what an output has by the period
  output_lead : (net : ℕ) → net < net_count planned → IsThere planned net 0 → lead planned 0 net ≤ planned.plan.period
  output_lead net small there = by (cases_Bool (eqb (home planned net) 0)) there where
    by : (eqb (home planned net) 0 ≡ true) ⊎ (eqb (home planned net) 0 ≡ false) → IsThere planned net 0 → lead planned 0 net ≤ planned.plan.period
    by (inl own) is = let none = host_lead net small own in omega (arith, none)
    by (inr apart) (inl own) = absurd (true≢false (sym (eq-eqb (home planned net) 0 own) ∙ apart))
    by (inr apart) (inr for) = brought_lead 0 net apart for

  -- and a chip what a latch reads
  latch_lead : (cell d : ℕ) (init : Init) → slice_get planned.ordered.flat.cells cell ≡ Some (Latch d init)
      → lead planned (slice_index planned.plan.chip_of cell) d ≤ planned.plan.period
  latch_lead cell d init at =
      let inputs = planned.ordered.flat.inputs in
      let no_input : nat_lt (inputs + cell) inputs ≡ false = le-ltb (inputs + cell) inputs (omega arith) in
      let number : inputs + cell - inputs ≡ cell = omega arith in
      let chip : home planned (inputs + cell) ≡ slice_index planned.plan.chip_of cell =
      ap (λ (test : Bool). cond test 0 (slice_index planned.plan.chip_of (inputs + cell - inputs))) no_input ∙ ap (slice_index planned.plan.chip_of) number in
      let in_time = subst (λ (node : ℕ). usable planned node d ≤ planned.plan.period) chip (sound.latches_in_time cell d init at) in
      omega (arith, in_time)

module _ (planned : PlannedBoard) (sound : IsSound planned) (unknown : Bool) (rows : List (List Bool)) (value : Values) (run : IsRun planned unknown rows value)
    (start : ℕ) (row state : List Bool) (clock : IsClock planned rows value start row state) where
  -- the value of a net in this clock
  abbrev own_bit : ℕ → Bool
  own_bit = bit planned sound unknown rows value run start row state clock

  -- the last microclock
  abbrev last : ℕ
  last = start + planned.plan.period

  -- a net whose lead is over by then has its value
  last_net : (net node : ℕ) → net < net_count planned → IsThere planned net node → lead planned node net ≤ planned.plan.period
      → value last node (name_at planned node net) ≡ own_bit net
  last_net = net_is planned sound unknown rows value run start row state clock planned.plan.period (omega arith) (have_come planned sound unknown rows value run start row state clock planned.plan.period (omega arith))

  -- the host shows the outputs
  pub output_shown : (output net : ℕ) → slice_get planned.ordered.flat.outputs output ≡ Some net → value last 0 (result output) ≡ own_bit net
  output_shown output net at =
      let outputs = planned.ordered.flat.outputs in
      let small = at_place (λ (one : ℕ). one < net_count planned) outputs output net planned.ordered.flat.outputs_fit at in
      let own : eqb (get_or outputs output net) net ≡ true = eq-eqb (get_or outputs output net) net (get_or_from_slice_get outputs output net net at) in
      let among : is_among outputs net ≡ true = list_any_at (λ (other : ℕ). eqb other net) outputs output net (slice_get_within outputs output net at) own in
      let there = output_own_or_brought planned sound net among in
      result_bit planned unknown rows value run last output net (within planned sound unknown rows value run start row state clock planned.plan.period (omega arith)) at
      ∙ last_net net 0 small there (output_lead planned sound net small there)

  -- where the run goes on, the next clock begins with the next state
  pub next_start : suc last < length rows → IsAtStart planned value (suc last) (next_state planned.ordered.flat row state)
  next_start goes_on = record { stages = stages; latches = latches } where
    stages : (node microcycle : ℕ) → node ≤ planned.board.chips → microcycle ≤ planned.plan.period
        → value (suc last) node (moment microcycle) ≡ eqb 0 microcycle
    stages node zero among small =
        stage_wraps planned unknown rows value run node among last goes_on
        ∙ stage_is planned sound unknown rows value run start row state clock planned.plan.period node planned.plan.period (omega arith) among (omega arith)
        ∙ eq-eqb planned.plan.period planned.plan.period refl
    stages node (suc before) among small =
        stage_moves planned unknown rows value run node among before last (omega (arith, small)) goes_on
        ∙ stage_is planned sound unknown rows value run start row state clock planned.plan.period node before (omega arith) among (omega (arith, small))
        ∙ ne_eqb planned.plan.period before (λ same. omega (arith, same, small)) ∙ sym (ne_eqb 0 (suc before) (λ same. omega (arith, same)))

    latches : (cell d : ℕ) (init : Init) → slice_get planned.ordered.flat.cells cell ≡ Some (Latch d init)
        → value (suc last) (slice_index planned.plan.chip_of cell) (kept cell) ≡ slice_index_or (next_state planned.ordered.flat row state) (latch_count (take cell planned.ordered.flat.cells)) false
    latches cell d init at =
        let node = slice_index planned.plan.chip_of cell in
        let among = (cell_chip planned sound cell (Latch d init) at).1 in
        let reads = read_is_there planned sound cell (Latch d init) at 0 d (omega arith) in
        let now = stage_is planned sound unknown rows value run start row state clock planned.plan.period node planned.plan.period (omega arith) among (omega arith) ∙ eq-eqb planned.plan.period planned.plan.period refl in
        latch_bit planned unknown rows value run node among last cell d init goes_on at refl
        ∙ ap (λ (test : Bool). cond test (value last node (name_at planned node d)) (value last node (kept cell))) now
        ∙ last_net d node reads.0 reads.1 (latch_lead planned sound cell d init at)
        ∙ sym (next_state-latch planned.ordered.flat row state cell d init at)
