-- Which entries give a net its value at a node: the net's own gate, or the last hop of the wire that brings it there.
use Rattle.std.proofs.Common.{◌≡◌, ◌<◌, ◌≤◌, ◌+◌, ◌-◌, ◌*◌, ◌%◌, ◌&&◌, ◌||◌, ℕ, zero, suc, Bool, true, false, not, List, [], ◌∷◌, length, get_or, cond, eqb, nat_lt, slice_get, Option, Some, None, if◌then◌else◌, inl, inr, ◌⊎◌, ap, ap₂, refl, sym, ◌∙◌, subst, ⊎_elim, eqb-true, eq-eqb, arith}
use Rattle.std.specs.List.{count_by, find, list_any}
use Rattle.std.specs.Option.{option_map_or}
use Rattle.std.proofs.lemmas.Bool.{and_from, and_parts, cases_Bool, ltb-false, not-true, or_cases, or_left, or_right}
use Rattle.std.proofs.lemmas.List.Folds.{list_any-append}
use Rattle.std.proofs.lemmas.Option.{get_or_from_slice_get, slice_get-get_or, slice_get_within}
use Rattle.vw_net.specs.Steps.Bits.{one_if}
use Rattle.vw_net.specs.Order.{is_among, is_gate, is_latch}
use Rattle.vw_net.proofs.Orders.{among_at, gate_or_latch}
use Rattle.vw_plan.specs.declared.link.Link.{Link}
use Rattle.vw_plan.specs.declared.wire.Hop.{Hop}
use Rattle.vw_plan.specs.declared.wire.Wire.{Wire}
use Rattle.vw_plan.specs.Lead.{after_last, arrival, brings, brought_at, lead}
use Rattle.vw_plan.specs.Nets.{driving_cell, greatest_read, is_needed, is_read_at}
use Rattle.vw_plan.specs.PlannedBoard.{PlannedBoard, home}
use Rattle.vw_plan.specs.Sound.{IsRouted, IsSound}
use Rattle.vw_plan.proofs.HopsOfWires.{ends}
use Rattle.vw_plan.proofs.LeadLevels.{lead-by_driver}
use Rattle.vw_net.proofs.CountsOverLists.{count_cons}
use Rattle.vw_prog.specs.declared.entry.Entry.{Entry}
use Rattle.vw_prog.specs.Due.{settles_net, is_source}
use Rattle.vw_prog.specs.Timetable.{entries, gate_entries, gate_entry, hop_entries, sent_entry, taken_entry, wire_entries}
use Rattle.vw_net.proofs.ListParts.{any_flat_map}

-- ---- entries that are there

module _ (planned : PlannedBoard) where
  abbrev links : List Link
  links = planned.board.links

  -- an entry that is among those of the board
  abbrev pub IsEntry : Entry → Type 0
  IsEntry entry = (test : Entry → Bool) → test entry ≡ true → list_any test (entries planned) ≡ true

  any_gate : (test : Entry → Bool) (from place number : ℕ) (numbers : List ℕ) → slice_get numbers place ≡ Some number
      → test (gate_entry planned (from + place) number) ≡ true → list_any test (gate_entries planned from numbers) ≡ true
  any_gate test from place number [] is passes = cc
  any_gate test from zero number (first ∷ numbers) is passes =
      let same : first ≡ number = cc in
      let at : from + 0 ≡ from = omega arith in
      or_left (test (gate_entry planned from first)) (list_any test (gate_entries planned (suc from) numbers)) (ap₂ (λ (place one : ℕ). test (gate_entry planned place one)) (sym at) same ∙ passes)
  any_gate test from (suc place) number (first ∷ numbers) is passes =
      let at : suc from + place ≡ from + suc place = omega arith in
      or_right (test (gate_entry planned from first)) (list_any test (gate_entries planned (suc from) numbers)) (any_gate test (suc from) place number numbers is (ap (λ (one : ℕ). test (gate_entry planned one number)) at ∙ passes))

  pub gate_is_entry : (place number : ℕ) → slice_get planned.ordered.order place ≡ Some number → IsEntry (gate_entry planned place number)
  gate_is_entry place number is test passes =
      let at : 0 + place ≡ place = omega arith in
      list_any-append test (gate_entries planned 0 planned.ordered.order) (wire_entries links planned.plan.wires)
      ∙ or_left (list_any test (gate_entries planned 0 planned.ordered.order)) (list_any test (wire_entries links planned.plan.wires))
      (any_gate test 0 place number planned.ordered.order is (ap (λ (one : ℕ). test (gate_entry planned one number)) at ∙ passes))

  pub taken_is_entry : (number place : ℕ) (wire : Wire) (hop : Hop) → slice_get planned.plan.wires number ≡ Some wire
      → slice_get wire.hops place ≡ Some hop → IsEntry (taken_entry links wire.net hop)
  taken_is_entry number place wire hop there is test passes =
      list_any-append test (gate_entries planned 0 planned.ordered.order) (wire_entries links planned.plan.wires)
      ∙ or_right (list_any test (gate_entries planned 0 planned.ordered.order)) (list_any test (wire_entries links planned.plan.wires))
      (any_flat_map test (λ (one : Wire). hop_entries links one.net one.hops) planned.plan.wires number wire there
      (any_flat_map test (λ (one : Hop). sent_entry links wire.net one ∷ taken_entry links wire.net one ∷ []) wire.hops place hop is
      (or_right (test (sent_entry links wire.net hop)) (test (taken_entry links wire.net hop) || false) (or_left (test (taken_entry links wire.net hop)) false passes))))

  -- ---- what settles_net a net its value at a node

  -- an entry of the node that settles_net the net
  pub record Giver (node net : ℕ) : Type 0 where
    pub entry : Entry
    pub is_entry : IsEntry entry
    pub here : entry.node ≡ node
    pub gives_net : settles_net net entry ≡ true

  pub evaluating_gives : (moment net other : ℕ) → net ≡ other → (not (eqb (3 * moment % 3) 1) && eqb net other) ≡ true
  evaluating_gives moment net other same = and_from (not (eqb (3 * moment % 3) 1)) (eqb net other) (ap not (not_one moment)) (eq-eqb net other same) where
    not_one : (m : ℕ) → eqb (3 * m % 3) 1 ≡ false
    not_one m = let is : 3 * m % 3 ≡ 0 = omega arith in ap (λ (rest : ℕ). eqb rest 1) is

  pub taking_gives : (moment net other : ℕ) → net ≡ other → (not (eqb ((3 * moment + 2) % 3) 1) && eqb net other) ≡ true
  taking_gives moment net other same = and_from (not (eqb ((3 * moment + 2) % 3) 1)) (eqb net other) (ap not (not_one moment)) (eq-eqb net other same) where
    not_one : (m : ℕ) → eqb ((3 * m + 2) % 3) 1 ≡ false
    not_one m = let is : (3 * m + 2) % 3 ≡ 2 = omega arith in ap (λ (rest : ℕ). eqb rest 1) is

  -- the gate at a place settles_net its net
  pub gate_gives : (place net : ℕ) → planned.ordered.flat.inputs ≤ net
      → slice_get planned.ordered.order place ≡ Some (net - planned.ordered.flat.inputs)
      → (giver : Giver (home planned net) net) × (giver.entry.moment ≤ 3 * lead planned (home planned net) net)
  gate_gives place net driven is =
      let number = net - planned.ordered.flat.inputs in
      let back : planned.ordered.flat.inputs + number ≡ net = omega arith in (
        record {
          entry = gate_entry planned place number;
          is_entry = gate_is_entry place number is;
          here = ap (home planned) back;
          gives_net = evaluating_gives (lead planned (home planned (planned.ordered.flat.inputs + number)) (planned.ordered.flat.inputs + number)) (planned.ordered.flat.inputs + number) net back;
        },
        omega (arith, ap (λ (one : ℕ). lead planned (home planned one) one) back),
      )

  module _ (sound : IsSound planned) where
    first_bringing : (test : Wire → Bool) (wires : List Wire) → 1 ≤ count_by test wires
        → (number : ℕ) × ((wire : Wire) × ((slice_get wires number ≡ Some wire) × (test wire ≡ true) × (find test wires ≡ Some wire)))
    first_bringing test [] some = absurd (omega (arith, some))
    first_bringing test (wire ∷ wires) some =
        let if_here = λ (is : test wire ≡ true). let whole : (number : ℕ) × ((other : Wire) × ((slice_get (wire ∷ wires) number ≡ Some other) × (test other ≡ true) × (find test (wire ∷ wires) ≡ Some other))) = (0, (wire, (refl, is, ap (λ (here : Bool). if here then Some wire else find test wires) is))) in whole in
        let if_later = λ (no : test wire ≡ false).
        let rest = first_bringing test wires (omega (arith, some, count_cons test wire wires, ap one_if no)) in
        let whole : (number : ℕ) × ((other : Wire) × ((slice_get (wire ∷ wires) number ≡ Some other) × (test other ≡ true) × (find test (wire ∷ wires) ≡ Some other))) = (suc rest.0, (rest.1.0, (rest.1.1.0, rest.1.1.1, ap (λ (here : Bool). if here then Some wire else find test wires) no ∙ rest.1.1.2))) in whole in
        ⊎_elim if_here if_later (cases_Bool (test wire))

    -- the last hop of the wire that brings the net settles_net it
    pub needed_gives : (node net : ℕ) → is_needed planned.ordered.flat planned.plan.chip_of net node ≡ true
        → (giver : Giver node net) × (giver.entry.moment < 3 * lead planned node net)
    needed_gives node net needed =
        let flat = planned.ordered.flat in
        let one : count_by (brings net node) planned.plan.wires ≡ 1 = sound.one_wire_for_each_need net node ∙ ap (λ (is : Bool). cond is 1 0) needed in
        let found = first_bringing (brings net node) planned.plan.wires (omega (arith, one)) in
        let number = found.0 in
        let wire = found.1.0 in
        let there : slice_get planned.plan.wires number ≡ Some wire = found.1.1.0 in
        let pair = and_parts (eqb wire.net net) (eqb wire.to node) found.1.1.1 in
        let its_net : wire.net ≡ net = eqb-true wire.net net pair.0 in
        let its_node : wire.to ≡ node = eqb-true wire.to node pair.1 in
        let routed : IsRouted planned wire = subst (IsRouted planned) (get_or_from_slice_get planned.plan.wires number wire wire there) (sound.routes number wire (slice_get_within planned.plan.wires number wire there)) in
        let place = length wire.hops - 1 in
        let none : Hop = record { from = 0; to = 0; pin = 0; at = 0 } in
        let hop = get_or wire.hops place none in
        let is : slice_get wire.hops place ≡ Some hop = slice_get-get_or wire.hops place none (omega (arith, routed.some)) in
        let end = ends planned sound number wire there place hop is (omega (arith, routed.some)) in
        let parts = and_parts (not (eqb (home planned net) node)) (is_read_at flat planned.plan.chip_of net node || (eqb node 0 && is_among flat.outputs net)) needed in
        let away : eqb (home planned net) node ≡ false = not-true (eqb (home planned net) node) parts.0 in
        let at : lead planned node net ≡ arrival links hop + 1 =
        lead-by_driver planned node net
        ∙ ap (λ (own : Bool). if own then greatest_read (lead planned node) (driving_cell flat net) else brought_at planned node net) away
        ∙ ap (λ (first : Option Wire). option_map_or (λ (other : Wire). after_last links other.hops) first 0) found.1.1.2
        ∙ end.brings in (
          record {
            entry = taken_entry links wire.net hop;
            is_entry = taken_is_entry number place wire hop there is;
            here = end.to ∙ its_node;
            gives_net = taking_gives (arrival links hop) wire.net net its_net;
          },
          omega (arith, at),
        )

    -- ---- a net of the node itself

    -- a net is an input, a latch, or has its gate in the order
    pub own_given : (node net : ℕ) → net < planned.ordered.flat.inputs + length planned.ordered.flat.cells → home planned net ≡ node
        → (is_source planned node net ≡ true) ⊎ ((giver : Giver node net) × (giver.entry.moment ≤ 3 * lead planned node net))
    own_given node net within here =
        let inputs = planned.ordered.flat.inputs in
        let cells = planned.ordered.flat.cells in
        let own : eqb (home planned net) node ≡ true = eq-eqb (home planned net) node here in
        let source = λ (is : (nat_lt net inputs || is_latch (driving_cell planned.ordered.flat net)) ≡ true). and_from (eqb (home planned net) node) (nat_lt net inputs || is_latch (driving_cell planned.ordered.flat net)) own is in
        let if_input = λ (input : nat_lt net inputs ≡ true). inl (source (or_left (nat_lt net inputs) (is_latch (driving_cell planned.ordered.flat net)) input)) in
        let if_cell = λ (no_input : nat_lt net inputs ≡ false).
        let driven : inputs ≤ net = ltb-false net inputs no_input in
        let cell : driving_cell planned.ordered.flat net ≡ slice_get cells (net - inputs) = ap (λ (input : Bool). if input then None else slice_get cells (net - inputs)) no_input in
        let if_latch = λ (latch : is_latch (slice_get cells (net - inputs)) ≡ true). inl (source (or_right (nat_lt net inputs) (is_latch (driving_cell planned.ordered.flat net)) (ap is_latch cell ∙ latch))) in
        let if_gate = λ (gate : is_gate (slice_get cells (net - inputs)) ≡ true).
        let at = among_at planned.ordered.order (net - inputs) (sym (planned.ordered.is_order.each (net - inputs)) ∙ gate) in
        let is : slice_get planned.ordered.order at.0 ≡ Some (net - inputs) = slice_get-get_or planned.ordered.order at.0 0 at.1 ∙ ap Some at.2 in
        let whole : (is_source planned node net ≡ true) ⊎ ((giver : Giver node net) × (giver.entry.moment ≤ 3 * lead planned node net)) = inr (subst (λ (one : ℕ). (giver : Giver one net) × (giver.entry.moment ≤ 3 * lead planned one net)) here (gate_gives at.0 net driven is)) in whole in
        ⊎_elim if_latch if_gate (or_cases (is_latch (slice_get cells (net - inputs))) (is_gate (slice_get cells (net - inputs))) (gate_or_latch cells (net - inputs) (omega (arith, within, driven)))) in
        ⊎_elim if_input if_cell (cases_Bool (nat_lt net inputs))
