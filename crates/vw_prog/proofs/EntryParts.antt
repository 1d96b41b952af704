-- What each entry of a timetable has: a net of the netlist; a gate, where it evaluates one; and a link of its node, where it
-- sends or takes.
use Rattle.std.proofs.Common.{◌≡◌, ◌<◌, ◌+◌, ◌%◌, ℕ, suc, true, List, [], ◌∷◌, length, eqb, get_or, slice_get, Option, Some, None, sym, ◌∙◌, subst, refl, true≢false, eqb-true, eq-eqb, arith}
use Rattle.std.specs.List.{AllByRecursion}
use Rattle.std.specs.Prelude.{unwrap_or}
use Rattle.std.proofs.lemmas.Bool.{and_parts, or_left, or_right}
use Rattle.std.proofs.lemmas.Option.{get_or_from_slice_get, slice_get-get_or, slice_get_within}
use Rattle.vw_net.specs.Order.{is_among, is_gate}
use Rattle.vw_net.proofs.Orders.{gate_within}
use Rattle.vw_plan.specs.declared.link.Link.{Link}
use Rattle.vw_plan.specs.declared.wire.Hop.{Hop}
use Rattle.vw_plan.specs.declared.wire.Wire.{Wire}
use Rattle.vw_plan.specs.PlannedBoard.{PlannedBoard}
use Rattle.vw_plan.specs.Sound.{IsRouted, IsSound, has_pin}
use Rattle.vw_ready.specs.Links.{joins, link_number}
use Rattle.vw_ready.proofs.FirstPlaces.{LeadsTo}
use Rattle.vw_ready.proofs.LinkPlaces.{link_leads}
use Rattle.vw_prog.specs.declared.entry.Entry.{Entry}
use Rattle.vw_prog.specs.Timetable.{comes_before, entries, entries_at, gate_entries, gate_entry, hop_entries, is_at, is_evaluating, is_sending, is_taking, link_of_hop, sent_entry, taken_entry, timetable, wire_entries}
use Rattle.vw_prog.proofs.LinkPasses.{found_link, place_carries, turn_of}
use Rattle.vw_net.proofs.ListParts.{all_append, all_at, all_flat_map}
use Rattle.vw_plan.proofs.NeededWires.{wires_fine}
use Rattle.vw_net.proofs.SortedLists.{all_filter, all_sorted}

-- the link at the place of a hop is there
place_there : (links : List Link) (hop : Hop) → has_pin links hop ≡ true → (link : Link) × (slice_get links (link_of_hop links hop) ≡ Some link)
place_there links hop pin = by (link_number links hop.from hop.to) (link_leads links hop.from hop.to) where
  by : (found : Option ℕ) → LeadsTo (joins hop.from hop.to) links found → (link : Link) × (slice_get links (unwrap_or found 0) ≡ Some link)
  by None leads = absurd (found_link hop links pin leads)
  by (Some place) leads = let none : Link = record { from = 0; to = 0; width = 0; delay = 0 } in (get_or links place none, slice_get-get_or links place none leads.0)

module _ (planned : PlannedBoard) (sound : IsSound planned) where
  abbrev links : List Link
  links = planned.board.links

  pub record HasParts (entry : Entry) : Type 0 where
    pub leaves : is_sending entry ≡ true → (link : Link) × ((slice_get links entry.link ≡ Some link) × (link.from ≡ entry.node))
    pub reaches : is_taking entry ≡ true → (link : Link) × ((slice_get links entry.link ≡ Some link) × (link.to ≡ entry.node))
    pub net : entry.net < planned.ordered.flat.inputs + length planned.ordered.flat.cells
    pub gate : is_evaluating entry ≡ true
        → (number : ℕ) × ((entry.net ≡ planned.ordered.flat.inputs + number) × (is_gate (slice_get planned.ordered.flat.cells number) ≡ true))

  gate_has : (place number : ℕ) → is_gate (slice_get planned.ordered.flat.cells number) ≡ true → HasParts (gate_entry planned place number)
  gate_has place number gate =
      let entry = gate_entry planned place number in
      let turn : entry.moment % 3 ≡ 0 = omega arith in
      record {
        leaves = λ is. absurd (true≢false (sym is ∙ turn_of (entry.moment % 3) 0 1 turn (omega arith)));
        reaches = λ is. absurd (true≢false (sym is ∙ turn_of (entry.moment % 3) 0 2 turn (omega arith)));
        net = omega (arith, gate_within planned.ordered.flat.cells number gate);
        gate = λ is. (number, (refl, gate));
      }

  sent_has : (net : ℕ) (hop : Hop) → net < planned.ordered.flat.inputs + length planned.ordered.flat.cells → has_pin links hop ≡ true
      → HasParts (sent_entry links net hop)
  sent_has net hop within pin =
      let entry = sent_entry links net hop in
      let turn : entry.moment % 3 ≡ 1 = omega arith in
      let there = place_there links hop pin in
      let ends = and_parts (eqb there.0.from hop.from) (eqb there.0.to hop.to) (place_carries links hop there.0 pin there.1) in
      record {
        leaves = λ is. (there.0, (there.1, eqb-true there.0.from hop.from ends.0));
        reaches = λ is. absurd (true≢false (sym is ∙ turn_of (entry.moment % 3) 1 2 turn (omega arith)));
        net = within;
        gate = λ is. absurd (true≢false (sym is ∙ turn_of (entry.moment % 3) 1 0 turn (omega arith)));
      }

  taken_has : (net : ℕ) (hop : Hop) → net < planned.ordered.flat.inputs + length planned.ordered.flat.cells → has_pin links hop ≡ true
      → HasParts (taken_entry links net hop)
  taken_has net hop within pin =
      let entry = taken_entry links net hop in
      let turn : entry.moment % 3 ≡ 2 = omega arith in
      let there = place_there links hop pin in
      let ends = and_parts (eqb there.0.from hop.from) (eqb there.0.to hop.to) (place_carries links hop there.0 pin there.1) in
      record {
        leaves = λ is. absurd (true≢false (sym is ∙ turn_of (entry.moment % 3) 2 1 turn (omega arith)));
        reaches = λ is. (there.0, (there.1, eqb-true there.0.to hop.to ends.1));
        net = within;
        gate = λ is. absurd (true≢false (sym is ∙ turn_of (entry.moment % 3) 2 0 turn (omega arith)));
      }

  gates_have : (from : ℕ) (numbers : List ℕ)
      → ((number : ℕ) → is_among numbers number ≡ true → is_gate (slice_get planned.ordered.flat.cells number) ≡ true)
      → AllByRecursion HasParts (gate_entries planned from numbers)
  gates_have from [] gates = tt
  gates_have from (number ∷ numbers) gates =
      (gate_has from number (gates number (or_left (eqb number number) (is_among numbers number) (eq-eqb number number refl))), gates_have (suc from) numbers (λ other among. gates other (or_right (eqb number other) (is_among numbers other) among)))

  net_within : (at : ℕ) (wire : Wire) → slice_get planned.plan.wires at ≡ Some wire → wire.net < planned.ordered.flat.inputs + length planned.ordered.flat.cells
  net_within at wire is = subst (λ (one : Wire). one.net < planned.ordered.flat.inputs + length planned.ordered.flat.cells) (get_or_from_slice_get planned.plan.wires at wire wire is) (wires_fine planned sound at wire (slice_get_within planned.plan.wires at wire is))

  its_pin : (at : ℕ) (wire : Wire) → slice_get planned.plan.wires at ≡ Some wire → (place : ℕ) (hop : Hop)
      → slice_get wire.hops place ≡ Some hop → has_pin links hop ≡ true
  its_pin at wire is place hop here =
      let routed : IsRouted planned wire = subst (IsRouted planned) (get_or_from_slice_get planned.plan.wires at wire wire is) (sound.routes at wire (slice_get_within planned.plan.wires at wire is)) in
      subst (λ (one : Hop). has_pin links one ≡ true) (get_or_from_slice_get wire.hops place hop hop here) (routed.pins place hop (slice_get_within wire.hops place hop here))

  all_have : AllByRecursion HasParts (entries planned)
  all_have =
      all_append HasParts (gate_entries planned 0 planned.ordered.order) (wire_entries links planned.plan.wires) (gates_have 0 planned.ordered.order (λ number among. planned.ordered.is_order.each number ∙ among))
      (all_flat_map HasParts (λ (wire : Wire). hop_entries links wire.net wire.hops) planned.plan.wires (λ at wire is.
      all_flat_map HasParts (λ (hop : Hop). sent_entry links wire.net hop ∷ taken_entry links wire.net hop ∷ []) wire.hops (λ place hop here.
      (sent_has wire.net hop (net_within at wire is) (its_pin at wire is place hop here), (taken_has wire.net hop (net_within at wire is) (its_pin at wire is place hop here), tt)))))

  pub entry_has : (node number : ℕ) (entry : Entry) → slice_get (entries_at node (timetable planned)) number ≡ Some entry → HasParts entry
  unfolding timetable
  entry_has node number entry is = all_at HasParts (entries_at node (timetable planned)) number entry (all_filter comes_before HasParts (is_at node) (timetable planned) (all_sorted comes_before HasParts (entries planned) all_have)) is
