-- In some microcycles no more words are sent over a link than it has pins in them.
use Rattle.std.proofs.Common.{◌≡◌, ◌<◌, ◌≤◌, ◌+◌, ◌-◌, ◌*◌, ◌/◌, ◌%◌, ◌&&◌, ◌∷◌, ℕ, suc, Bool, true, false, List, [], eqb, nat_lt, slice_get, ap, refl, sym, subst, ◌∙◌, true≢false, eqb-true, eq-eqb, lt-ltb, Some, arith}
use Rattle.std.specs.List.{AllByRecursion, count_by, flat_map}
use Rattle.std.proofs.lemmas.Bool.{and_from, and_parts, ltb-true}
use Rattle.std.proofs.lemmas.Option.{get_or_from_slice_get, slice_get_within}
use Rattle.vw_net.specs.Steps.Bits.{one_if}
use Rattle.vw_plan.specs.declared.link.Link.{Link}
use Rattle.vw_plan.specs.declared.wire.Hop.{Hop}
use Rattle.vw_plan.specs.declared.wire.Wire.{Wire}
use Rattle.vw_plan.specs.Lead.{carries}
use Rattle.vw_plan.specs.PlannedBoard.{PlannedBoard}
use Rattle.vw_plan.specs.Sound.{IsRouted, IsSound, has_pin, share_pin}
use Rattle.vw_plan.proofs.HopLinks.{hop_link, one_link}
use Rattle.vw_net.proofs.CountsOverLists.{count_append, count_cons, count_le, count_le_all, count_sorted}
use Rattle.vw_plan.proofs.OneHopAPin.{one_user}
use Rattle.vw_prog.specs.declared.entry.Entry.{Entry}
use Rattle.vw_prog.specs.Timetable.{comes_before, entries, gate_entries, gate_entry, hop_entries, is_sending, is_sent, link_of_hop, sent_entry, taken_entry, timetable, wire_entries}
use Rattle.vw_prog.proofs.LinkPasses.{place_carries, turn_of}
use Rattle.vw_net.proofs.ListParts.{all_append, all_flat_map}
use Rattle.vw_net.proofs.SortedLists.{all_sorted}
use Rattle.vw_world.proofs.Spans.{count_numbers}

le_from : (one other : Bool) → (one ≡ true → other ≡ true) → one_if one ≤ one_if other
le_from true other leads = omega (arith, ap one_if (leads refl))
le_from false other leads = omega arith

module _ (planned : PlannedBoard) (sound : IsSound planned) (number : ℕ) (link : Link) (there : slice_get planned.board.links number ≡ Some link) where
  abbrev links : List Link
  links = planned.board.links

  its_link : (hop : Hop) → has_pin links hop ≡ true → link_of_hop links hop ≡ number → carries hop link ≡ true
  its_link hop pin at = place_carries links hop link pin (ap (slice_get links) at ∙ there)

  -- the pin of a hop is one of its link
  pin_within : (hop : Hop) → has_pin links hop ≡ true → carries hop link ≡ true → hop.pin < link.width
  pin_within hop pin carried =
      let own = hop_link planned.board hop pin in
      let place : number ≡ own.number = one_link planned.board hop own number link there carried in
      let one : Some link ≡ Some own.link = sym there ∙ ap (slice_get links) place ∙ own.there in
      let equal : link ≡ own.link = cc one in
      omega (arith, own.pin, ap (λ (l : Link). l.width) equal)

  -- each hop goes over a pin that its link has; and so does each of some wires
  abbrev HavePins : List Hop → Type 0
  HavePins hops = (place : ℕ) (hop : Hop) → slice_get hops place ≡ Some hop → has_pin links hop ≡ true

  abbrev WiresHavePins : List Wire → Type 0
  WiresHavePins wires = (place : ℕ) (wire : Wire) → slice_get wires place ≡ Some wire → HavePins wire.hops

  wires_have_pins : WiresHavePins planned.plan.wires
  wires_have_pins place wire is at_hop hop here =
      let same_wire = get_or_from_slice_get planned.plan.wires place wire wire is in
      let routed : IsRouted planned wire = subst (IsRouted planned) same_wire (sound.routes place wire (slice_get_within planned.plan.wires place wire is)) in
      let same_hop = get_or_from_slice_get wire.hops at_hop hop hop here in
      subst (λ (one : Hop). has_pin links one ≡ true) same_hop (routed.pins at_hop hop (slice_get_within wire.hops at_hop hop here))

  -- ---- one word a pin and microcycle

  module _ (pin at : ℕ) where
    abbrev the_hop : Hop
    the_hop = record { from = link.from; to = link.to; pin = pin; at = at }

    abbrev pub is_slot : Entry → Bool
    is_slot entry = is_sent number entry && (eqb entry.place pin && eqb entry.moment (3 * at + 1))

    slot_of : (net : ℕ) (hop : Hop) → has_pin links hop ≡ true → one_if (is_slot (sent_entry links net hop)) ≤ one_if (share_pin the_hop hop)
    slot_of net hop has = le_from (is_slot (sent_entry links net hop)) (share_pin the_hop hop) shares where
      shares : is_slot (sent_entry links net hop) ≡ true → share_pin the_hop hop ≡ true
      shares is =
          let number_of = link_of_hop links hop in
          let parts = and_parts (is_sent number (sent_entry links net hop)) (eqb hop.pin pin && eqb (3 * hop.at + 1) (3 * at + 1)) is in
          let place : number_of ≡ number = eqb-true number_of number (and_parts (is_sending (sent_entry links net hop)) (eqb number_of number) parts.0).1 in
          let ends = and_parts (eqb link.from hop.from) (eqb link.to hop.to) (its_link hop has place) in
          let slot = and_parts (eqb hop.pin pin) (eqb (3 * hop.at + 1) (3 * at + 1)) parts.1 in
          let moment : 3 * hop.at + 1 ≡ 3 * at + 1 = eqb-true (3 * hop.at + 1) (3 * at + 1) slot.1 in
          let same_pin = eq-eqb pin hop.pin (sym (eqb-true hop.pin pin slot.0)) in
          let same_time = eq-eqb at hop.at (omega (arith, moment)) in
          let same_ends = and_from (eqb link.from hop.from) (eqb link.to hop.to) ends.0 ends.1 in
          let same_slot = and_from (eqb pin hop.pin) (eqb at hop.at) same_pin same_time in
          and_from (eqb link.from hop.from && eqb link.to hop.to) (eqb pin hop.pin && eqb at hop.at) same_ends same_slot

    no_slot : (entry : Entry) → is_sending entry ≡ false → one_if (is_slot entry) ≡ 0
    no_slot entry apart = ap (λ (kind : Bool). one_if ((kind && eqb entry.link number) && (eqb entry.place pin && eqb entry.moment (3 * at + 1)))) apart

    gates_none : (from : ℕ) (numbers : List ℕ) → count_by is_slot (gate_entries planned from numbers) ≡ 0
    gates_none from [] = refl
    gates_none from (gate ∷ gates) =
        let entry = gate_entry planned from gate in
        let turn : entry.moment % 3 ≡ 0 = omega arith in
        let here = no_slot entry (turn_of (entry.moment % 3) 0 1 turn (omega arith)) in
        omega (arith, count_cons is_slot entry (gate_entries planned (suc from) gates), gates_none (suc from) gates, here)

    hops_once : (net : ℕ) (hops : List Hop) → HavePins hops → count_by is_slot (hop_entries links net hops) ≤ count_by (share_pin the_hop) hops
    hops_once net [] pins = omega arith
    hops_once net (hop ∷ hops) pins =
        let sent = sent_entry links net hop in
        let taken = taken_entry links net hop in
        let turn : taken.moment % 3 ≡ 2 = omega arith in
        omega (
          arith,
          count_cons is_slot sent (taken ∷ hop_entries links net hops),
          count_cons is_slot taken (hop_entries links net hops),
          count_cons (share_pin the_hop) hop hops,
          slot_of net hop (pins 0 hop refl),
          no_slot taken (turn_of (taken.moment % 3) 2 1 turn (omega arith)),
          hops_once net hops (λ place other is. pins (suc place) other is),
        )

    wires_once : (wires : List Wire) → WiresHavePins wires
        → count_by is_slot (wire_entries links wires) ≤ count_by (share_pin the_hop) (flat_map (λ (wire : Wire). wire.hops) wires)
    wires_once [] pins = omega arith
    wires_once (wire ∷ wires) pins =
        omega (
          arith,
          count_append is_slot (hop_entries links wire.net wire.hops) (wire_entries links wires),
          count_append (share_pin the_hop) wire.hops (flat_map (λ (one : Wire). one.hops) wires),
          hops_once wire.net wire.hops (pins 0 wire refl),
          wires_once wires (λ place other is. pins (suc place) other is),
        )

    pub slot_once : count_by is_slot (timetable planned) ≤ 1
    unfolding timetable
    slot_once =
        let gates = gate_entries planned 0 planned.ordered.order in
        let wires = wire_entries links planned.plan.wires in
        omega (
          arith,
          count_sorted comes_before is_slot (entries planned),
          count_append is_slot gates wires,
          gates_none 0 planned.ordered.order,
          wires_once planned.plan.wires wires_have_pins,
          one_user planned the_hop sound,
        )

  -- ---- the pins of a link

  abbrev IsNarrow : Entry → Type 0
  IsNarrow entry = is_sent number entry ≡ true → entry.place < link.width

  no_send_narrow : (entry : Entry) → is_sending entry ≡ false → IsNarrow entry
  no_send_narrow entry apart is = absurd (true≢false (sym (and_parts (is_sending entry) (eqb entry.link number) is).0 ∙ apart))

  gates_narrow : (from : ℕ) (numbers : List ℕ) → AllByRecursion IsNarrow (gate_entries planned from numbers)
  gates_narrow from [] = tt
  gates_narrow from (gate ∷ gates) =
      let entry = gate_entry planned from gate in
      let turn : entry.moment % 3 ≡ 0 = omega arith in
      (no_send_narrow entry (turn_of (entry.moment % 3) 0 1 turn (omega arith)), gates_narrow (suc from) gates)

  sent_narrow : (net : ℕ) (hop : Hop) → has_pin links hop ≡ true → IsNarrow (sent_entry links net hop)
  sent_narrow net hop has sent =
      let on_link = (and_parts (is_sending (sent_entry links net hop)) (eqb (link_of_hop links hop) number) sent).1 in
      pin_within hop has (its_link hop has (eqb-true (link_of_hop links hop) number on_link))

  taken_narrow : (net : ℕ) (hop : Hop) → IsNarrow (taken_entry links net hop)
  taken_narrow net hop =
      let taken = taken_entry links net hop in
      let turn : taken.moment % 3 ≡ 2 = omega arith in
      no_send_narrow taken (turn_of (taken.moment % 3) 2 1 turn (omega arith))

  hops_narrow : (net : ℕ) (hops : List Hop) → HavePins hops → AllByRecursion IsNarrow (hop_entries links net hops)
  hops_narrow net hops pins =
      let both = λ (hop : Hop). sent_entry links net hop ∷ taken_entry links net hop ∷ [] in
      all_flat_map IsNarrow both hops (λ place hop here. (sent_narrow net hop (pins place hop here), (taken_narrow net hop, tt)))

  all_narrow : AllByRecursion IsNarrow (timetable planned)
  unfolding timetable
  all_narrow =
      let wires = planned.plan.wires in
      let of_wire = λ (wire : Wire). hop_entries links wire.net wire.hops in
      let by_wires = all_flat_map IsNarrow of_wire wires (λ place wire is. hops_narrow wire.net wire.hops (wires_have_pins place wire is)) in
      let by_gates = gates_narrow 0 planned.ordered.order in
      let both = all_append IsNarrow (gate_entries planned 0 planned.ordered.order) (wire_entries links wires) by_gates by_wires in
      all_sorted comes_before IsNarrow (entries planned) both

  -- ---- in so many microcycles from one on

  module _ (from : ℕ) where
    abbrev from_on : Entry → Bool
    from_on entry = is_sent number entry && nat_lt from (entry.moment / 3 + 1)

    module _ (k : ℕ) where
      -- sent over the link in one microcycle
      abbrev in_microcycle : Entry → Bool
      in_microcycle entry = from_on entry && eqb (entry.moment / 3 - from) k

      sent_there : (entry : Entry) → in_microcycle entry ≡ true → is_sent number entry ≡ true
      sent_there entry is =
          (and_parts (is_sent number entry) (nat_lt from (entry.moment / 3 + 1)) (and_parts (from_on entry) (eqb (entry.moment / 3 - from) k) is).0).0

      -- over one pin, they are those of one slot
      in_slot : (pin : ℕ) (entry : Entry) → (in_microcycle entry && eqb entry.place pin) ≡ true → is_slot pin (from + k) entry ≡ true
      in_slot pin entry is =
          let outer = and_parts (in_microcycle entry) (eqb entry.place pin) is in
          let inner = and_parts (from_on entry) (eqb (entry.moment / 3 - from) k) outer.0 in
          let sent = and_parts (is_sent number entry) (nat_lt from (entry.moment / 3 + 1)) inner.0 in
          let turn : entry.moment % 3 ≡ 1 = eqb-true (entry.moment % 3) 1 (and_parts (is_sending entry) (eqb entry.link number) sent.0).0 in
          let late : from < entry.moment / 3 + 1 = ltb-true from (entry.moment / 3 + 1) sent.1 in
          let place : entry.moment / 3 - from ≡ k = eqb-true (entry.moment / 3 - from) k inner.1 in
          let moment : entry.moment ≡ 3 * (from + k) + 1 = omega arith in
          let at_moment = eq-eqb entry.moment (3 * (from + k) + 1) moment in
          let here = and_from (eqb entry.place pin) (eqb entry.moment (3 * (from + k) + 1)) outer.1 at_moment in
          and_from (is_sent number entry) (eqb entry.place pin && eqb entry.moment (3 * (from + k) + 1)) sent.0 here

      on_pin : (pin : ℕ) → count_by (λ entry. in_microcycle entry && eqb entry.place pin) (timetable planned) ≤ 1
      on_pin pin =
          let on_it = λ (entry : Entry). in_microcycle entry && eqb entry.place pin in
          let in_slots = λ (entry : Entry). le_from (on_it entry) (is_slot pin (from + k) entry) (in_slot pin entry) in
          let less = count_le on_it (is_slot pin (from + k)) (timetable planned) in_slots in
          omega (arith, less, slot_once pin (from + k))

      in_one : count_by in_microcycle (timetable planned) ≤ link.width
      in_one =
          let each = count_numbers in_microcycle (λ (entry : Entry). entry.place) (timetable planned) 1 link.width (λ pin below. on_pin pin) in
          let narrow = λ (entry : Entry). in_microcycle entry && nat_lt entry.place link.width in
          let all = count_le_all IsNarrow in_microcycle narrow (timetable planned) all_narrow (λ entry is_narrow.
          le_from (in_microcycle entry) (narrow entry) (λ is.
          and_from (in_microcycle entry) (nat_lt entry.place link.width) is (lt-ltb entry.place link.width (is_narrow (sent_there entry is))))) in
          omega (arith, each, all)

    pub in_span : (span : ℕ) → count_by (λ entry. from_on entry && nat_lt (entry.moment / 3 - from) span) (timetable planned) ≤ span * link.width
    in_span span = count_numbers from_on (λ (entry : Entry). entry.moment / 3 - from) (timetable planned) link.width span (λ k below. in_one k)
