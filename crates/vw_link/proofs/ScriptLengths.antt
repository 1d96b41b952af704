-- A job's script for a link has a word in each clock for each hop that goes over the link.
use Rattle.std.proofs.Common.{◌≡◌, ◌<◌, ◌≤◌, ◌+◌, ◌*◌, ◌%◌, ◌&&◌, ◌∷◌, ℕ, zero, suc, Bool, true, false, List, [], length, map, drop, get_or, mul_comm, eqb, slice_get, Some, ap, refl, sym, subst, ◌∙◌, eqb-true, eq-eqb, true≢false, Option, None, arith}
use Rattle.std.specs.List.{count_by, filter, sum_by}
use Rattle.std.proofs.lemmas.Bool.{and_from, and_parts}
use Rattle.std.specs.Prelude.{unwrap_or}
use Rattle.std.proofs.lemmas.List.{length-append, length-map}
use Rattle.std.proofs.lemmas.List.Sums.{count_by-le-length, length-filter, sum_by-cons}
use Rattle.std.proofs.lemmas.Option.{get_or_from_slice_get, slice_get-get_or, slice_get_within}
use Rattle.vw_net.specs.Steps.Bits.{one_if}
use Rattle.vw_plan.specs.declared.link.Link.{Link}
use Rattle.vw_plan.specs.declared.wire.Hop.{Hop}
use Rattle.vw_plan.specs.declared.wire.Wire.{Wire}
use Rattle.vw_plan.specs.HopCounts.{hop_count}
use Rattle.vw_plan.specs.PlannedBoard.{PlannedBoard}
use Rattle.vw_plan.specs.Sound.{IsRouted, IsSound, has_pin}
use Rattle.vw_plan.specs.Links.{HaveSameEnds}
use Rattle.vw_plan.proofs.LinkDelays.{one_number}
use Rattle.vw_net.proofs.CountsOverLists.{count_append, count_cons, count_sorted}
use Rattle.vw_ready.specs.Links.{joins, link_number}
use Rattle.vw_ready.proofs.FirstPlaces.{LeadsTo}
use Rattle.vw_ready.proofs.LinkPlaces.{link_leads}
use Rattle.vw_prog.specs.declared.entry.Entry.{Entry}
use Rattle.vw_prog.specs.declared.job.Job.{Job}
use Rattle.vw_prog.specs.Scripts.{planned_of, script, script_before, word_at}
use Rattle.vw_prog.specs.Timetable.{comes_before, entries, gate_entries, gate_entry, hop_entries, is_sending, is_sent, link_of_hop, passes, sent_entry, taken_entry, timetable, wire_entries}
use Rattle.vw_prog.proofs.LinkPasses.{found_link, place_carries, turn_of}
use Rattle.vw_link.specs.Counts.{hops_over, over}

same_from : (one other : Bool) → (one ≡ true → other ≡ true) → (other ≡ true → one ≡ true) → one_if one ≡ one_if other
same_from true true leads back = refl
same_from true false leads back = absurd (true≢false (sym (leads refl)))
same_from false true leads back = absurd (true≢false (sym (back refl)))
same_from false false leads back = refl

-- the hops of wires that go over a link are no more than all hops
pub over_few : (link : Link) (wires : List Wire) → hops_over link wires ≤ hop_count wires
over_few link [] = omega arith
over_few link (wire ∷ wires) =
    omega (
      arith,
      sum_by-cons (λ (one : Wire). length (filter (over link) one.hops)) wire wires,
      sum_by-cons (λ (one : Wire). length one.hops) wire wires,
      length-filter (over link) wire.hops,
      count_by-le-length (over link) wire.hops,
      over_few link wires,
    )

-- those of one wire are among those of the wires from it on
pub one_within : (link : Link) (wires : List Wire) (place : ℕ) (none : Wire) → place < length wires → length (filter (over link) (get_or wires place none).hops) ≤ hops_over link (drop place wires)
one_within link [] place none below = absurd (omega (arith, below))
one_within link (wire ∷ wires) zero none below = omega (arith, sum_by-cons (λ (one : Wire). length (filter (over link) one.hops)) wire wires)
one_within link (wire ∷ wires) (suc place) none below = one_within link wires place none (omega (arith, below))

module _ (planned : PlannedBoard) (sound : IsSound planned) (number : ℕ) (link : Link) (there : slice_get planned.board.links number ≡ Some link) where
  abbrev links : List Link
  links = planned.board.links

  -- the place of a hop is that of a link
  place_within : (hop : Hop) → has_pin links hop ≡ true → link_of_hop links hop < length links
  place_within hop has = by (link_number links hop.from hop.to) (link_leads links hop.from hop.to) where
    by : (found : Option ℕ) → LeadsTo (joins hop.from hop.to) links found → unwrap_or found 0 < length links
    by None leads = absurd (found_link hop links has leads)
    by (Some place) leads = leads.0

  -- and of the link that it goes over
  its_place : (hop : Hop) → has_pin links hop ≡ true → over link hop ≡ true → link_of_hop links hop ≡ number
  its_place hop has goes =
      let other = get_or links (link_of_hop links hop) link in
      let at : slice_get links (link_of_hop links hop) ≡ Some other = slice_get-get_or links (link_of_hop links hop) link (place_within hop has) in
      let own = and_parts (eqb link.from hop.from) (eqb link.to hop.to) goes in
      let its = and_parts (eqb other.from hop.from) (eqb other.to hop.to) (place_carries links hop other has at) in
      let ends : HaveSameEnds link other = (eqb-true link.from hop.from own.0 ∙ sym (eqb-true other.from hop.from its.0), eqb-true link.to hop.to own.1 ∙ sym (eqb-true other.to hop.to its.1)) in
      sym (one_number planned.board number (link_of_hop links hop) link other there at ends)

  sent_over : (net : ℕ) (hop : Hop) → has_pin links hop ≡ true → one_if (is_sent number (sent_entry links net hop)) ≡ one_if (over link hop)
  sent_over net hop has = same_from (is_sent number (sent_entry links net hop)) (over link hop)
      (λ sent. place_carries links hop link has (ap (slice_get links) (eqb-true (link_of_hop links hop) number (and_parts (is_sending (sent_entry links net hop)) (eqb (link_of_hop links hop) number) sent).1) ∙ there))
      (λ goes. let turn : (3 * hop.at + 1) % 3 ≡ 1 = omega arith in and_from (is_sending (sent_entry links net hop)) (eqb (link_of_hop links hop) number) (eq-eqb ((3 * hop.at + 1) % 3) 1 turn) (eq-eqb (link_of_hop links hop) number (its_place hop has goes)))

  not_sent : (entry : Entry) → is_sending entry ≡ false → one_if (is_sent number entry) ≡ 0
  not_sent entry apart = ap (λ (kind : Bool). one_if (kind && eqb entry.link number)) apart

  gates_none : (from : ℕ) (numbers : List ℕ) → count_by (is_sent number) (gate_entries planned from numbers) ≡ 0
  gates_none from [] = refl
  gates_none from (gate ∷ gates) =
      let entry = gate_entry planned from gate in
      let turn : entry.moment % 3 ≡ 0 = omega arith in
      omega (arith, count_cons (is_sent number) entry (gate_entries planned (suc from) gates), gates_none (suc from) gates, not_sent entry (turn_of (entry.moment % 3) 0 1 turn (omega arith)))

  in_hops : (net : ℕ) (hops : List Hop) → ((place : ℕ) (hop : Hop) → slice_get hops place ≡ Some hop → has_pin links hop ≡ true) → count_by (is_sent number) (hop_entries links net hops) ≡ count_by (over link) hops
  in_hops net [] pins = refl
  in_hops net (hop ∷ hops) pins =
      let sent = sent_entry links net hop in
      let taken = taken_entry links net hop in
      let turn : taken.moment % 3 ≡ 2 = omega arith in
      omega (
        arith,
        count_cons (is_sent number) sent (taken ∷ hop_entries links net hops),
        count_cons (is_sent number) taken (hop_entries links net hops),
        count_cons (over link) hop hops,
        sent_over net hop (pins 0 hop refl),
        not_sent taken (turn_of (taken.moment % 3) 2 1 turn (omega arith)),
        in_hops net hops (λ place other is. pins (suc place) other is),
      )

  in_wires : (wires : List Wire) → ((place : ℕ) (wire : Wire) → slice_get wires place ≡ Some wire → (at_hop : ℕ) (hop : Hop) → slice_get wire.hops at_hop ≡ Some hop → has_pin links hop ≡ true) → count_by (is_sent number) (wire_entries links wires) ≡ hops_over link wires
  in_wires [] pins = refl
  in_wires (wire ∷ wires) pins =
      omega (
        arith,
        count_append (is_sent number) (hop_entries links wire.net wire.hops) (wire_entries links wires),
        sum_by-cons (λ (one : Wire). length (filter (over link) one.hops)) wire wires,
        length-filter (over link) wire.hops,
        in_hops wire.net wire.hops (pins 0 wire refl),
        in_wires wires (λ place other is. pins (suc place) other is),
      )

  its_pin : (place : ℕ) (wire : Wire) → slice_get planned.plan.wires place ≡ Some wire → (at_hop : ℕ) (hop : Hop) → slice_get wire.hops at_hop ≡ Some hop → has_pin links hop ≡ true
  its_pin place wire is at_hop hop here =
      let routed : IsRouted planned wire = subst (IsRouted planned) (get_or_from_slice_get planned.plan.wires place wire wire is) (sound.routes place wire (slice_get_within planned.plan.wires place wire is)) in
      subst (λ (one : Hop). has_pin links one ≡ true) (get_or_from_slice_get wire.hops at_hop hop hop here) (routed.pins at_hop hop (slice_get_within wire.hops at_hop hop here))

  pub passes_over : length (passes planned number) ≡ hops_over link planned.plan.wires
  unfolding timetable
  passes_over =
      omega (
        arith,
        length-filter (is_sent number) (timetable planned),
        count_sorted comes_before (is_sent number) (entries planned),
        count_append (is_sent number) (gate_entries planned 0 planned.ordered.order) (wire_entries links planned.plan.wires),
        gates_none 0 planned.ordered.order,
        in_wires planned.plan.wires its_pin,
      )

module _ (job : Job) (number : ℕ) where
  words_of_clock : (clock : ℕ) → length (map (word_at job clock) (passes (planned_of job) number)) ≡ length (passes (planned_of job) number)
  words_of_clock clock = length-map (passes (planned_of job) number) (word_at job clock)

  words_are : (clocks : ℕ) → length (script_before job number clocks) ≡ clocks * length (passes (planned_of job) number)
  words_are zero = let none : 0 * length (passes (planned_of job) number) ≡ 0 = grind arith in sym none
  words_are (suc clocks) =
      let opened : suc clocks * length (passes (planned_of job) number) ≡ clocks * length (passes (planned_of job) number) + length (passes (planned_of job) number) = grind arith in
      omega (
        arith,
        length-append (script_before job number clocks) (map (word_at job clocks) (passes (planned_of job) number)),
        words_of_clock clocks,
        words_are clocks,
        opened,
      )

  -- one for each hop over the link, in each clock
  pub script_is : (link : Link) → slice_get job.checked.board.links number ≡ Some link → length (script job number) ≡ length job.rows * hops_over link job.checked.plan.wires
  unfolding script
  script_is link there = words_are (length job.rows) ∙ ap (λ (passing : ℕ). length job.rows * passing) (passes_over (planned_of job) job.checked.sound number link there)

-- the number of hops that go over a link, times the number of clocks
pub counted : (job : Job) (number : ℕ) (listed : List Link) (wires : List Wire) (none : Link) (hops clocks : ℕ) → listed ≡ job.checked.board.links → wires ≡ job.checked.plan.wires → number < length job.checked.board.links
    → hops ≡ hops_over (get_or listed number none) wires → clocks ≡ length job.rows → hops * clocks ≡ length (script job number)
counted job number listed wires none hops clocks same_links same_wires below over_is clocks_are =
    let link = get_or job.checked.board.links number none in
    let there : slice_get job.checked.board.links number ≡ Some link = slice_get-get_or job.checked.board.links number none below in
    let is : hops ≡ hops_over link job.checked.plan.wires = over_is ∙ (λ i. hops_over (get_or (same_links i) number none) (same_wires i)) in
    (λ i. is i * clocks_are i) ∙ mul_comm (hops_over link job.checked.plan.wires) (length job.rows) ∙ sym (script_is job number link there)
