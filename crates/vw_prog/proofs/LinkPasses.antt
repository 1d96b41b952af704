-- What a node sends over a link, and what it takes from one, is what passes over the link, in order.
use Rattle.std.proofs.Common.{◌≡◌, ◌≢◌, ◌≤◌, ◌+◌, ◌-◌, ◌*◌, ◌%◌, ◌&&◌, ◌||◌, ◌++◌, ℕ, suc, Bool, true, false, List, [], ◌∷◌, map, cond, eqb, nat_lt, slice_get, Option, Some, None, if◌then◌else◌, ap, ap₂, refl, sym, ◌∙◌, subst, ⊎_elim, true≢false, eqb-true, eq-eqb, arith}
use Rattle.std.specs.List.{AllByRecursion, filter, find, flat_map, list_any}
use Rattle.std.specs.declared.cmp.Ordering.{Ordering}
use Rattle.std.specs.declared.cmp.Ordering.TheVariants.{Less, Equal, Greater}
use Rattle.std.proofs.lemmas.Cmp.{nat_cmp_total, tied_itself}
use Rattle.std.proofs.lemmas.Grind.{common_steps}
use Rattle.std.specs.Prelude.{unwrap_or}
use Rattle.std.proofs.lemmas.Bool.{and_parts, cases_Bool, ne_eqb}
use Rattle.std.proofs.lemmas.List.{map-append}
use Rattle.std.proofs.lemmas.List.Elements.{filter-append}
use Rattle.std.proofs.lemmas.Option.{get_or_from_slice_get, slice_get_within}
use Rattle.std.specs.Ordering.{is_lt, nat_cmp, ordering_then}
use Rattle.vw_plan.specs.declared.link.Link.{Link}
use Rattle.vw_plan.specs.declared.wire.Hop.{Hop}
use Rattle.vw_plan.specs.declared.wire.Wire.{Wire}
use Rattle.vw_plan.specs.Lead.{arrival, carries}
use Rattle.vw_plan.specs.PlannedBoard.{PlannedBoard}
use Rattle.vw_plan.specs.Sound.{IsRouted, IsSound, has_pin}
use Rattle.vw_plan.proofs.LinkDelays.{arrives}
use Rattle.vw_ready.specs.Links.{joins, link_number}
use Rattle.vw_ready.proofs.FirstPlaces.{LeadsTo}
use Rattle.vw_ready.proofs.LinkPlaces.{link_leads}
use Rattle.vw_prog.specs.declared.entry.Entry.{Entry}
use Rattle.vw_net.specs.Sorting.{sorted}
use Rattle.vw_prog.specs.Timetable.{comes_before, entries, entries_at, gate_entries, gate_entry, hop_entries, is_at, is_sending, is_sent, is_taken, is_taking, link_of_hop, passes, sent_entry, taken_entry, taken_from, timetable, wire_entries}
use Rattle.vw_prog.proofs.EntryOrder.{is_order}
use Rattle.vw_net.proofs.ListParts.{all_append, all_flat_map}
use Rattle.vw_net.proofs.SortedLists.{all_sorted, filter_sorted, sorted_map}

filter_filter : {X : Type 0} (test part : X → Bool) (xs : List X) → AllByRecursion (λ x. test x ≡ true → part x ≡ true) xs
    → filter test (filter part xs) ≡ filter test xs
filter_filter test part [] all = refl
filter_filter test part (x ∷ xs) all =
    let rest = filter_filter test part xs all.1 in
    let if_passes = λ (is : test x ≡ true). let whole : filter test (filter part (x ∷ xs)) ≡ filter test (x ∷ xs) = rw (all.0 is, is) (ap (λ (list : List _). x ∷ list) rest) in whole in
    let if_not = λ (no : test x ≡ false).
    let whole : filter test (filter part (x ∷ xs)) ≡ filter test (x ∷ xs) = (elim (part x) as (λ kept. filter test (cond kept (x ∷ filter part xs) (filter part xs)) ≡ cond (test x) (x ∷ filter test xs) (filter test xs)) [
      | true ↦ ap (λ (own : Bool). cond own (x ∷ filter test (filter part xs)) (filter test (filter part xs))) no ∙ rest ∙ sym (ap (λ (own : Bool). cond own (x ∷ filter test xs) (filter test xs)) no)
      | false ↦ rest ∙ sym (ap (λ (own : Bool). cond own (x ∷ filter test xs) (filter test xs)) no)
    ]) in whole in
    ⊎_elim if_passes if_not (cases_Bool (test x))

pub found_link : (hop : Hop) (links : List Link) → list_any (λ (link : Link). carries hop link && nat_lt hop.pin link.width) links ≡ true
    → find (carries hop) links ≡ None → ⊥
found_link hop [] any none = true≢false (sym any)
found_link hop (link ∷ links) any none =
    let if_carries = λ (is : carries hop link ≡ true). let first : Some link ≡ None = ap (λ (own : Bool). if own then Some link else find (carries hop) links) (sym is) ∙ none in let no : ⊥ = cc first in no in
    let if_not = λ (no : carries hop link ≡ false).
    let later : list_any (λ (one : Link). carries hop one && nat_lt hop.pin one.width) links ≡ true = ap (λ (own : Bool). (own && nat_lt hop.pin link.width) || list_any (λ (one : Link). carries hop one && nat_lt hop.pin one.width) links) (sym no) ∙ any in
    found_link hop links later (ap (λ (own : Bool). if own then Some link else find (carries hop) links) (sym no) ∙ none) in
    ⊎_elim if_carries if_not (cases_Bool (carries hop link))

find_passes : (test : Link → Bool) (links : List Link) (link : Link) → find test links ≡ Some link → test link ≡ true
find_passes test [] link is = cc
find_passes test (first ∷ links) link is =
    let if_here = λ (here : test first ≡ true). let same : Some first ≡ Some link = ap (λ (own : Bool). if own then Some first else find test links) (sym here) ∙ is in let one : first ≡ link = cc same in ap test (sym one) ∙ here in
    let if_later = λ (no : test first ≡ false). find_passes test links link (ap (λ (own : Bool). if own then Some first else find test links) (sym no) ∙ is) in
    ⊎_elim if_here if_later (cases_Bool (test first))

-- the link at the place of a hop carries it
pub place_carries : (links : List Link) (hop : Hop) (link : Link) → has_pin links hop ≡ true
    → slice_get links (link_of_hop links hop) ≡ Some link → carries hop link ≡ true
place_carries links hop link pin is = by (link_number links hop.from hop.to) (link_leads links hop.from hop.to) is where
  by : (found : Option ℕ) → LeadsTo (joins hop.from hop.to) links found → slice_get links (unwrap_or found 0) ≡ Some link → carries hop link ≡ true
  by None leads there = absurd (found_link hop links pin leads)
  by (Some place) leads there = find_passes (carries hop) links link (sym leads.1 ∙ there)

pub turn_of : (rest own number : ℕ) → rest ≡ own → own ≢ number → eqb rest number ≡ false
turn_of rest own number is apart = ne_eqb rest number (λ same. apart (sym is ∙ same))

-- ---- the order of entries that all come so much later, at another node

nat_cmp_shift : (a b k : ℕ) → nat_cmp (a + k) (b + k) ≡ nat_cmp a b
nat_cmp_shift a b k = ap₂ (λ (less same : Bool). cond less Less (cond same Equal Greater)) (grind (arith, common_steps)) (grind (arith, common_steps))

module _ (planned : PlannedBoard) (sound : IsSound planned) (number : ℕ) (link : Link) (there : slice_get planned.board.links number ≡ Some link) where
  abbrev links : List Link
  links = planned.board.links

  -- the entry that takes what an entry sends
  abbrev pub later : Entry → Entry
  later = taken_from link

  keeps_order : (one other : Entry) → one.node ≡ link.from → other.node ≡ link.from → comes_before (later one) (later other) ≡ comes_before one other
  keeps_order one other from also =
      let moments : nat_cmp (one.moment + 1 + 3 * (link.delay - 1)) (other.moment + 1 + 3 * (link.delay - 1)) ≡ nat_cmp one.moment other.moment =
      let k = 1 + 3 * (link.delay - 1) in
      let first : one.moment + 1 + 3 * (link.delay - 1) ≡ one.moment + k = omega arith in
      let second : other.moment + 1 + 3 * (link.delay - 1) ≡ other.moment + k = omega arith in
      ap₂ nat_cmp first second ∙ nat_cmp_shift one.moment other.moment k in
      let nodes : nat_cmp link.to link.to ≡ nat_cmp one.node other.node = tied_itself nat_cmp_total link.to ∙ sym (ap₂ nat_cmp from also ∙ tied_itself nat_cmp_total link.from) in
      ap₂ (λ (first fourth : Ordering). is_lt (ordering_then first (ordering_then (nat_cmp one.link other.link) (ordering_then (nat_cmp one.place other.place) (ordering_then fourth (nat_cmp one.net other.net)))))) moments nodes

  -- ---- each entry

  abbrev SendsFrom : Entry → Type 0
  SendsFrom entry = is_sent number entry ≡ true → is_at link.from entry ≡ true

  abbrev TakesAt : Entry → Type 0
  TakesAt entry = is_taken number entry ≡ true → is_at link.to entry ≡ true

  its_link : (hop : Hop) → has_pin links hop ≡ true → link_of_hop links hop ≡ number → carries hop link ≡ true
  its_link hop pin at = place_carries links hop link pin (ap (slice_get links) at ∙ there)

  gate_no_send : (place gate : ℕ) → is_sending (gate_entry planned place gate) ≡ false
  gate_no_send place gate = let turn : (gate_entry planned place gate).moment % 3 ≡ 0 = omega arith in turn_of ((gate_entry planned place gate).moment % 3) 0 1 turn (omega arith)

  gate_no_take : (place gate : ℕ) → is_taking (gate_entry planned place gate) ≡ false
  gate_no_take place gate = let turn : (gate_entry planned place gate).moment % 3 ≡ 0 = omega arith in turn_of ((gate_entry planned place gate).moment % 3) 0 2 turn (omega arith)

  -- those of a hop
  module _ (net : ℕ) (hop : Hop) (pin : has_pin links hop ≡ true) where
    abbrev sent : Entry
    sent = sent_entry links net hop

    abbrev taken : Entry
    taken = taken_entry links net hop

    sent_sends : is_sending sent ≡ true
    sent_sends = let turn : sent.moment % 3 ≡ 1 = omega arith in eq-eqb (sent.moment % 3) 1 turn

    sent_no_take : is_taking sent ≡ false
    sent_no_take = let turn : sent.moment % 3 ≡ 1 = omega arith in turn_of (sent.moment % 3) 1 2 turn (omega arith)

    taken_no_send : is_sending taken ≡ false
    taken_no_send = let turn : taken.moment % 3 ≡ 2 = omega arith in turn_of (taken.moment % 3) 2 1 turn (omega arith)

    taken_takes : is_taking taken ≡ true
    taken_takes = let turn : taken.moment % 3 ≡ 2 = omega arith in eq-eqb (taken.moment % 3) 2 turn

    sent_from : SendsFrom sent
    sent_from is =
        let at : link_of_hop links hop ≡ number = eqb-true (link_of_hop links hop) number (and_parts (is_sending sent) (eqb (link_of_hop links hop) number) is).1 in
        let ends = and_parts (eqb link.from hop.from) (eqb link.to hop.to) (its_link hop pin at) in
        eq-eqb hop.from link.from (sym (eqb-true link.from hop.from ends.0))

    taken_at : TakesAt taken
    taken_at is =
        let at : link_of_hop links hop ≡ number = eqb-true (link_of_hop links hop) number (and_parts (is_taking taken) (eqb (link_of_hop links hop) number) is).1 in
        let ends = and_parts (eqb link.from hop.from) (eqb link.to hop.to) (its_link hop pin at) in
        eq-eqb hop.to link.to (sym (eqb-true link.to hop.to ends.1))

    no_send : SendsFrom taken
    no_send is = absurd (true≢false (sym (and_parts (is_sending taken) (eqb (link_of_hop links hop) number) is).0 ∙ taken_no_send))

    no_take : TakesAt sent
    no_take is = absurd (true≢false (sym (and_parts (is_taking sent) (eqb (link_of_hop links hop) number) is).0 ∙ sent_no_take))

    -- what it takes is what it sends, so much later
    hop_passes : filter (is_taken number) (sent ∷ taken ∷ []) ≡ map later (filter (is_sent number) (sent ∷ taken ∷ []))
    hop_passes =
        let if_here = λ (own : eqb (link_of_hop links hop) number ≡ true).
        let at : link_of_hop links hop ≡ number = eqb-true (link_of_hop links hop) number own in
        let carried = its_link hop pin at in
        let ends = and_parts (eqb link.from hop.from) (eqb link.to hop.to) carried in
        let same : taken ≡ later sent = later_is (arrives planned.board number link hop there carried) (sym (eqb-true link.to hop.to ends.1)) in
        let whole : filter (is_taken number) (sent ∷ taken ∷ []) ≡ map later (filter (is_sent number) (sent ∷ taken ∷ [])) = rw (sent_no_take, taken_takes, sent_sends, taken_no_send, own) (ap (λ (one : Entry). one ∷ []) same) in whole in
        let if_other = λ (other : eqb (link_of_hop links hop) number ≡ false).
        let whole : filter (is_taken number) (sent ∷ taken ∷ []) ≡ map later (filter (is_sent number) (sent ∷ taken ∷ [])) = rw (sent_no_take, taken_takes, sent_sends, taken_no_send, other) refl in whole in
        ⊎_elim if_here if_other (cases_Bool (eqb (link_of_hop links hop) number)) where
          later_is : arrival links hop + 1 ≡ hop.at + link.delay → hop.to ≡ link.to → taken ≡ later sent
          later_is arrived to =
              let timely : (1 ≤ link.delay) × (link.delay ≤ 16) = subst (λ (one : Link). (1 ≤ one.delay) × (one.delay ≤ 16)) (get_or_from_slice_get links number link link there) (planned.board.linked.separate.timely number link (slice_get_within links number link there)) in
              let moment : taken.moment ≡ (later sent).moment = omega (arith, arrived, timely.0) in
              λ i. record { moment = moment i; link = link_of_hop links hop; place = hop.pin; node = to i; net = net }

  -- ---- all entries

  -- what three facts say of each hop says them of all entries
  gates_keep : (P : Entry → Type 0) → ((place gate : ℕ) → P (gate_entry planned place gate)) → (from : ℕ) (numbers : List ℕ)
      → AllByRecursion P (gate_entries planned from numbers)
  gates_keep P each from [] = tt
  gates_keep P each from (gate ∷ gates) = (each from gate, gates_keep P each (suc from) gates)

  its_pin : (at : ℕ) (wire : Wire) → slice_get planned.plan.wires at ≡ Some wire → (place : ℕ) (hop : Hop)
      → slice_get wire.hops place ≡ Some hop → has_pin links hop ≡ true
  its_pin at wire is place hop here =
      let routed : IsRouted planned wire = subst (IsRouted planned) (get_or_from_slice_get planned.plan.wires at wire wire is) (sound.routes at wire (slice_get_within planned.plan.wires at wire is)) in
      subst (λ (one : Hop). has_pin links one ≡ true) (get_or_from_slice_get wire.hops place hop hop here) (routed.pins place hop (slice_get_within wire.hops place hop here))

  all_entries : (P : Entry → Type 0) → ((place gate : ℕ) → P (gate_entry planned place gate))
      → ((net : ℕ) (hop : Hop) → has_pin links hop ≡ true → P (sent_entry links net hop) × P (taken_entry links net hop))
      → AllByRecursion P (entries planned)
  all_entries P gates hops =
      all_append P (gate_entries planned 0 planned.ordered.order) (wire_entries links planned.plan.wires) (gates_keep P gates 0 planned.ordered.order)
      (all_flat_map P (λ (wire : Wire). hop_entries links wire.net wire.hops) planned.plan.wires (λ at wire is.
      all_flat_map P (λ (hop : Hop). sent_entry links wire.net hop ∷ taken_entry links wire.net hop ∷ []) wire.hops (λ place hop here.
      let both = hops wire.net hop (its_pin at wire is place hop here) in (both.0, (both.1, tt)))))

  abbrev Passes : List Entry → Type 0
  Passes list = filter (is_taken number) list ≡ map later (filter (is_sent number) list)

  passes_append : (xs ys : List Entry) → Passes xs → Passes ys → Passes (xs ++ ys)
  passes_append xs ys one other =
      filter-append (is_taken number) xs ys ∙ ap₂ (λ (first second : List Entry). first ++ second) one other
      ∙ sym (ap (map later) (filter-append (is_sent number) xs ys) ∙ map-append later (filter (is_sent number) xs) (filter (is_sent number) ys))

  passes_flat_map : {A : Type 0} (f : A → List Entry) (xs : List A) → ((place : ℕ) (x : A) → slice_get xs place ≡ Some x → Passes (f x))
      → Passes (flat_map f xs)
  passes_flat_map f [] each = refl
  passes_flat_map f (x ∷ xs) each = passes_append (f x) (flat_map f xs) (each 0 x (λ i. Some x)) (passes_flat_map f xs (λ place other is. each (suc place) other is))

  gates_pass : (from : ℕ) (numbers : List ℕ) → Passes (gate_entries planned from numbers)
  gates_pass from [] = refl
  gates_pass from (gate ∷ gates) =
      let rest = gates_pass (suc from) gates in
      rw (gate_no_take from gate, gate_no_send from gate) rest

  entries_pass : Passes (entries planned)
  entries_pass =
      passes_append (gate_entries planned 0 planned.ordered.order) (wire_entries links planned.plan.wires) (gates_pass 0 planned.ordered.order)
      (passes_flat_map (λ (wire : Wire). hop_entries links wire.net wire.hops) planned.plan.wires (λ at wire is.
      passes_flat_map (λ (hop : Hop). sent_entry links wire.net hop ∷ taken_entry links wire.net hop ∷ []) wire.hops (λ place hop here. hop_passes wire.net hop (its_pin at wire is place hop here))))

  all_send : AllByRecursion SendsFrom (entries planned)
  all_send = all_entries SendsFrom (λ place gate is. absurd (true≢false (sym (and_parts (is_sending (gate_entry planned place gate)) (eqb 0 number) is).0 ∙ gate_no_send place gate))) (λ net hop pin. (sent_from net hop pin, no_send net hop pin))

  all_take : AllByRecursion TakesAt (entries planned)
  all_take = all_entries TakesAt (λ place gate is. absurd (true≢false (sym (and_parts (is_taking (gate_entry planned place gate)) (eqb 0 number) is).0 ∙ gate_no_take place gate))) (λ net hop pin. (no_take net hop pin, taken_at net hop pin))

  -- ---- what nodes send and take

  -- what the node at the one end sends is what passes
  pub sends_are : filter (is_sent number) (entries_at link.from (timetable planned)) ≡ passes planned number
  unfolding timetable
  sends_are = filter_filter (is_sent number) (is_at link.from) (timetable planned) (all_sorted comes_before SendsFrom (entries planned) all_send)

  -- and what the node at the other end takes
  pub takes_are : filter (is_taken number) (entries_at link.to (timetable planned)) ≡ map later (passes planned number)
  unfolding timetable
  takes_are =
      let sending = filter (is_sent number) (entries planned) in
      filter_filter (is_taken number) (is_at link.to) (timetable planned) (all_sorted comes_before TakesAt (entries planned) all_take)
      ∙ filter_sorted comes_before is_order (is_taken number) (entries planned)
      ∙ ap (sorted comes_before) entries_pass
      ∙ sorted_map comes_before is_order later (λ (entry : Entry). entry.node ≡ link.from) keeps_order sending (senders (entries planned) all_send)
      ∙ ap (map later) (sym (filter_sorted comes_before is_order (is_sent number) (entries planned))) where
        senders : (list : List Entry) → AllByRecursion SendsFrom list
            → AllByRecursion (λ (entry : Entry). entry.node ≡ link.from) (filter (is_sent number) list)
        senders [] all = tt
        senders (entry ∷ list) all =
            let rest = senders list all.1 in
            let if_sent = λ (is : is_sent number entry ≡ true). let whole : AllByRecursion (λ (one : Entry). one.node ≡ link.from) (filter (is_sent number) (entry ∷ list)) = rw is (eqb-true entry.node link.from (all.0 is), rest) in whole in
            let if_not = λ (no : is_sent number entry ≡ false). let whole : AllByRecursion (λ (one : Entry). one.node ≡ link.from) (filter (is_sent number) (entry ∷ list)) = rw no rest in whole in
            ⊎_elim if_sent if_not (cases_Bool (is_sent number entry))
