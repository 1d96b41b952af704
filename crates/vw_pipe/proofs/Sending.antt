-- Hops along a way, one after the other.
use Rattle.std.proofs.Common.{◌≡◌, ◌<◌, ◌≤◌, ◌+◌, ◌*◌, ◌^◌, ◌&&◌, ◌||◌, ◌++◌, ℕ, suc, Bool, true, false, List, [], ◌∷◌, length, drop, get_or, map, eqb, ap, ap₂, sym, ◌∙◌, subst, arith, drop-cons, length-append, ⊎_elim, true≢false}
use Rattle.std.specs.List.{All}
use Rattle.std.proofs.lemmas.Bool.{cases_Bool}
use Rattle.std.proofs.lemmas.List.{append_assoc, length-map, map-append}
use Rattle.std.proofs.lemmas.List.Elements.{All-head, All-push, All-tail, All-weaker}
use Rattle.vw_plan.specs.declared.board.Board.{Board}
use Rattle.vw_plan.specs.declared.link.Link.{Link}
use Rattle.vw_plan.specs.declared.wire.Hop.{Hop}
use Rattle.vw_plan.specs.Lead.{arrival, carries, lag}
use Rattle.vw_plan.specs.Routes.{steps_of}
use Rattle.vw_plan.specs.Walks.{has_link}
use Rattle.vw_slots.specs.declared.slot.Slot.{Slot}
use Rattle.vw_slots.specs.declared.slot.Taken.{Taken}
use Rattle.vw_slots.specs.Slots.{Slots, IsFirstFree, with_slot}
use Rattle.vw_pipe.specs.Steps.SentHops.{AreLinked, AreSent, link_place, hop_link, hop_slot, slots_of, hop_takes}

-- where there is a link, it has a number
pub place_within : (links : List Link) (from to : ℕ) → has_link links from to ≡ true → link_place links from to < length links
place_within [] from to there = absurd (true≢false (sym there))
place_within (link ∷ links) from to there =
    let here = eqb link.from from && eqb link.to to in
    let if_here = λ (is : here ≡ true).
    let whole : link_place (link ∷ links) from to < length (link ∷ links) = rw is (omega arith) in whole in
    let if_later = λ (is : here ≡ false).
    let later : has_link links from to ≡ true = sym (ap (λ (bit : Bool). bit || has_link links from to) is) ∙ there in
    let whole : link_place (link ∷ links) from to < length (link ∷ links) = rw is (omega (arith, place_within links from to later)) in whole in
    ⊎_elim if_here if_later (cases_Bool here)

-- each delay is from 1 to 16 microcycles
abbrev IsTimely : Link → Type 0
IsTimely link = (1 ≤ link.delay) × (link.delay ≤ 16)

-- a bit arrives within 15 microcycles
found_low : (hop : Hop) (links : List Link) → All IsTimely links → lag links hop ≤ 15
found_low hop [] timely = omega arith
found_low hop (link ∷ links) timely =
    let own = All-head IsTimely link links timely in
    let others = All-tail IsTimely link links timely in
    let if_here = λ (is : carries hop link ≡ true). let whole : lag (link ∷ links) hop ≤ 15 = rw is (omega (arith, own.1)) in whole in
    let if_later = λ (is : carries hop link ≡ false). let whole : lag (link ∷ links) hop ≤ 15 = rw is (found_low hop links others) in whole in
    ⊎_elim if_here if_later (cases_Bool (carries hop link))

pub lag_low : (board : Board) (hop : Hop) → lag board.links hop ≤ 15
lag_low board hop = found_low hop board.links board.linked.separate.timely

-- the slots of a table are as wide as the links of a board
abbrev pub AreAsWide : Board → Slots → Type 0
AreAsWide board slots = slots.widths ≡ map (λ link. link.width) board.links

-- what a first free slot is doesn't depend on how much room there is
pub free_in : (slots : Slots) (board : Board) (link microcycle : ℕ) (slot : Slot) → AreAsWide board slots
    → IsFirstFree slots link microcycle slot → IsFirstFree (slots_of board slots.taken) link microcycle slot
free_in slots board link microcycle slot same first =
    let no_spare : List ℕ → Slots = λ widths. record { widths = widths; taken = slots.taken; spare = 0 } in
    let free : IsFirstFree (no_spare slots.widths) link microcycle slot = record {
      in_time = first.in_time;
      within = first.within;
      free = first.free;
      full_before = first.full_before;
      taken_below = first.taken_below;
    } in
    subst (λ (widths : List ℕ). IsFirstFree (no_spare widths) link microcycle slot) same free

abbrev slot_at : ℕ → ℕ → Slot
slot_at pin at = record { pin = pin; at = at }

abbrev taken_at : ℕ → Slot → Taken
taken_at number slot = record { link = number; pin = slot.pin; at = slot.at }

pub cut_at : (further : List ℕ) (place : ℕ) → place < length further → drop place further ≡ get_or further place 0 ∷ drop (place + 1) further
cut_at further place within =
    let next : suc place ≡ place + 1 = omega arith in
    drop-cons further place 0 within ∙ ap (λ (from : ℕ). get_or further place 0 ∷ drop from further) next

-- so far a way has been gone up to a place
pub record IsOnItsWay (board : Board) (start : List Taken) (ready first : ℕ) (further : List ℕ)
    (slots : Slots) (hops : List Hop) (from microcycle place : ℕ) : Type 0 where
  pub linked : AreLinked board.links from (drop place further)
  pub widths : AreAsWide board slots
  pub taken : slots.taken ≡ start ++ map (hop_takes board) hops
  pub count : length hops ≡ place
  pub room : length further ≤ place + slots.spare
  pub soon : microcycle ≤ ready + place * (2 ^ 30 + 16)
  pub early : All (λ hop. arrival board.links hop + 1 ≤ microcycle) hops
  pub sent : (rest : List Hop) → AreSent board slots.taken microcycle (steps_of (from ∷ drop place further)) rest
      → AreSent board start ready (steps_of (first ∷ further)) (hops ++ rest)

-- a hop goes from one node to another, in the first free slot of the link between them
pub record IsInFirstSlot (board : Board) (slots : Slots) (microcycle node next : ℕ) (hop : Hop) (link : ℕ) (slot : Slot) : Type 0 where
  pub leaves : hop.from ≡ node
  pub comes_to : hop.to ≡ next
  pub on_pin : hop.pin ≡ slot.pin
  pub leaves_at : hop.at ≡ slot.at
  pub its_link : link ≡ link_place board.links node next
  pub free : IsFirstFree slots link microcycle slot
  pub soon : slot.at ≤ microcycle + length slots.taken

module _ {board : Board} {start : List Taken} {ready first : ℕ} {further : List ℕ} {slots : Slots} {hops : List Hop} {from microcycle place : ℕ}
    (way : IsOnItsWay board start ready first further slots hops from microcycle place)
    (within : place < length further) (few : length start + length further < 2 ^ 30)
    {hop : Hop} {link : ℕ} {slot : Slot} (is : IsInFirstSlot board slots microcycle from (get_or further place 0) hop link slot)
    {next : ℕ} (next_is : next ≡ arrival board.links hop + 1) where
  -- the node that this hop goes to
  abbrev to : ℕ
  to = get_or further place 0

  -- the nodes that come behind this hop
  abbrev left : List ℕ
  left = drop (place + 1) further

  -- what is taken with this hop
  abbrev taken_now : List Taken
  taken_now = slots.taken ++ hop_takes board hop ∷ []

  -- a hop has arrived by a microcycle
  abbrev IsEarlier : ℕ → Hop → Type 0
  IsEarlier limit one = arrival board.links one + 1 ≤ limit

  cut : drop place further ≡ to ∷ left
  cut = cut_at further place within

  linked : AreLinked board.links from (to ∷ left)
  linked = subst (λ (nodes : List ℕ). AreLinked board.links from nodes) cut way.linked

  link_is : link ≡ hop_link board hop
  link_is = is.its_link ∙ ap₂ (link_place board.links) (sym is.leaves) (sym is.comes_to)

  slot_is : slot ≡ hop_slot hop
  slot_is = ap₂ slot_at (sym is.on_pin) (sym is.leaves_at)

  its_free : IsFirstFree (slots_of board slots.taken) (hop_link board hop) microcycle (hop_slot hop)
  its_free =
      let of_board = free_in slots board link microcycle slot way.widths is.free in
      let of_link = subst (λ (number : ℕ). IsFirstFree (slots_of board slots.taken) number microcycle slot) link_is of_board in
      subst (λ (one : Slot). IsFirstFree (slots_of board slots.taken) (hop_link board hop) microcycle one) slot_is of_link

  long : length slots.taken ≡ length start + place
  long = ap length way.taken ∙ length-append start (map (hop_takes board) hops)
      ∙ ap (λ (count : ℕ). length start + count) (length-map hops (hop_takes board) ∙ way.count)

  -- what is taken, as what the hops take
  all_taken : taken_now ≡ start ++ map (hop_takes board) (hops ++ hop ∷ [])
  all_taken =
      ap (λ (list : List Taken). list ++ hop_takes board hop ∷ []) way.taken
      ∙ append_assoc start (map (hop_takes board) hops) (hop_takes board hop ∷ [])
      ∙ ap (λ (list : List Taken). start ++ list) (sym (map-append (hop_takes board) hops (hop ∷ [])))

  still_early : All (IsEarlier next) (hops ++ hop ∷ [])
  still_early =
      let in_time : microcycle ≤ slot.at = is.free.in_time in
      let later : (one : Hop) → IsEarlier microcycle one → IsEarlier next one = λ one early. omega (arith, early, in_time, next_is, is.leaves_at) in
      let own : IsEarlier next hop = omega (arith, next_is) in
      All-push (IsEarlier next) hops hop (All-weaker (IsEarlier microcycle) (IsEarlier next) later hops way.early) own

  -- this hop and the rest are sent over what was left before it
  sent_on : (rest : List Hop) → AreSent board taken_now next (steps_of (to ∷ left)) rest
      → AreSent board slots.taken microcycle (steps_of (from ∷ drop place further)) (hop ∷ rest)
  sent_on rest sent =
      let step : (hop.from, hop.to) ≡ (from, to) = ap₂ (λ (a b : ℕ). (a, b)) is.leaves is.comes_to in
      let rest_sent = subst (λ (at : ℕ). AreSent board taken_now at (steps_of (to ∷ left)) rest) next_is sent in
      let more : AreSent board slots.taken microcycle (steps_of (from ∷ to ∷ left)) (hop ∷ rest) = (step, its_free, rest_sent) in
      subst (λ (nodes : List ℕ). AreSent board slots.taken microcycle (steps_of (from ∷ nodes)) (hop ∷ rest)) (sym cut) more

  -- one hop further
  pub further_on : (after : Slots) (later : List Hop) → after ≡ with_slot slots link slot → later ≡ hops ++ hop ∷ []
      → IsOnItsWay board start ready first further after later to next (place + 1)
  further_on after later after_is later_is =
      let same_taken : after.taken ≡ taken_now =
      ap (λ (s : Slots). s.taken) after_is ∙ ap₂ (λ (number : ℕ) (one : Slot). slots.taken ++ taken_at number one ∷ []) link_is slot_is in
      let own_last : (rest : List Hop) → hops ++ hop ∷ rest ≡ later ++ rest = λ rest.
      sym (append_assoc hops (hop ∷ []) rest) ∙ ap (λ (list : List Hop). list ++ rest) (sym later_is) in
      record {
        linked = linked.1;
        widths = ap (λ (s : Slots). s.widths) after_is ∙ way.widths;
        taken = same_taken ∙ all_taken ∙ ap (λ (list : List Hop). start ++ map (hop_takes board) list) (sym later_is);
        count = ap length later_is ∙ length-append hops (hop ∷ []) ∙ ap (λ (count : ℕ). count + 1) way.count;
        room = omega (arith, ap (λ (s : Slots). s.spare) after_is, way.room);
        soon = omega (arith, way.soon, is.soon, long, few, next_is, is.leaves_at, lag_low board hop);
        early = subst (All (IsEarlier next)) (sym later_is) still_early;
        sent = λ rest sent.
            let rest_sent = subst (λ (taken : List Taken). AreSent board taken next (steps_of (to ∷ left)) rest) same_taken sent in
            subst (AreSent board start ready (steps_of (first ∷ further))) (own_last rest) (way.sent (hop ∷ rest) (sent_on rest rest_sent));
      }
