-- Hops that took the first free slots are earliest in the plan.
use Rattle.std.proofs.Common.{◌≡◌, ◌<◌, ◌≤◌, ◌+◌, ◌∙◌, ◌∷◌, ◌++◌, ◌&&◌, ◌||◌, ℕ, suc, Bool, true, false, List, [], length, map, eqb, nat_lt, if◌then◌else◌, slice_get, slice_index, slice_index_or, Some, ap, refl, sym, ⊎_elim, true≢false, arith, eqb-true, ltb-true}
use Rattle.std.specs.List.{All, AllPairs, list_any, flat_map}
use Rattle.std.proofs.lemmas.Bool.{and_parts, cases_Bool, or_cases, or_left, or_right}
use Rattle.std.proofs.lemmas.List.{append_assoc}
use Rattle.std.proofs.lemmas.List.Concat.{flat_map-cons}
use Rattle.std.proofs.lemmas.List.Elements.{All-cons, All-head, All-nil, All-tail}
use Rattle.std.proofs.lemmas.List.Folds.{list_any-append}
use Rattle.vw_plan.specs.declared.board.Board.{Board}
use Rattle.vw_plan.specs.declared.link.Link.{Link}
use Rattle.vw_plan.specs.declared.need.Route.{Route}
use Rattle.vw_plan.specs.declared.plan.Plan.{Plan}
use Rattle.vw_plan.specs.declared.wire.Hop.{Hop}
use Rattle.vw_plan.specs.declared.wire.Wire.{Wire}
use Rattle.vw_plan.specs.Earliest.{AreEarliest, IsEarliest, is_in_use}
use Rattle.vw_plan.specs.Lead.{arrival}
use Rattle.vw_plan.specs.Links.{HaveSameEnds}
use Rattle.vw_plan.specs.Sound.{has_pin, share_pin}
use Rattle.vw_slots.specs.declared.slot.Taken.{Taken}
use Rattle.vw_slots.specs.Slots.{is_pin_taken}
use Rattle.vw_pipe.specs.Steps.SentHops.{AreSent, link_place, hop_link, hop_takes}
use Rattle.vw_pipe.specs.Steps.FinishedSchedules.{all_hops, uses}
use Rattle.vw_pipe.specs.Steps.Leads.{wires_of}

-- ---- a pin of the board is within the width of its link

-- whether a hop goes over a link, and whether it also is on a pin of it
abbrev goes_over : Hop → Link → Bool
goes_over hop link = eqb link.from hop.from && eqb link.to hop.to

abbrev is_on : Hop → Link → Bool
is_on hop link = goes_over hop link && nat_lt hop.pin link.width

-- two links don't join the same nodes in the same direction
abbrev AreApart : Link → Link → Type 0
AreApart link other = ¬ (HaveSameEnds link other)

no_other : (link : Link) (links : List Link) (hop : Hop) → All (AreApart link) links
    → link.from ≡ hop.from → link.to ≡ hop.to → has_pin links hop ≡ true → ⊥
no_other link [] hop apart from to pin = true≢false (sym pin)
no_other link (other ∷ links) hop apart from to pin =
    let here = λ (is : is_on hop other ≡ true).
    let over = (and_parts (goes_over hop other) (nat_lt hop.pin other.width) is).0 in
    let ends = and_parts (eqb other.from hop.from) (eqb other.to hop.to) over in
    let same : HaveSameEnds link other = (from ∙ sym (eqb-true other.from hop.from ends.0), to ∙ sym (eqb-true other.to hop.to ends.1)) in
    All-head (AreApart link) other links apart same in
    let later = no_other link links hop (All-tail (AreApart link) other links apart) from to in
    ⊎_elim here later (or_cases (is_on hop other) (has_pin links hop) pin)

-- the pin of a hop is within the width of its link
abbrev IsWithin : List Link → Hop → Type 0
IsWithin links hop = hop.pin < slice_index (map (λ link. link.width) links) (link_place links hop.from hop.to)

pub pin_within : (links : List Link) (hop : Hop) → AllPairs (λ link other. ¬ (HaveSameEnds link other)) links → has_pin links hop ≡ true
    → hop.pin < slice_index (map (λ link. link.width) links) (link_place links hop.from hop.to)
pin_within [] hop once pin = absurd (true≢false (sym pin))
pin_within (link ∷ links) hop once pin =
    let here = goes_over hop link in
    let if_here = λ (is : here ≡ true).
    let ends = and_parts (eqb link.from hop.from) (eqb link.to hop.to) is in
    let in_it = λ (its : is_on hop link ≡ true).
    let narrow = ltb-true hop.pin link.width (and_parts here (nat_lt hop.pin link.width) its).1 in
    let whole : IsWithin (link ∷ links) hop = rw is narrow in whole in
    let in_other = λ (rest : has_pin links hop ≡ true).
    let apart : All (AreApart link) links = λ place default within. once 0 (suc place) default (omega arith) (omega (arith, within)) in
    let no = no_other link links hop apart (eqb-true link.from hop.from ends.0) (eqb-true link.to hop.to ends.1) rest in
    let whole : IsWithin (link ∷ links) hop = absurd no in whole in
    ⊎_elim in_it in_other (or_cases (is_on hop link) (has_pin links hop) pin) in
    let if_not = λ (is : here ≡ false).
    let rest : has_pin links hop ≡ true = sym (ap (λ (bit : Bool). (bit && nat_lt hop.pin link.width) || has_pin links hop) is) ∙ pin in
    let others_once : AllPairs AreApart links = λ i j default before within. once (suc i) (suc j) default (omega (arith, before)) (omega (arith, within)) in
    let whole : IsWithin (link ∷ links) hop = rw is (pin_within links hop others_once rest) in whole in
    ⊎_elim if_here if_not (cases_Bool here)

-- ---- hops of the plan

pub uses_some : (hop : Hop) (hops : List Hop) → 1 ≤ uses hop hops → list_any (share_pin hop) hops ≡ true
uses_some hop [] one = absurd (omega (arith, one))
uses_some hop (other ∷ hops) one =
    let if_here = λ (is : share_pin hop other ≡ true). or_left (share_pin hop other) (list_any (share_pin hop) hops) is in
    let if_not = λ (is : share_pin hop other ≡ false).
    let none : ◌≡◌ {A = ℕ} (if share_pin hop other then 1 else 0) 0 = ap (λ (bit : Bool). if bit then 1 else 0) is in
    or_right (share_pin hop other) (list_any (share_pin hop) hops) (uses_some hop hops (omega (arith, one, none))) in
    ⊎_elim if_here if_not (cases_Bool (share_pin hop other))

pub hops_same : (routes : List Route) (hops : List (List Hop)) → length hops ≡ length routes
    → flat_map (λ wire. wire.hops) (wires_of routes hops) ≡ all_hops hops
hops_same [] [] long = refl
hops_same [] (sent ∷ hops) long = absurd (omega (arith, long))
hops_same (route ∷ routes) [] long = absurd (omega (arith, long))
hops_same (route ∷ routes) (sent ∷ hops) long =
    let first : Wire = record { net = route.net; to = route.to; hops = sent } in
    let others = hops_same routes hops (omega (arith, long)) in
    flat_map-cons (λ (wire : Wire). wire.hops) first (wires_of routes hops)
    ∙ ap (λ (rest : List Hop). sent ++ rest) others
    ∙ sym (flat_map-cons (λ (one : List Hop). one) sent hops)

-- what holds of each wire
pub all_wires : (P : Wire → Type 0) (routes : List Route) (hops : List (List Hop)) → length hops ≡ length routes
    → ((number : ℕ) (route : Route) → slice_get routes number ≡ Some route
    → P (record { net = route.net; to = route.to; hops = slice_index_or hops number [] }))
    → All P (wires_of routes hops)
all_wires P [] hops long each = All-nil P
all_wires P (route ∷ routes) [] long each = absurd (omega (arith, long))
all_wires P (route ∷ routes) (sent ∷ hops) long each =
    let first : Wire = record { net = route.net; to = route.to; hops = sent } in
    let others = all_wires P routes hops (omega (arith, long)) (λ number other at. each (suc number) other at) in
    All-cons P first (wires_of routes hops) (each 0 route refl) others

-- ---- earliest hops

module _ (board : Board) (plan : Plan) (final : List Taken)
    (in_use : (hop : Hop) → is_pin_taken final (hop_link board hop) hop.pin hop.at ≡ true → is_in_use plan hop ≡ true) where
  pub early_from : (taken : List Taken) (ready : ℕ) (steps : List (ℕ × ℕ)) (hops : List Hop) → AreSent board taken ready steps hops
      → ((link pin at : ℕ) → is_pin_taken (taken ++ map (hop_takes board) hops) link pin at ≡ true → is_pin_taken final link pin at ≡ true)
      → AreEarliest board plan ready hops
  early_from taken ready [] [] sent stays = tt
  early_from taken ready [] (hop ∷ hops) sent stays = absurd sent
  early_from taken ready (step ∷ steps) [] sent stays = absurd sent
  early_from taken ready (step ∷ steps) (hop ∷ hops) sent stays =
      let link = hop_link board hop in
      let first : IsEarliest board plan ready hop = λ at late before pin there.
      let other : Hop = record { from = hop.from; to = hop.to; pin = pin; at = at } in
      let inside : IsWithin board.links other = pin_within board.links other board.linked.separate.once there in
      let full : is_pin_taken taken link pin at ≡ true = sent.1.full_before at late before pin inside in
      let is_it : Taken → Bool = λ slot. (eqb slot.link link && eqb slot.at at) && eqb slot.pin pin in
      let still_full = list_any-append is_it taken (map (hop_takes board) (hop ∷ hops)) ∙ or_left _ _ full in
      let stayed : is_pin_taken final link pin at ≡ true = stays link pin at still_full in
      in_use other stayed in
      let taken_now = taken ++ hop_takes board hop ∷ [] in
      let joined = append_assoc taken (hop_takes board hop ∷ []) (map (hop_takes board) hops) in
      let others = early_from taken_now (arrival board.links hop + 1) steps hops sent.2 (λ link pin at is.
      stays link pin at (ap (λ (list : List Taken). is_pin_taken list link pin at) (sym joined) ∙ is)) in
      (first, others)
