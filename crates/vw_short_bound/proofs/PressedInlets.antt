-- The pins of last links have room for all inlets that a net waits for.
use Rattle.std.proofs.Common.{◌≡◌, ◌<◌, ◌≤◌, ◌+◌, ◌-◌, ◌*◌, ℕ, zero, suc, Bool, true, List, [], ◌∷◌, length, map, drop, slice_get, slice_index, eqb, ap, refl, sym, subst, ◌∙◌, Some, ⊎_elim, eqb-true, true≢false, arith}
use Rattle.std.specs.List.{AllByRecursion, count_by, list_any}
use Rattle.std.proofs.lemmas.Bool.{and_parts, or_cases, or_left, or_right}
use Rattle.std.proofs.lemmas.List.{drop_more, length-map}
use Rattle.vw_net.specs.Steps.Bits.{one_if}
use Rattle.vw_net.proofs.CountsOverLists.{count_cons, count_map}
use Rattle.vw_plan.specs.declared.need.Need.{Need}
use Rattle.vw_plan.specs.declared.wire.Wire.{Wire}
use Rattle.vw_plan.specs.Good.{AreShort}
use Rattle.vw_plan.specs.Lead.{after_last, brought_at, lead}
use Rattle.vw_plan.specs.Needs.{is_pair, needed_pairs}
use Rattle.vw_plan.specs.PlannedBoard.{PlannedBoard, home}
use Rattle.vw_plan.specs.Sound.{IsSound}
use Rattle.vw_delays.specs.Delays.{least_delay}
use Rattle.vw_delays.proofs.LevelDelays.{least_ways}
use Rattle.vw_bound.specs.PlacedDesigns.{PlacedDesign, placed_by}
use Rattle.vw_bound.specs.Pins.{pins_of}
use Rattle.vw_bound.specs.Times.{there_by}
use Rattle.vw_bound.proofs.BroughtWires.{wire_late}
use Rattle.vw_bound.proofs.ListedNeeds.{own_pair}
use Rattle.vw_bound.proofs.PressedPairs.{LastLink, Presses, last_link, pair_of, pressed_fit}
use Rattle.vw_bound.proofs.SoonLeads.{usable_home}
use Rattle.vw_short_bound.specs.Shortest.{can_be_last}
use Rattle.vw_short_bound.specs.Steps.Rows.{has}
use Rattle.vw_short_bound.specs.Steps.Plans.{AreInlets, AreSoonest, IsPressing, pairs_at}
use Rattle.vw_short_bound.specs.Steps.Pressed.{Climbs, HaveSlots, IsChosen, IsClass}
use Rattle.vw_short_bound.proofs.ShortWires.{brought_is, last_can}

-- ---- places that climb

-- of places that climb, no more pass than of all from the first on
climbs_count : (test : ℕ → Bool) (nets : List ℕ) (low : ℕ) (places : List ℕ) → Climbs low places → AllByRecursion (λ place. place < length nets) places
    → count_by test (map (slice_index nets) places) ≤ count_by test (drop low nets)
climbs_count test nets low [] climbs within = omega arith
climbs_count test nets low (place ∷ places) climbs within =
    let first = slice_index nets place in
    let rest = climbs_count test nets (suc place) places climbs.1 within.1 in
    let here : drop place nets ≡ first ∷ drop (suc place) nets = drop_more nets place 0 within.0 ∙ ap (λ (next : ℕ). first ∷ drop next nets) next_is in
    let whole : count_by test (drop place nets) ≡ one_if (test first) + count_by test (drop (suc place) nets) = ap (count_by test) here ∙ count_cons test first (drop (suc place) nets) in
    omega (arith, rest, whole, count_cons test first (map (slice_index nets) places), fewer low place climbs.0 nets)
  where
    next_is : place + 1 ≡ suc place
    next_is = omega arith

    -- with more dropped, fewer pass
    fewer : (one other : ℕ) → one ≤ other → (xs : List ℕ) → count_by test (drop other xs) ≤ count_by test (drop one xs)
    fewer one other more [] = nothing other one
      where
        nothing : (n m : ℕ) → count_by test (drop n []) ≤ count_by test (drop m [])
        nothing zero zero = omega arith
        nothing zero (suc m) = omega arith
        nothing (suc n) zero = omega arith
        nothing (suc n) (suc m) = omega arith
    fewer zero zero more (x ∷ xs) = omega arith
    fewer zero (suc other) more (x ∷ xs) = let rest = fewer zero other (omega arith) xs in let all : count_by test (drop zero xs) ≤ count_by test (x ∷ xs) = omega (arith, count_cons test x xs, whole_list xs) in omega (arith, rest, all)
      where
        whole_list : (ys : List ℕ) → count_by test (drop zero ys) ≡ count_by test ys
        whole_list [] = refl
        whole_list (y ∷ ys) = refl
    fewer (suc one) zero more (x ∷ xs) = absurd (omega arith)
    fewer (suc one) (suc other) more (x ∷ xs) = fewer one other (omega arith) xs

-- ---- the pairs of places

module _ (node : ℕ) (nets : List ℕ) where
  abbrev needs_at : List ℕ → List Need
  needs_at places = pairs_at node (map (slice_index nets) places)

  -- one of the places is that of a pair among them
  record PlaceOf (P : ℕ → Type 0) (net to : ℕ) : Type 0 where
    place : ℕ
    holds : P place
    its_net : slice_index nets place ≡ net
    its_node : node ≡ to

  place_of : (P : ℕ → Type 0) (places : List ℕ) → AllByRecursion P places → (net to : ℕ) → list_any (is_pair net to) (needs_at places) ≡ true → PlaceOf P net to
  place_of P [] all net to any = absurd (true≢false (sym any))
  place_of P (place ∷ places) all net to any =
      let if_here = λ (here : is_pair net to (record { net = slice_index nets place; to = node }) ≡ true).
      let parts = and_parts (eqb (slice_index nets place) net) (eqb node to) here in
      let whole : PlaceOf P net to = record { place = place; holds = all.0; its_net = eqb-true (slice_index nets place) net parts.0; its_node = eqb-true node to parts.1 } in whole in
      ⊎_elim if_here (λ later. place_of P places all.1 net to later) (or_cases (is_pair net to (record { net = slice_index nets place; to = node })) (list_any (is_pair net to) (needs_at places)) any)

-- each of some pairs is among them
all_among : (needs rest : List Need) → ((need : Need) → list_any (is_pair need.net need.to) rest ≡ true → list_any (is_pair need.net need.to) needs ≡ true) → count_by (λ need. list_any (is_pair need.net need.to) needs) rest ≡ length rest
all_among needs [] in_all = refl
all_among needs (need ∷ rest) in_all =
    let test = λ (one : Need). list_any (is_pair one.net one.to) needs in
    let here : test need ≡ true = in_all need (or_left (is_pair need.net need.to need) (list_any (is_pair need.net need.to) rest) (own_pair need)) in
    let later = all_among needs rest (λ one among. in_all one (or_right (is_pair one.net one.to need) (list_any (is_pair one.net one.to) rest) among)) in
    omega (arith, count_cons test need rest, ap one_if here, later)

-- ---- in a plan

module _ (planned : PlannedBoard) (sound : IsSound planned) (short : AreShort planned)
    (soon_of : ℕ → ℕ) (late : (net : ℕ) → soon_of net ≤ lead planned (home planned net) net)
    (node : ℕ) (nets times row members : List ℕ) (source pins : ℕ)
    (inlets : AreInlets (placed_by planned) node nets) (class : IsClass (placed_by planned) node nets members source pins)
    (long : length times ≡ length nets)
    (early : (place : ℕ) → place < length nets → slice_index times place ≤ there_by (placed_by planned) soon_of (slice_index nets place) node)
    (end : ℕ) (in_time : (place : ℕ) → has row place ≡ true → place < length nets → brought_at planned node (slice_index nets place) ≤ end) where
  module _ (places : List ℕ) (from : ℕ) (are : AllByRecursion (IsChosen times row members from) places) where
    abbrev chosen : Need → Bool
    chosen need = list_any (is_pair need.net need.to) (needs_at node nets places)

    presses : (number : ℕ) (wire : Wire) (stands : slice_get planned.plan.wires number ≡ Some wire) → chosen (pair_of wire) ≡ true
        → Presses planned sound (can_be_last planned.board source node) from end chosen wire (last_link planned sound number wire stands)
    presses number wire stands is =
        let own : LastLink planned wire = last_link planned sound number wire stands in
        let at : PlaceOf node nets (IsChosen times row members from) wire.net wire.to = place_of node nets (IsChosen times row members from) places are wire.net wire.to is in
        let is_chosen : IsChosen times row members from at.place = at.holds in
        let inside : at.place < length nets = omega (arith, is_chosen.within, long) in
        let can : can_be_last planned.board (home planned wire.net) wire.to own.over.link ≡ true = last_can planned sound short number wire stands own in
        let can_here : can_be_last planned.board (home planned (slice_index nets at.place)) node own.over.link ≡ true = ap (λ (net : ℕ). can_be_last planned.board (home planned net) node own.over.link) at.its_net ∙ ap (λ (to : ℕ). can_be_last planned.board (home planned wire.net) to own.over.link) at.its_node ∙ can in
        let time : slice_index times at.place ≤ there_by (placed_by planned) soon_of (slice_index nets at.place) node = early at.place inside in
        let its_time : there_by (placed_by planned) soon_of (slice_index nets at.place) node ≡ there_by (placed_by planned) soon_of wire.net wire.to = ap (λ (net : ℕ). there_by (placed_by planned) soon_of net node) at.its_net ∙ ap (there_by (placed_by planned) soon_of wire.net) at.its_node in
        let arrives : brought_at planned node (slice_index nets at.place) ≡ after_last planned.board.links wire.hops = ap (brought_at planned node) at.its_net ∙ ap (λ (to : ℕ). brought_at planned to wire.net) at.its_node ∙ brought_is planned sound number wire stands in
        let ways = least_ways planned.board in
        record {
          passes = class.links at.place is_chosen.member inside own.over.number own.over.link own.over.there can_here;
          late = omega (arith, is_chosen.late, time, its_time, late wire.net, usable_home planned sound ways wire.net, wire_late planned sound (least_delay planned.board) ways number wire stands);
          in_time = omega (arith, arrives, in_time at.place is_chosen.rests inside);
        }

    within : (some : List ℕ) → AllByRecursion (IsChosen times row members from) some → AllByRecursion (λ place. place < length nets) some
    within [] all = tt
    within (place ∷ some) all = let own = all.0.within in (omega (arith, own, long), within some all.1)

    have_slots : Climbs 0 places → length places ≤ pins * (end + 1 - from)
    have_slots climbs =
        let needs = needs_at node nets places in
        let needed = needed_pairs planned.ordered.flat planned.plan.chip_of in
        let few : (net to : ℕ) → count_by (is_pair net to) needs ≤ count_by (is_pair net to) needed = λ net to.
        let test = λ (one : ℕ). is_pair net to (record { net = one; to = node }) in
        omega (arith, count_map (is_pair net to) (λ (one : ℕ). record { net = one; to = node }) (map (slice_index nets) places), climbs_count test nets 0 places climbs (within places are), count_map (is_pair net to) (λ (one : ℕ). record { net = one; to = node }) nets, inlets net to) in
        let fit = pressed_fit planned sound (can_be_last planned.board source node) from end chosen presses needs few in
        let all = all_among needs needs (λ need among. among) in
        let many : length needs ≡ length places = length-map (map (slice_index nets) places) (λ (one : ℕ). record { net = one; to = node }) ∙ length-map places (slice_index nets) in
        let same : pins * (end + 1 - from) ≡ pins_of planned.board.links (can_be_last planned.board source node) * (end + 1 - from) = ap (λ (count : ℕ). count * (end + 1 - from)) class.are in
        omega (arith, fit, all, many, same)

-- so what no number of microcycles with room for them is below presses
pub pressing : (placed : PlacedDesign) (soon times row members nets : List ℕ) (node source pins number : ℕ) → AreSoonest placed soon
    → AreInlets placed node nets → IsClass placed node nets members source pins → length times ≡ length nets
    → ((place : ℕ) → place < length nets → slice_index times place ≡ there_by placed (slice_index soon) (slice_index nets place) node)
    → ((end : ℕ) → HaveSlots times row members pins end → number ≤ end) → IsPressing placed node nets row number
pressing placed soon times row members nets node source pins number soonest inlets class long are forced planned same sound short end in_time =
    let back = sym same in
    let own_inlets : AreInlets (placed_by planned) node nets = subst (λ (p : PlacedDesign). AreInlets p node nets) back inlets in
    let own_class : IsClass (placed_by planned) node nets members source pins = subst (λ (p : PlacedDesign). IsClass p node nets members source pins) back class in
    let early : (place : ℕ) → place < length nets → slice_index times place ≤ there_by (placed_by planned) (slice_index soon) (slice_index nets place) node = λ place within.
    let one = are place within in
    let other : there_by placed (slice_index soon) (slice_index nets place) node ≡ there_by (placed_by planned) (slice_index soon) (slice_index nets place) node = ap (λ (p : PlacedDesign). there_by p (slice_index soon) (slice_index nets place) node) back in
    omega (arith, one, other) in
    forced end (λ places from climbs chosen_are. have_slots planned sound short (slice_index soon) (λ net. soonest.each net planned same sound short) node nets times row members source pins own_inlets own_class long early end in_time places from chosen_are climbs)
