-- Hops and taken slots, counted.
use Rattle.std.proofs.Common.{◌≡◌, ◌<◌, ◌+◌, ◌&&◌, ◌||◌, ◌++◌, ℕ, zero, suc, Bool, true, false, List, [], ◌∷◌, length, map, get_or, set, eqb, ap, ap₂, refl, sym, ◌∙◌, arith, ⊎_elim, true≢false, eqb-true, eq-eqb}
use Rattle.std.proofs.lemmas.Bool.{cases_Bool, and_from, and_parts}
use Rattle.std.specs.Cmp.{both_ways}
use Rattle.std.proofs.lemmas.List.{append_assoc, append-nil}
use Rattle.std.proofs.lemmas.List.Concat.{flat_map-cons}
use Rattle.std.proofs.lemmas.List.Folds.{list_any-append}
use Rattle.std.proofs.Math.Bool.{or-false}
use Rattle.vw_net.specs.Steps.Bits.{one_if}
use Rattle.vw_plan.specs.declared.board.Board.{Board}
use Rattle.vw_plan.specs.declared.link.Link.{Link}
use Rattle.vw_plan.specs.declared.wire.Hop.{Hop}
use Rattle.vw_plan.specs.Lead.{arrival}
use Rattle.vw_plan.specs.Routes.{steps_of}
use Rattle.vw_plan.specs.Sound.{share_pin}
use Rattle.vw_plan.specs.Walks.{has_link}
use Rattle.vw_slots.specs.declared.slot.Taken.{Taken}
use Rattle.vw_slots.specs.Slots.{is_pin_taken}
use Rattle.vw_pipe.specs.Steps.SentHops.{AreLinked, AreSent, link_place, hop_link, hop_takes}
use Rattle.vw_pipe.specs.Steps.FinishedSchedules.{all_hops, uses}

-- whether a link leads from a node to another
abbrev is_between : Link → ℕ → ℕ → Bool
is_between link from to = eqb link.from from && eqb link.to to

ends_of : (link : Link) (from to : ℕ) → is_between link from to ≡ true → (link.from ≡ from) × (link.to ≡ to)
ends_of link from to is =
    let parts = and_parts (eqb link.from from) (eqb link.to to) is in
    (eqb-true link.from from parts.0, eqb-true link.to to parts.1)

-- links of one number are one
same_ends : (links : List Link) (a b c d : ℕ) → has_link links a b ≡ true → link_place links a b ≡ link_place links c d → (a ≡ c) × (b ≡ d)
same_ends [] a b c d there same = absurd (true≢false (sym there))
same_ends (link ∷ links) a b c d there same =
    let first = is_between link a b in
    let second = is_between link c d in
    let AreOne = (a ≡ c) × (b ≡ d) in
    let both = λ (one : first ≡ true) (other : second ≡ true).
    let p = ends_of link a b one in
    let q = ends_of link c d other in
    let whole : AreOne = (sym p.0 ∙ q.0, sym p.1 ∙ q.1) in whole in
    let one_only = λ (one : first ≡ true) (other : second ≡ false).
    let no_such : 0 ≡ suc (link_place links c d) = rw (one, other) at same in
    let whole : AreOne = absurd (omega (arith, no_such)) in whole in
    let other_only = λ (one : first ≡ false) (other : second ≡ true).
    let no_such : suc (link_place links a b) ≡ 0 = rw (one, other) at same in
    let whole : AreOne = absurd (omega (arith, no_such)) in whole in
    let neither = λ (one : first ≡ false) (other : second ≡ false).
    let deep : suc (link_place links a b) ≡ suc (link_place links c d) = rw (one, other) at same in
    let later : has_link links a b ≡ true = sym (ap (λ (bit : Bool). bit || has_link links a b) one) ∙ there in
    let whole : AreOne = same_ends links a b c d later (omega (arith, deep)) in whole in
    let if_first = λ (one : first ≡ true). ⊎_elim (both one) (one_only one) (cases_Bool second) in
    let if_not = λ (one : first ≡ false). ⊎_elim (other_only one) (neither one) (cases_Bool second) in
    ⊎_elim if_first if_not (cases_Bool first)

module _ (board : Board) where
  -- whether the pin and the microcycle of a hop are taken
  abbrev pub is_in : List Taken → Hop → Bool
  is_in taken hop = is_pin_taken taken (hop_link board hop) hop.pin hop.at

  abbrev takes_slot : Hop → Hop → Bool
  takes_slot other hop = (eqb (hop_link board other) (hop_link board hop) && eqb other.at hop.at) && eqb other.pin hop.pin

  -- the link, the microcycle and the pin of two hops are the same
  abbrev HaveOneSlot : Hop → Hop → Type 0
  HaveOneSlot other hop = (hop_link board other ≡ hop_link board hop) × (other.at ≡ hop.at) × (other.pin ≡ hop.pin)

  one_slot : (other hop : Hop) → takes_slot other hop ≡ true → HaveOneSlot other hop
  one_slot other hop is =
      let parts = and_parts (eqb (hop_link board other) (hop_link board hop) && eqb other.at hop.at) (eqb other.pin hop.pin) is in
      let slot = and_parts (eqb (hop_link board other) (hop_link board hop)) (eqb other.at hop.at) parts.0 in
      (eqb-true (hop_link board other) (hop_link board hop) slot.0, eqb-true other.at hop.at slot.1, eqb-true other.pin hop.pin parts.1)

  -- hops that share a pin take one slot
  shares : (hop other : Hop) → has_link board.links other.from other.to ≡ true → share_pin hop other ≡ takes_slot other hop
  shares hop other there = both_ways (share_pin hop other) (takes_slot other hop) to back where
    to : share_pin hop other ≡ true → takes_slot other hop ≡ true
    to is =
        let parts = and_parts (eqb hop.from other.from && eqb hop.to other.to) (eqb hop.pin other.pin && eqb hop.at other.at) is in
        let ends = and_parts (eqb hop.from other.from) (eqb hop.to other.to) parts.0 in
        let slot = and_parts (eqb hop.pin other.pin) (eqb hop.at other.at) parts.1 in
        let same_from = eqb-true hop.from other.from ends.0 in
        let same_to = eqb-true hop.to other.to ends.1 in
        let place : hop_link board other ≡ hop_link board hop = sym (ap₂ (link_place board.links) same_from same_to) in
        let same_at = eq-eqb other.at hop.at (sym (eqb-true hop.at other.at slot.1)) in
        let same_pin = eq-eqb other.pin hop.pin (sym (eqb-true hop.pin other.pin slot.0)) in
        and_from _ _ (and_from _ _ (eq-eqb (hop_link board other) (hop_link board hop) place) same_at) same_pin

    back : takes_slot other hop ≡ true → share_pin hop other ≡ true
    back is =
        let slot = one_slot other hop is in
        let ends = same_ends board.links other.from other.to hop.from hop.to there slot.0 in
        let same_ends = and_from _ _ (eq-eqb hop.from other.from (sym ends.0)) (eq-eqb hop.to other.to (sym ends.1)) in
        let same_slot = and_from _ _ (eq-eqb hop.pin other.pin (sym slot.2)) (eq-eqb hop.at other.at (sym slot.1)) in
        and_from _ _ same_ends same_slot

  in_more : (taken : List Taken) (hop other : Hop) → is_in (taken ++ hop_takes board other ∷ []) hop ≡ (is_in taken hop || takes_slot other hop)
  in_more taken hop other =
      let is_its : Taken → Bool = λ slot. (eqb slot.link (hop_link board hop) && eqb slot.at hop.at) && eqb slot.pin hop.pin in
      list_any-append is_its taken (hop_takes board other ∷ []) ∙ ap (λ (bit : Bool). is_in taken hop || bit) (or-false (takes_slot other hop))

  one_more_bit : (before own : Bool) → (own ≡ true → before ≡ false) → one_if before + one_if own ≡ one_if (before || own)
  one_more_bit true true apart = absurd (true≢false (apart refl))
  one_more_bit true false apart = refl
  one_more_bit false true apart = refl
  one_more_bit false false apart = refl

  -- a count of hops in each slot, of which those that are taken have one
  abbrev IsTally : (Hop → ℕ) → List Taken → Type 0
  IsTally count taken = (hop : Hop) → count hop ≡ one_if (is_in taken hop)

  -- one more hop is one more taken slot
  tally_one : (count : Hop → ℕ) (taken : List Taken) (other : Hop) → has_link board.links other.from other.to ≡ true
      → (is_in taken other ≡ true → ⊥) → IsTally count taken → IsTally (λ hop. count hop + one_if (share_pin hop other)) (taken ++ hop_takes board other ∷ [])
  tally_one count taken other there free tally hop =
      let apart = λ (is : takes_slot other hop ≡ true).
      let slot = one_slot other hop is in
      let same : is_in taken other ≡ is_in taken hop =
      ap₂ (λ (link at : ℕ). is_pin_taken taken link other.pin at) slot.0 slot.1
      ∙ ap (λ (pin : ℕ). is_pin_taken taken (hop_link board hop) pin hop.at) slot.2 in
      let not_before = λ (before : is_in taken hop ≡ true). free (same ∙ before) in
      let whole : is_in taken hop ≡ false = ⊎_elim (λ before. absurd (not_before before)) (λ none. none) (cases_Bool (is_in taken hop)) in whole in
      ap₂ (λ (a : ℕ) (bit : Bool). a + one_if bit) (tally hop) (shares hop other there)
      ∙ one_more_bit (is_in taken hop) (takes_slot other hop) apart
      ∙ ap one_if (sym (in_more taken hop other))

  pub tally_sent : (count : Hop → ℕ) (taken : List Taken) (ready from : ℕ) (further : List ℕ) (hops : List Hop)
      → AreLinked board.links from further → AreSent board taken ready (steps_of (from ∷ further)) hops
      → ((hop : Hop) → count hop ≡ one_if (is_in taken hop))
      → (hop : Hop) → count hop + uses hop hops ≡ one_if (is_in (taken ++ map (hop_takes board) hops) hop)
  tally_sent count taken ready from [] [] linked sent tally hop =
      let none : taken ++ [] ≡ taken = append-nil taken in
      let nothing : count hop + 0 ≡ count hop = omega arith in
      nothing ∙ tally hop ∙ ap (λ (list : List Taken). one_if (is_in list hop)) (sym none)
  tally_sent count taken ready from [] (next ∷ hops) linked sent tally hop = absurd sent
  tally_sent count taken ready from (to ∷ further) [] linked sent tally hop = absurd sent
  tally_sent count taken ready from (to ∷ further) (next ∷ hops) linked sent tally hop =
      let its_from : next.from ≡ from = ap (λ (step : ℕ × ℕ). step.0) sent.0 in
      let its_to : next.to ≡ to = ap (λ (step : ℕ × ℕ). step.1) sent.0 in
      let there : has_link board.links next.from next.to ≡ true = ap₂ (has_link board.links) its_from its_to ∙ linked.0 in
      let count_now = λ (one : Hop). count one + one_if (share_pin one next) in
      let taken_now = taken ++ hop_takes board next ∷ [] in
      let tally_now = tally_one count taken next there sent.1.free tally in
      let more = tally_sent count_now taken_now (arrival board.links next + 1) to further hops linked.1 sent.2 tally_now hop in
      let joined = append_assoc taken (hop_takes board next ∷ []) (map (hop_takes board) hops) in
      let sum : count hop + (one_if (share_pin hop next) + uses hop hops) ≡ count hop + one_if (share_pin hop next) + uses hop hops = omega arith in
      sum ∙ more ∙ ap (λ (list : List Taken). one_if (is_in list hop)) joined

-- ---- the hops of one route are written

pub uses-append : (hop : Hop) (hops more : List Hop) → uses hop (hops ++ more) ≡ uses hop hops + uses hop more
uses-append hop [] more = let none : 0 + uses hop more ≡ uses hop more = omega arith in sym none
uses-append hop (other ∷ hops) more = let rest = uses-append hop hops more in omega (arith, rest)

uses_all : (hop : Hop) (sent : List Hop) (hops : List (List Hop)) → uses hop (all_hops (sent ∷ hops)) ≡ uses hop sent + uses hop (all_hops hops)
uses_all hop sent hops = ap (uses hop) (flat_map-cons (λ (one : List Hop). one) sent hops) ∙ uses-append hop sent (all_hops hops)

pub uses_set : (hop : Hop) (hops : List (List Hop)) (number : ℕ) (sent : List Hop) → number < length hops → get_or hops number [] ≡ []
    → uses hop (all_hops (set hops number sent)) ≡ uses hop (all_hops hops) + uses hop sent
uses_set hop [] number sent within none = absurd (omega (arith, within))
uses_set hop (first ∷ hops) zero sent within none =
    let empty : uses hop first ≡ 0 = ap (uses hop) none in
    omega (arith, uses_all hop sent hops, uses_all hop first hops, empty)
uses_set hop (first ∷ hops) (suc number) sent within none =
    let rest = uses_set hop hops number sent (omega (arith, within)) none in
    omega (arith, uses_all hop first (set hops number sent), uses_all hop first hops, rest)
