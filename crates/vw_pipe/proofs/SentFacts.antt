-- What holds of hops that take the first free slots along a way.
use Rattle.std.proofs.Common.{◌≡◌, ◌<◌, ◌≤◌, ◌+◌, ◌&&◌, ◌||◌, ◌++◌, ℕ, Bool, true, false, List, [], ◌∷◌, length, map, slice_index, eqb, nat_lt, ap, ap₂, refl, sym, ◌∙◌, subst, arith, ⊎_elim, true≢false, lt-ltb}
use Rattle.std.specs.List.{All}
use Rattle.std.specs.Option.{ForSome}
use Rattle.std.specs.Prelude.{slice_get}
use Rattle.std.proofs.lemmas.Bool.{cases_Bool, and_from}
use Rattle.std.proofs.lemmas.List.Elements.{All-cons, All-nil}
use Rattle.vw_plan.specs.declared.board.Board.{Board}
use Rattle.vw_plan.specs.declared.link.Link.{Link}
use Rattle.vw_plan.specs.declared.wire.Hop.{Hop}
use Rattle.vw_plan.specs.Lead.{arrival}
use Rattle.vw_plan.specs.Routes.{steps_of}
use Rattle.vw_plan.specs.Sound.{has_pin, rises}
use Rattle.vw_plan.specs.Walks.{has_link}
use Rattle.vw_slots.specs.declared.slot.Taken.{Taken}
use Rattle.vw_pipe.specs.Steps.SentHops.{AreLinked, AreSent, link_place, hop_takes}

module _ (board : Board) where
  -- the hops go the steps
  pub sent_steps : (taken : List Taken) (ready : ℕ) (steps : List (ℕ × ℕ)) (hops : List Hop) → AreSent board taken ready steps hops
      → map (λ hop. (hop.from, hop.to)) hops ≡ steps
  sent_steps taken ready [] [] sent = refl
  sent_steps taken ready [] (hop ∷ hops) sent = absurd sent
  sent_steps taken ready (step ∷ steps) [] sent = absurd sent
  sent_steps taken ready (step ∷ steps) (hop ∷ hops) sent =
      let others = sent_steps (taken ++ hop_takes board hop ∷ []) (arrival board.links hop + 1) steps hops sent.2 in
      ap₂ (λ (one : ℕ × ℕ) (rest : List (ℕ × ℕ)). one ∷ rest) sent.0 others

  -- each is later than the one before it
  pub sent_rises : (taken : List Taken) (ready : ℕ) (steps : List (ℕ × ℕ)) (hops : List Hop) → AreSent board taken ready steps hops
      → rises board.links hops ≡ true
  sent_rises taken ready [] [] sent = refl
  sent_rises taken ready [] (hop ∷ hops) sent = absurd sent
  sent_rises taken ready (step ∷ steps) [] sent = absurd sent
  sent_rises taken ready (step ∷ []) (hop ∷ []) sent = refl
  sent_rises taken ready (step ∷ []) (hop ∷ next ∷ hops) sent = absurd sent.2
  sent_rises taken ready (step ∷ second ∷ steps) (hop ∷ []) sent = absurd sent.2
  sent_rises taken ready (step ∷ second ∷ steps) (hop ∷ next ∷ hops) sent =
      let arrives = arrival board.links hop in
      let in_time : arrives + 1 ≤ next.at = sent.2.1.in_time in
      let later : arrives < next.at = omega (arith, in_time) in
      let others = sent_rises (taken ++ hop_takes board hop ∷ []) (arrives + 1) (second ∷ steps) (next ∷ hops) sent.2 in
      and_from (nat_lt arrives next.at) (rises board.links (next ∷ hops)) (lt-ltb arrives next.at later) others

  -- the first isn't before the microcycle
  pub sent_ready : (taken : List Taken) (ready : ℕ) (steps : List (ℕ × ℕ)) (hops : List Hop) → 0 < length steps
      → AreSent board taken ready steps hops → ForSome (slice_get hops 0) (λ hop. ready ≤ hop.at)
  sent_ready taken ready [] hops some sent = absurd (omega (arith, some))
  sent_ready taken ready (step ∷ steps) [] some sent = absurd sent
  sent_ready taken ready (step ∷ steps) (hop ∷ hops) some sent = λ first is.
      let same : hop ≡ first = cc in
      subst (λ (one : Hop). ready ≤ one.at) same sent.1.in_time

  -- a pin within the width of a link is a pin of the board
  pub has_pin_within : (links : List Link) (hop : Hop) → has_link links hop.from hop.to ≡ true
      → hop.pin < slice_index (map (λ link. link.width) links) (link_place links hop.from hop.to) → has_pin links hop ≡ true
  has_pin_within [] hop there within = absurd (true≢false (sym there))
  has_pin_within (link ∷ links) hop there within =
      let here = eqb link.from hop.from && eqb link.to hop.to in
      let if_here = λ (is : here ≡ true).
      let narrow : hop.pin < link.width = rw is at within in
      let whole : has_pin (link ∷ links) hop ≡ true = rw (is, lt-ltb hop.pin link.width narrow) refl in whole in
      let if_later = λ (is : here ≡ false).
      let later : has_link links hop.from hop.to ≡ true = sym (ap (λ (bit : Bool). bit || has_link links hop.from hop.to) is) ∙ there in
      let deep : hop.pin < slice_index (map (λ one. one.width) links) (link_place links hop.from hop.to) = rw is at within in
      let whole : has_pin (link ∷ links) hop ≡ true = rw is (has_pin_within links hop later deep) in whole in
      ⊎_elim if_here if_later (cases_Bool here)

  -- so they are on pins of the board
  pub sent_pins : (taken : List Taken) (ready from : ℕ) (further : List ℕ) (hops : List Hop) → AreLinked board.links from further
      → AreSent board taken ready (steps_of (from ∷ further)) hops → All (λ hop. has_pin board.links hop ≡ true) hops
  sent_pins taken ready from [] [] linked sent = All-nil (λ hop. has_pin board.links hop ≡ true)
  sent_pins taken ready from [] (hop ∷ hops) linked sent = absurd sent
  sent_pins taken ready from (to ∷ further) [] linked sent = absurd sent
  sent_pins taken ready from (to ∷ further) (hop ∷ hops) linked sent =
      let its_from : hop.from ≡ from = ap (λ (step : ℕ × ℕ). step.0) sent.0 in
      let its_to : hop.to ≡ to = ap (λ (step : ℕ × ℕ). step.1) sent.0 in
      let there : has_link board.links hop.from hop.to ≡ true = ap₂ (has_link board.links) its_from its_to ∙ linked.0 in
      let first = has_pin_within board.links hop there sent.1.within in
      let others = sent_pins (taken ++ hop_takes board hop ∷ []) (arrival board.links hop + 1) to further hops linked.1 sent.2 in
      All-cons (λ one. has_pin board.links one ≡ true) hop hops first others
