-- The hops of a wire: each begins where the one before it ended, and the last one ends where the wire does.
use Rattle.std.proofs.Common.{◌≡◌, ◌<◌, ◌+◌, ◌∷◌, ◌==◌, ◌∙◌, ℕ, zero, suc, true, List, [], length, nat_lt, slice_get, Some, ap, sym, subst, eqb-true, arith}
use Rattle.std.specs.List.{All}
use Rattle.std.proofs.lemmas.Bool.{and_parts, ltb-true}
use Rattle.std.proofs.lemmas.Option.{get_or_from_slice_get, slice_get_within}
use Rattle.vw_plan.specs.declared.link.Link.{Link}
use Rattle.vw_plan.specs.declared.wire.Hop.{Hop}
use Rattle.vw_plan.specs.declared.wire.Wire.{Wire}
use Rattle.vw_plan.specs.Lead.{after_last, arrival}
use Rattle.vw_plan.specs.PlannedBoard.{PlannedBoard, home}
use Rattle.vw_plan.specs.Sound.{IsRising, IsRouted, IsSentWhenUsable, IsSound, leads_to, rises}
use Rattle.vw_plan.specs.Wiring.{BeginsWire, EndsWire, FollowsHop}

-- what holds of all holds of the one at a place
pub at_place : {X : Type 0} (P : X → Type 0) (xs : List X) (place : ℕ) (x : X) → All P xs → slice_get xs place ≡ Some x → P x
at_place P xs place x all is = subst P (get_or_from_slice_get xs place x x is) (all place x (slice_get_within xs place x is))

leads_first : (from to : ℕ) (hops : List Hop) (hop : Hop) → leads_to from hops to ≡ true → slice_get hops 0 ≡ Some hop → hop.from ≡ from
leads_first from to [] hop leads is = cc
leads_first from to (first ∷ hops) hop leads is =
    let same : first ≡ hop = cc in
    ap (λ (one : Hop). one.from) (sym same) ∙ eqb-true first.from from (and_parts (first.from == from) (leads_to first.to hops to) leads).0

leads_next : (from to : ℕ) (hops : List Hop) (place : ℕ) (hop next : Hop) → leads_to from hops to ≡ true → slice_get hops place ≡ Some hop
    → slice_get hops (suc place) ≡ Some next → next.from ≡ hop.to
leads_next from to [] place hop next leads is after = cc
leads_next from to (first ∷ hops) zero hop next leads is after =
    let same : first ≡ hop = cc in
    leads_first first.to to hops next (and_parts (first.from == from) (leads_to first.to hops to) leads).1 after ∙ ap (λ (one : Hop). one.to) same
leads_next from to (first ∷ hops) (suc place) hop next leads is after = leads_next first.to to hops place hop next (and_parts (first.from == from) (leads_to first.to hops to) leads).1 is after

leads_last : (from to : ℕ) (hops : List Hop) (place : ℕ) (hop : Hop) → leads_to from hops to ≡ true → slice_get hops place ≡ Some hop
    → suc place ≡ length hops → hop.to ≡ to
leads_last from to [] place hop leads is last = cc
leads_last from to (first ∷ []) zero hop leads is last =
    let same : first ≡ hop = cc in
    ap (λ (one : Hop). one.to) (sym same) ∙ eqb-true first.to to (and_parts (first.from == from) (first.to == to) leads).1
leads_last from to (first ∷ second ∷ hops) zero hop leads is last = absurd (omega (arith, last))
leads_last from to (first ∷ hops) (suc place) hop leads is last = leads_last first.to to hops place hop (and_parts (first.from == from) (leads_to first.to hops to) leads).1 is (omega (arith, last))

rises_next : (links : List Link) (hops : List Hop) (place : ℕ) (hop next : Hop) → rises links hops ≡ true → slice_get hops place ≡ Some hop
    → slice_get hops (suc place) ≡ Some next → arrival links hop < next.at
rises_next links [] place hop next rise is after = cc
rises_next links (first ∷ []) place hop next rise is after = cc
rises_next links (first ∷ second ∷ hops) zero hop next rise is after =
    let same : first ≡ hop = cc in
    let then : second ≡ next = cc in
    let before : arrival links first < second.at = ltb-true (arrival links first) second.at (and_parts (nat_lt (arrival links first) second.at) (rises links (second ∷ hops)) rise).0 in
    omega (arith, before, ap (arrival links) same, ap (λ (one : Hop). one.at) then)
rises_next links (first ∷ second ∷ hops) (suc place) hop next rise is after = rises_next links (second ∷ hops) place hop next (and_parts (nat_lt (arrival links first) second.at) (rises links (second ∷ hops)) rise).1 is after

pub after_last-at : (links : List Link) (hops : List Hop) (place : ℕ) (hop : Hop) → slice_get hops place ≡ Some hop
    → suc place ≡ length hops → after_last links hops ≡ arrival links hop + 1
after_last-at links [] place hop is last = cc
after_last-at links (first ∷ []) zero hop is last = let same : first ≡ hop = cc in ap (λ (one : Hop). arrival links one + 1) same
after_last-at links (first ∷ []) (suc place) hop is last = cc
after_last-at links (first ∷ second ∷ hops) zero hop is last = absurd (omega (arith, last))
after_last-at links (first ∷ second ∷ hops) (suc place) hop is last = after_last-at links (second ∷ hops) place hop is (omega (arith, last))

module _ (planned : PlannedBoard) (sound : IsSound planned) (number : ℕ) (wire : Wire) (there : slice_get planned.plan.wires number ≡ Some wire) where
  pub routed : IsRouted planned wire
  routed = at_place (IsRouted planned) planned.plan.wires number wire sound.routes there

  pub begins : (hop : Hop) → slice_get wire.hops 0 ≡ Some hop → BeginsWire planned wire hop
  begins hop is = record {
    from = leads_first (home planned wire.net) wire.to wire.hops hop routed.leads is;
    ready = at_place (IsSentWhenUsable planned) planned.plan.wires number wire sound.sent_when_usable there hop is;
  }

  pub goes_on : (place : ℕ) (hop next : Hop) → slice_get wire.hops place ≡ Some hop → slice_get wire.hops (place + 1) ≡ Some next → FollowsHop planned hop next
  goes_on place hop next is after =
      let later : place + 1 ≡ suc place = omega arith in
      let then = ap (slice_get wire.hops) (sym later) ∙ after in
      record {
        from = leads_next (home planned wire.net) wire.to wire.hops place hop next routed.leads is then;
        later = rises_next planned.board.links wire.hops place hop next (at_place (IsRising planned) planned.plan.wires number wire sound.rising_microcycles there).later is then;
      }

  pub ends : (place : ℕ) (hop : Hop) → slice_get wire.hops place ≡ Some hop → place + 1 ≡ length wire.hops → EndsWire planned wire hop
  ends place hop is last = record {
    to = leads_last (home planned wire.net) wire.to wire.hops place hop routed.leads is (omega (arith, last));
    brings = after_last-at planned.board.links wire.hops place hop is (omega (arith, last));
  }
