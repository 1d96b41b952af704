-- Hops of which no two share a pin.
use Rattle.std.proofs.Common.{◌≡◌, ◌<◌, ◌≤◌, ◌∷◌, ◌&&◌, ◌==◌, ◌∙◌, ◌⊎◌, inl, inr, ℕ, suc, true, false, not, List, [], length, get_or, slice_get, Some, eqb, ap, refl, sym, ⊎_elim, true≢false, eqb-true, eq-eqb, arith}
use Rattle.std.specs.List.{AllPairs, count_by}
use Rattle.std.proofs.lemmas.Bool.{and_from, and_parts, cases_Bool, cases_order}
use Rattle.vw_net.proofs.ListedLists.{flat_pairs}
use Rattle.vw_net.specs.Steps.Bits.{one_if}
use Rattle.vw_plan.specs.declared.wire.Hop.{Hop}
use Rattle.vw_plan.specs.declared.wire.Wire.{Wire}
use Rattle.vw_plan.specs.PlannedBoard.{PlannedBoard}
use Rattle.vw_plan.specs.Sound.{IsSound, hops_of, share_pin}
use Rattle.vw_net.proofs.CountsOverLists.{count_cons}

-- hops that share the pin of one share a pin
share_both : (hop one other : Hop) → share_pin hop one ≡ true → share_pin hop other ≡ true → share_pin one other ≡ true
share_both hop one other first second =
    let p = and_parts (hop.from == one.from && hop.to == one.to) (hop.pin == one.pin && hop.at == one.at) first in
    let q = and_parts (hop.from == other.from && hop.to == other.to) (hop.pin == other.pin && hop.at == other.at) second in
    let p_ends = and_parts (hop.from == one.from) (hop.to == one.to) p.0 in
    let q_ends = and_parts (hop.from == other.from) (hop.to == other.to) q.0 in
    let p_slot = and_parts (hop.pin == one.pin) (hop.at == one.at) p.1 in
    let q_slot = and_parts (hop.pin == other.pin) (hop.at == other.at) q.1 in
    let same = λ (a b c : ℕ) (x : eqb a b ≡ true) (y : eqb a c ≡ true). eq-eqb b c (sym (eqb-true a b x) ∙ eqb-true a c y) in
    and_from (one.from == other.from && one.to == other.to) (one.pin == other.pin && one.at == other.at)
    (and_from (one.from == other.from) (one.to == other.to) (same hop.from one.from other.from p_ends.0 q_ends.0) (same hop.to one.to other.to p_ends.1 q_ends.1))
    (and_from (one.pin == other.pin) (one.at == other.at) (same hop.pin one.pin other.pin p_slot.0 q_slot.0) (same hop.at one.at other.at p_slot.1 q_slot.1))

none_counted : (hop : Hop) (hops : List Hop)
    → ((place : ℕ) (default : Hop) → place < length hops → share_pin hop (get_or hops place default) ≡ false)
    → count_by (share_pin hop) hops ≡ 0
none_counted hop [] none = omega arith
none_counted hop (first ∷ hops) none =
    let here : one_if (share_pin hop first) ≡ 0 = ap one_if (none 0 first (omega arith)) in
    omega (arith, count_cons (share_pin hop) first hops, here, none_counted hop hops (λ place default within. none (suc place) default (omega (arith, within))))

few_counted : (hop : Hop) (hops : List Hop) → AllPairs (λ one other. not (share_pin one other) ≡ true) hops → count_by (share_pin hop) hops ≤ 1
few_counted hop [] once = omega arith
few_counted hop (first ∷ hops) once =
    let rest = few_counted hop hops (λ i j default before within. once (suc i) (suc j) default (omega (arith, before)) (omega (arith, within))) in
    let if_here = λ (is : share_pin hop first ≡ true).
    let one : one_if (share_pin hop first) ≡ 1 = ap one_if is in
    let none = none_counted hop hops (λ place default within.
    let other = get_or hops place default in
    ⊎_elim (λ shares. absurd (true≢false (sym (once 0 (suc place) default (omega arith) (omega (arith, within))) ∙ ap not (share_both hop first other is shares)))) (λ apart. apart) (cases_Bool (share_pin hop other))) in
    let whole : count_by (share_pin hop) (first ∷ hops) ≤ 1 = omega (arith, count_cons (share_pin hop) first hops, one, none) in whole in
    let if_not = λ (is : share_pin hop first ≡ false).
    let none : one_if (share_pin hop first) ≡ 0 = ap one_if is in
    let whole : count_by (share_pin hop) (first ∷ hops) ≤ 1 = omega (arith, count_cons (share_pin hop) first hops, none, rest) in whole in
    ⊎_elim if_here if_not (cases_Bool (share_pin hop first))

pub one_user : (planned : PlannedBoard) (hop : Hop) → IsSound planned → count_by (share_pin hop) (hops_of planned.plan) ≤ 1
one_user planned hop sound = few_counted hop (hops_of planned.plan) sound.one_hop_a_pin

-- ---- by places

share_turned : (hop other : Hop) → share_pin hop other ≡ true → share_pin other hop ≡ true
share_turned hop other shares = share_both hop other hop shares (own hop) where
  own : (one : Hop) → share_pin one one ≡ true
  own one =
      and_from (one.from == one.from && one.to == one.to) (one.pin == one.pin && one.at == one.at)
      (and_from (one.from == one.from) (one.to == one.to) (eq-eqb one.from one.from refl) (eq-eqb one.to one.to refl))
      (and_from (one.pin == one.pin) (one.at == one.at) (eq-eqb one.pin one.pin refl) (eq-eqb one.at one.at refl))

-- so a hop that shares the pin and the microcycle of another one is that one: the same hop of the same wire
pub only_user : (planned : PlannedBoard) → IsSound planned → (number place other further : ℕ) (wire second : Wire) (hop one : Hop)
    → slice_get planned.plan.wires number ≡ Some wire → slice_get wire.hops place ≡ Some hop
    → slice_get planned.plan.wires other ≡ Some second → slice_get second.hops further ≡ Some one
    → share_pin hop one ≡ true → (number ≡ other) × (place ≡ further)
only_user planned sound number place other further wire second hop one at is there its shares =
    let wires = planned.plan.wires in
    let P = λ (x y : Hop). not (share_pin x y) ≡ true in
    let hops_in = λ (w : Wire). w.hops in
    let before = λ (less : (number < other) ⊎ ((number ≡ other) × (place < further))). true≢false (sym (flat_pairs hops_in P wires sound.one_hop_a_pin number place other further wire second hop one at is there its less) ∙ ap not shares) in
    let after = λ (more : (other < number) ⊎ ((other ≡ number) × (further < place))). true≢false (sym (flat_pairs hops_in P wires sound.one_hop_a_pin other further number place second wire one hop there its at is more) ∙ ap not (share_turned hop one shares)) in
    let if_same = λ (same : number ≡ other). ⊎_elim (λ equal. (same, equal)) (λ apart. ⊎_elim (λ less. absurd (before (inr (same, less)))) (λ more. absurd (after (inr (sym same, more)))) apart) (cases_order place further) in
    ⊎_elim if_same (λ apart. ⊎_elim (λ less. absurd (before (inl less))) (λ more. absurd (after (inl more))) apart) (cases_order number other)
