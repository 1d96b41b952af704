-- The inlets of nodes, as they are listed.
use Rattle.std.proofs.Common.{◌≡◌, ◌≤◌, ◌+◌, ◌++◌, ◌&&◌, ◌==◌, ℕ, zero, suc, Bool, true, false, List, [], ◌∷◌, length, slice_get, Some, ap, refl, sym, subst, ◌∙◌, ◌⊎◌, inl, inr, ⊎_elim, length-append, All, arith}
use Rattle.std.specs.List.{count_by, filter}
use Rattle.std.specs.List.Sorted.{IsPermutation}
use Rattle.std.proofs.lemmas.List.Sorted.{sum_by-IsPermutation}
use Rattle.std.proofs.lemmas.Option.{same_Some}
use Rattle.vw_net.specs.Steps.Bits.{one_if}
use Rattle.vw_net.proofs.CountsOverLists.{count_filter, count_le, count_map, count_sum}
use Rattle.vw_plan.specs.declared.need.Need.{Need}
use Rattle.vw_plan.specs.Needs.{is_pair, needed_pairs}
use Rattle.vw_bound.specs.PlacedDesigns.{PlacedDesign, flat_of}
use Rattle.vw_short_bound.specs.declared.inlets.Class.{Class}
use Rattle.vw_short_bound.specs.declared.inlets.Inlet.{Inlet}
use Rattle.vw_short_bound.specs.declared.inlets.Inlets.{Inlets}
use Rattle.vw_short_bound.specs.Steps.Plans.{AreInlets, pairs_at}
use Rattle.vw_short_bound.specs.Steps.Inlets.{AreInletsOf, IsClassOf, TablesSoFar, inlet_nets, inlet_pairs}

-- inlets that are listed from the needed pairs, and sorted, are needed, and stand once
pub are_inlets : (placed : PlacedDesign) (node : ℕ) (inlets sorted : List Inlet) (nets : List ℕ) → inlet_pairs node inlets ≡ filter (λ need. need.to == node) (needed_pairs (flat_of placed) placed.chip_of)
    → IsPermutation inlets sorted → nets ≡ inlet_nets sorted → AreInlets placed node nets
are_inlets placed node inlets sorted nets listed moved are net to =
    let test = is_pair net to in
    let needs = needed_pairs (flat_of placed) placed.chip_of in
    let here = λ (need : Need). need.to == node in
    let of_net : ℕ → Need = λ one. record { net = one; to = node } in
    let pair_of_inlet : Inlet → Need = λ inlet. record { net = inlet.net; to = node } in
    let its = λ (inlet : Inlet). test (record { net = inlet.net; to = node }) in
    let by_nets : count_by test (pairs_at node nets) ≡ count_by its sorted = ap (λ (list : List ℕ). count_by test (pairs_at node list)) are ∙ count_map test of_net (inlet_nets sorted) ∙ count_map (λ (one : ℕ). test (of_net one)) (λ (inlet : Inlet). inlet.net) sorted in
    let as_many : count_by its sorted ≡ count_by its inlets = count_sum its sorted ∙ sum_by-IsPermutation (λ inlet. one_if (its inlet)) inlets sorted moved ∙ sym (count_sum its inlets) in
    let by_needs : count_by its inlets ≡ count_by (λ need. here need && test need) needs = sym (count_map test pair_of_inlet inlets) ∙ ap (count_by test) listed ∙ count_filter test here needs in
    let fewer = count_le (λ need. here need && test need) test needs (λ need. both (here need) (test need)) in
    omega (arith, by_nets, as_many, by_needs, fewer)
  where
    both : (one other : Bool) → one_if (one && other) ≤ one_if other
    both true other = omega arith
    both false true = omega arith
    both false false = omega arith

-- what stands at a place of a list with one more
pushed_at : {X : Type 0} (xs : List X) (x : X) (place : ℕ) (one : X) → slice_get (xs ++ x ∷ []) place ≡ Some one → (slice_get xs place ≡ Some one) ⊎ ((place ≡ length xs) × (x ≡ one))
pushed_at [] x zero one at = inr (refl, same_Some x one at)
pushed_at [] x (suc place) one at = cc
pushed_at (y ∷ xs) x zero one at = inl at
pushed_at (y ∷ xs) x (suc place) one at = ⊎_elim (λ before. inl before) (λ last. inr (ap suc last.0, last.1)) (pushed_at xs x place one at)

-- one more node
pub tables_next : (placed : PlacedDesign) (place : ℕ) (tables : List Inlets) (inlets : Inlets) → AreInletsOf placed place inlets → TablesSoFar placed place tables → TablesSoFar placed (place + 1) (tables ++ inlets ∷ [])
tables_next placed place tables inlets own so_far =
    let each = so_far.each in
    record {
      each = omega (arith, each, length-append tables (inlets ∷ []));
      of = λ node table at. ⊎_elim (λ before. so_far.of node table before) (λ last. let same : place ≡ node = sym (last.0 ∙ each) in subst (λ (n : ℕ). AreInletsOf placed n table) same (subst (AreInletsOf placed place) last.1 own)) (pushed_at tables inlets node table at);
    }

-- the inlets that are made of nets and of their classes
pub made : (placed : PlacedDesign) (node : ℕ) (nets lent : List ℕ) (classes : List Class) (own : Inlets) → AreInlets placed node nets → lent ≡ nets → All (IsClassOf placed node lent) classes
    → own.nets ≡ nets → own.classes ≡ classes → AreInletsOf placed node own
made placed node nets lent classes own needed same each nets_are classes_are = record {
  needed = subst (AreInlets placed node) (sym nets_are) needed;
  each = subst (λ (list : List Class). All (IsClassOf placed node own.nets) list) (sym classes_are) (subst (λ (list : List ℕ). All (IsClassOf placed node list) classes) (same ∙ sym nets_are) each);
}
