-- The reads that cross, one by one, are the needed pairs; sorted, and each kept once, they are their list.
use Rattle.std.proofs.Common.{◌≡◌, ◌&&◌, ◌||◌, ℕ, Bool, true, false, not, List, [], ◌∷◌, map, cond, eqb, ap, ap₂, refl, sym, ◌∙◌, ⊎_elim, eqb-true, eq-eqb, ne_eqb, arith}
use Rattle.std.specs.Cmp.{IsEquivalence, both_ways}
use Rattle.std.specs.List.{Any, Contains, dedup, filter, list_any, zip}
use Rattle.std.specs.List.Sorted.{IsPermutation, IsSorted, IsStrictlySortedBy}
use Rattle.std.specs.Ordering.{eq_by_cmp, is_eq, nat_cmp, ordering_then}
use Rattle.std.specs.declared.cmp.Ordering.{Ordering}
use Rattle.std.specs.declared.cmp.Ordering.TheVariants.{Less, Equal, Greater}
use Rattle.std.proofs.lemmas.Bool.{cases_Bool, cases_eq, and_from, and_left, and_parts, and_right}
use Rattle.std.proofs.lemmas.Cmp.{and_equiv, nat_eq_equiv, on_equiv}
use Rattle.std.proofs.lemmas.List.Folds.{Any-from_list_any, list_any-append, list_any-from_Any}
use Rattle.std.proofs.lemmas.List.Kept.{Contains-dedup, Contains-from_dedup, IsStrictlySortedBy-dedup}
use Rattle.std.proofs.lemmas.List.Sorted.{list_any-IsPermutation}
use Rattle.vw_net.specs.declared.cell.Cell.{Cell}
use Rattle.vw_net.specs.declared.flat.Flat.{Flat}
use Rattle.vw_net.specs.Cells.{read_nets}
use Rattle.vw_net.specs.Order.{is_among}
use Rattle.vw_plan.specs.declared.need.Need.{Need}
use Rattle.vw_plan.proofs.NeededPairs.{need_cmp, need_of}
use Rattle.vw_plan.specs.Needs.{is_pair}
use Rattle.vw_plan.specs.Nets.{is_needed, node_of}
use Rattle.vw_wires.specs.Steps.Crossings.{cell_crossings, crossing_nets, crossings}
use Rattle.vw_wires.proofs.RisingPairs.{HaveSame, need_cmp_total, unique}

-- ---- tests

and_over_or : (one first second : Bool) → ((one && first) || (one && second)) ≡ (one && (first || second))
and_over_or true first second = refl
and_over_or false first second = refl

-- ---- which pairs cross

-- a node has the pairs of the nets that it is listed with
any_here : (net node : ℕ) (nets : List ℕ) → list_any (is_pair net node) (map (λ own. need_of own node) nets) ≡ is_among nets net
any_here net node [] = refl
any_here net node (other ∷ nets) =
    let own : is_pair net node (need_of other node) ≡ eqb other net = both_ways (is_pair net node (need_of other node)) (eqb other net) (λ is. (and_parts (eqb other net) (eqb node node) is).0) (λ is. and_from (eqb other net) (eqb node node) is (eq-eqb node node refl)) in
    ap₂ (λ (first rest : Bool). first || rest) own (any_here net node nets)

-- and none of another node
any_elsewhere : (net node at : ℕ) (nets : List ℕ) → eqb at node ≡ false → list_any (is_pair net node) (map (λ own. need_of own at) nets) ≡ false
any_elsewhere net node at [] apart = refl
any_elsewhere net node at (other ∷ nets) apart = ap₂ (λ (first rest : Bool). first || rest) (and_right (eqb other net) (eqb at node) apart) (any_elsewhere net node at nets apart)

-- a number is left of some where it was one of them and passes the test
any_kept : (test : ℕ → Bool) (number : ℕ) (numbers : List ℕ) → is_among (filter test numbers) number ≡ (test number && is_among numbers number)
any_kept test number [] = sym (and_right (test number) false refl)
any_kept test number (other ∷ numbers) =
    let rest = any_kept test number numbers in
    let whole = (test number && (eqb other number || is_among numbers number)) in
    let if_same = λ (same : other ≡ number).
    let here : eqb other number ≡ true = eq-eqb other number same in
    let if_kept = λ (kept : test other ≡ true).
    let left : is_among (filter test (other ∷ numbers)) number ≡ true = ap (λ (bit : Bool). is_among (cond bit (other ∷ filter test numbers) (filter test numbers)) number) kept ∙ ap (λ (bit : Bool). bit || is_among (filter test numbers) number) here in
    let right : whole ≡ true = and_from _ _ (ap test (sym same) ∙ kept) (ap (λ (bit : Bool). bit || is_among numbers number) here) in
    left ∙ sym right in
    let if_out = λ (out : test other ≡ false).
    let left : is_among (filter test (other ∷ numbers)) number ≡ (test number && is_among numbers number) = ap (λ (bit : Bool). is_among (cond bit (other ∷ filter test numbers) (filter test numbers)) number) out ∙ rest in
    let fails : test number ≡ false = ap test (sym same) ∙ out in
    left ∙ and_left (test number) (is_among numbers number) fails ∙ sym (and_left (test number) (eqb other number || is_among numbers number) fails) in
    ⊎_elim if_kept if_out (cases_Bool (test other)) in
    let if_other = λ (apart : other ≡ number → ⊥).
    let not_here : eqb other number ≡ false = ne_eqb other number apart in
    let skip : whole ≡ (test number && is_among numbers number) = ap (λ (bit : Bool). test number && (bit || is_among numbers number)) not_here in
    let kept_or_not : (bit : Bool) → is_among (cond bit (other ∷ filter test numbers) (filter test numbers)) number ≡ is_among (filter test numbers) number = λ bit. elim bit as (λ kept. is_among (cond kept (other ∷ filter test numbers) (filter test numbers)) number ≡ is_among (filter test numbers) number) [
      | true ↦ ap (λ (first : Bool). first || is_among (filter test numbers) number) not_here
      | false ↦ refl
    ] in
    kept_or_not (test other) ∙ rest ∙ sym skip in
    ⊎_elim if_same if_other (cases_eq other number)

module _ (flat : Flat) (chip_of : List ℕ) (net node : ℕ) where
  abbrev leaves : Bool
  leaves = not (eqb (node_of flat chip_of net) node)

  abbrev has_pair : List Need → Bool
  has_pair needs = list_any (is_pair net node) needs

  -- of the nets that a node reads, the net is listed at the node if it is among them and of another node
  any_crossing : (at : ℕ) (nets : List ℕ) → has_pair (crossing_nets flat chip_of at nets) ≡ (leaves && (eqb at node && is_among nets net))
  any_crossing at nets =
      let test = λ (other : ℕ). not (eqb (node_of flat chip_of other) at) in
      let if_here = λ (here : at ≡ node).
      let listed : has_pair (crossing_nets flat chip_of node nets) ≡ (leaves && is_among nets net) = any_here net node (filter (λ (other : ℕ). not (eqb (node_of flat chip_of other) node)) nets) ∙ any_kept (λ (other : ℕ). not (eqb (node_of flat chip_of other) node)) net nets in
      let skip : (leaves && (eqb at node && is_among nets net)) ≡ (leaves && is_among nets net) = ap (λ (bit : Bool). leaves && (bit && is_among nets net)) (eq-eqb at node here) in
      ap (λ (place : ℕ). has_pair (crossing_nets flat chip_of place nets)) here ∙ listed ∙ sym skip in
      let if_away = λ (away : at ≡ node → ⊥).
      let apart : eqb at node ≡ false = ne_eqb at node away in
      any_elsewhere net node at (filter test nets) apart ∙ sym (and_right leaves (eqb at node && is_among nets net) (and_left (eqb at node) (is_among nets net) apart)) in
      ⊎_elim if_here if_away (cases_eq at node)

  any_cells : (placed : List (ℕ × Cell)) → has_pair (cell_crossings flat chip_of placed) ≡ (leaves && list_any (λ (one : ℕ × Cell). eqb one.0 node && is_among (read_nets one.1) net) placed)
  any_cells [] = sym (and_right leaves false refl)
  any_cells (one ∷ placed) =
      list_any-append (is_pair net node) (crossing_nets flat chip_of one.0 (read_nets one.1)) (cell_crossings flat chip_of placed)
      ∙ ap₂ (λ (first rest : Bool). first || rest) (any_crossing one.0 (read_nets one.1)) (any_cells placed)
      ∙ and_over_or leaves _ _

  -- a pair crosses where it is needed
  pub any_crossings : has_pair (crossings flat chip_of) ≡ is_needed flat chip_of net node
  any_crossings =
      list_any-append (is_pair net node) (cell_crossings flat chip_of (zip chip_of flat.cells)) (crossing_nets flat chip_of 0 flat.outputs)
      ∙ ap₂ (λ (first rest : Bool). first || rest) (any_cells (zip chip_of flat.cells)) (any_crossing 0 flat.outputs ∙ ap (λ (host : Bool). leaves && (host && is_among flat.outputs net)) (turned 0 node))
      ∙ and_over_or leaves _ _
    where
      turned : (one other : ℕ) → eqb one other ≡ eqb other one
      turned one other = both_ways (eqb one other) (eqb other one) (λ is. eq-eqb other one (sym (eqb-true one other is))) (λ is. eq-eqb one other (sym (eqb-true other one is)))

-- ---- sorted, and each kept once

abbrev pub same : Need → Need → Bool
same need other = eqb need.net other.net && eqb need.to other.to

same_equiv : IsEquivalence same
same_equiv = and_equiv (on_equiv (λ (need : Need). need.net) nat_eq_equiv) (on_equiv (λ (need : Need). need.to) nat_eq_equiv)

same_is : (need other : Need) → same need other ≡ true → need ≡ other
same_is need other is =
    let parts = and_parts (eqb need.net other.net) (eqb need.to other.to) is in
    ap₂ (λ (net node : ℕ). need_of net node) (eqb-true need.net other.net parts.0) (eqb-true need.to other.to parts.1)

tied_number : (one other : ℕ) → is_eq (nat_cmp one other) ≡ eqb one other
tied_number one other = grind arith

tied_then : (first second : Ordering) → is_eq (ordering_then first second) ≡ (is_eq first && is_eq second)
tied_then Less second = refl
tied_then Equal second = refl
tied_then Greater second = refl

ties : (need other : Need) → same need other ≡ eq_by_cmp need_cmp need other
ties need other = sym (tied_then (nat_cmp need.net other.net) (nat_cmp need.to other.to) ∙ ap₂ (λ (first second : Bool). first && second) (tied_number need.net other.net) (tied_number need.to other.to))

-- keeping each once keeps what is listed
kept_same : (needs : List Need) → HaveSame (dedup same needs) needs
kept_same needs net node =
    let test = is_pair net node in
    let to = λ (listed : list_any test (dedup same needs) ≡ true).
    let any : Any (λ need. test need ≡ true) (dedup same needs) = Any-from_list_any test (dedup same needs) listed in
    let there : Contains needs any.1 = Contains-from_dedup same needs any.1 (any.0, any.2, any.3) in
    list_any-from_Any test needs (there.0, any.1, there.1, there.2, any.4) in
    let from = λ (listed : list_any test needs ≡ true).
    let any : Any (λ need. test need ≡ true) needs = Any-from_list_any test needs listed in
    let there : Contains (dedup same needs) any.1 = Contains-dedup same_equiv same_is needs any.1 (any.0, any.2, any.3) in
    list_any-from_Any test (dedup same needs) (there.0, any.1, there.1, there.2, any.4) in
    both_ways (list_any test (dedup same needs)) (list_any test needs) to from

-- pairs that are listed in any way, sorted, and kept once, are the list of the same pairs that rises
pub sorted_once : (listed sorted kept needs : List Need) → IsPermutation listed sorted → IsSorted need_cmp sorted → kept ≡ dedup same sorted → IsStrictlySortedBy need_cmp needs → HaveSame listed needs → kept ≡ needs
sorted_once listed sorted kept needs moved in_order is rise have =
    is ∙ unique (dedup same sorted) needs (IsStrictlySortedBy-dedup need_cmp_total ties sorted in_order) rise (λ net node. kept_same sorted net node ∙ sym (list_any-IsPermutation (is_pair net node) listed sorted moved) ∙ have net node)
