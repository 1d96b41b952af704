-- The nets of a cell, sorted and each kept once; and those of all cells.
use Rattle.std.proofs.Common.{◌≡◌, ◌<◌, ◌≤◌, ◌+◌, ◌||◌, ℕ, suc, Bool, true, false, List, [], ◌∷◌, ◌++◌, length, get_or, eqb, ap, refl, sym, subst, ◌∙◌, ⊎_elim, eqb-true, All, arith}
use Rattle.std.specs.List.{AllPairs, Any, Contains, dedup, list_any}
use Rattle.std.specs.List.Sorted.{IsPermutation, IsSorted}
use Rattle.std.specs.Ordering.{nat_cmp}
use Rattle.std.proofs.lemmas.Bool.{cases_eq, or_cases}
use Rattle.std.proofs.lemmas.List.Elements.{All-cons, All-head, All-nil, All-tail}
use Rattle.std.proofs.lemmas.List.Folds.{Any-from_list_any, list_any-append, list_any-from_Any}
use Rattle.std.proofs.lemmas.List.Kept.{AllPairs-from_increasing, Contains-dedup_nat, Contains-from_dedup}
use Rattle.std.proofs.lemmas.List.Sorted.{list_any-IsPermutation}
use Rattle.std.proofs.lemmas.List.Sums.{sum_by-cons}
use Rattle.std.proofs.lemmas.Map.Keys.{IsStrictlyIncreasing-dedup}
use Rattle.std.specs.Cmp.{both_ways}
use Rattle.vw_net.proofs.Orders.{among_below, at_among}
use Rattle.vw_net.specs.declared.cell.Cell.{Cell}
use Rattle.vw_net.specs.Cells.{IsWellFormed, read_nets}
use Rattle.vw_net.specs.Order.{is_among}
use Rattle.vw_part.specs.Steps.CellNets.{AreNetsOf, AreCellNets, times_among}
use Rattle.vw_part.proofs.Shares.{at, at_other, at_same}

-- ---- numbers that rise

rising_none : (first : ℕ) (numbers : List ℕ) (number : ℕ) → AllPairs (λ x y. x < y) (first ∷ numbers) → number ≤ first → times_among numbers number ≡ 0
rising_none first [] number rise low = refl
rising_none first (next ∷ numbers) number rise low =
    let above : first < next = rise 0 1 0 (omega arith) (omega arith) in
    let rest = rising_none next numbers number (λ i j default before within. rise (suc i) (suc j) default (omega arith) (omega arith)) (omega arith) in
    omega (arith, sum_by-cons (λ x. at x 1 number) next numbers, at_other next 1 number (λ is. omega arith), rest)

rising_once : (numbers : List ℕ) (number : ℕ) → AllPairs (λ x y. x < y) numbers → times_among numbers number ≤ 1
rising_once [] number rise = omega arith
rising_once (first ∷ numbers) number rise =
    let times = sum_by-cons (λ x. at x 1 number) first numbers in
    let if_here = λ (here : first ≡ number).
    let unit : at first 1 number ≡ 1 = subst (λ (x : ℕ). at first 1 x ≡ 1) here (at_same first 1) in
    let sum : times_among (first ∷ numbers) number ≤ 1 = omega (arith, times, unit, rising_none first numbers number rise (omega arith)) in sum in
    let if_not = λ (apart : first ≡ number → ⊥).
    let sum : times_among (first ∷ numbers) number ≤ 1 = omega (arith, times, at_other first 1 number apart, rising_once numbers number (λ i j default before within. rise (suc i) (suc j) default (omega arith) (omega arith))) in sum in
    ⊎_elim if_here if_not (cases_eq first number)

-- ---- one cell

kept_same : (numbers : List ℕ) (number : ℕ) → is_among (dedup eqb numbers) number ≡ is_among numbers number
kept_same numbers number =
    let test = λ (other : ℕ). eqb other number in
    let to = λ (listed : list_any test (dedup eqb numbers) ≡ true).
    let any : Any (λ other. test other ≡ true) (dedup eqb numbers) = Any-from_list_any test (dedup eqb numbers) listed in
    let there : Contains numbers any.1 = Contains-from_dedup eqb numbers any.1 (any.0, any.2, any.3) in
    list_any-from_Any test numbers (there.0, any.1, there.1, there.2, any.4) in
    let from = λ (listed : list_any test numbers ≡ true).
    let any : Any (λ other. test other ≡ true) numbers = Any-from_list_any test numbers listed in
    let there : Contains (dedup eqb numbers) any.1 = Contains-dedup_nat numbers any.1 (any.0, any.2, any.3) in
    list_any-from_Any test (dedup eqb numbers) (there.0, any.1, there.1, there.2, any.4) in
    both_ways (list_any test (dedup eqb numbers)) (list_any test numbers) to from

or_turned : (one other : Bool) → (one || (other || false)) ≡ (other || one)
or_turned true true = refl
or_turned true false = refl
or_turned false true = refl
or_turned false false = refl

pub kept_once : (own : ℕ) (cell : Cell) (reads listed sorted kept : List ℕ) → reads ≡ read_nets cell → listed ≡ reads ++ own ∷ [] → IsPermutation listed sorted → IsSorted nat_cmp sorted → kept ≡ dedup eqb sorted → AreNetsOf own cell kept
kept_once own cell reads listed sorted kept read is moved in_order once = record {
  same = λ net.
      ap (λ (l : List ℕ). is_among l net) once
      ∙ kept_same sorted net
      ∙ sym (list_any-IsPermutation (λ (other : ℕ). eqb other net) listed sorted moved)
      ∙ ap (λ (l : List ℕ). is_among l net) is
      ∙ list_any-append (λ (other : ℕ). eqb other net) reads (own ∷ [])
      ∙ or_turned (is_among reads net) (eqb own net)
      ∙ ap (λ (l : List ℕ). eqb own net || is_among l net) read;
  once = λ net. subst (λ (l : List ℕ). times_among l net ≤ 1) (sym once) (rising_once (dedup eqb sorted) net (AllPairs-from_increasing (dedup eqb sorted) (IsStrictlyIncreasing-dedup sorted in_order)));
}

-- ---- all cells

pub nets_push : (own : ℕ) (cells : List Cell) (cell_nets : List (List ℕ)) (cell : Cell) (nets : List ℕ) → AreCellNets own cells cell_nets → AreNetsOf (own + length cells) cell nets → AreCellNets own (cells ++ cell ∷ []) (cell_nets ++ nets ∷ [])
nets_push own [] [] cell nets are next = (subst (λ (net : ℕ). AreNetsOf net cell nets) (omega arith) next, tt)
nets_push own [] (other ∷ cell_nets) cell nets are next = absurd are
nets_push own (first ∷ cells) [] cell nets are next = absurd are
nets_push own (first ∷ cells) (other ∷ cell_nets) cell nets are next = (are.0, nets_push (own + 1) cells cell_nets cell nets are.1 (subst (λ (net : ℕ). AreNetsOf net cell nets) (omega arith) next))

pub nets_long : (own : ℕ) (cells : List Cell) (cell_nets : List (List ℕ)) → AreCellNets own cells cell_nets → length cell_nets ≡ length cells
nets_long own [] [] are = refl
nets_long own [] (nets ∷ cell_nets) are = absurd are
nets_long own (cell ∷ cells) [] are = absurd are
nets_long own (cell ∷ cells) (nets ∷ cell_nets) are = omega (arith, nets_long (own + 1) cells cell_nets are.1)

pub nets_once : (own : ℕ) (cells : List Cell) (cell_nets : List (List ℕ)) → AreCellNets own cells cell_nets → All (λ nets. (net : ℕ) → times_among nets net ≤ 1) cell_nets
nets_once own [] [] are = All-nil (λ nets. (net : ℕ) → times_among nets net ≤ 1)
nets_once own [] (nets ∷ cell_nets) are = absurd are
nets_once own (cell ∷ cells) [] are = absurd are
nets_once own (cell ∷ cells) (nets ∷ cell_nets) are = All-cons (λ nets. (net : ℕ) → times_among nets net ≤ 1) nets cell_nets are.0.once (nets_once (own + 1) cells cell_nets are.1)

within_one : (own bound : ℕ) (cell : Cell) (nets : List ℕ) → own < bound → All (λ net. net < bound) (read_nets cell) → AreNetsOf own cell nets → All (λ net. net < bound) nets
within_one own bound cell nets low reads are place default within =
    let net = get_or nets place default in
    let among : (eqb own net || is_among (read_nets cell) net) ≡ true = sym (are.same net) ∙ at_among nets place default within in
    let if_own = λ (here : eqb own net ≡ true). let is : own ≡ net = eqb-true own net here in subst (λ (x : ℕ). x < bound) is low in
    let if_read = λ (read : is_among (read_nets cell) net ≡ true). among_below (read_nets cell) net bound reads read in
    ⊎_elim if_own if_read (or_cases (eqb own net) (is_among (read_nets cell) net) among)

pub nets_within : (own bound : ℕ) (cells : List Cell) (cell_nets : List (List ℕ)) → own + length cells ≤ bound → All (IsWellFormed bound) cells → AreCellNets own cells cell_nets → All (λ nets. All (λ net. net < bound) nets) cell_nets
nets_within own bound [] [] low fit are = All-nil (λ nets. All (λ net. net < bound) nets)
nets_within own bound [] (nets ∷ cell_nets) low fit are = absurd are
nets_within own bound (cell ∷ cells) [] low fit are = absurd are
nets_within own bound (cell ∷ cells) (nets ∷ cell_nets) low fit are =
    All-cons (λ nets. All (λ net. net < bound) nets) nets cell_nets (within_one own bound cell nets (omega arith) (All-head (IsWellFormed bound) cell cells fit).1 are.0) (nets_within (own + 1) bound cells cell_nets (omega arith) (All-tail (IsWellFormed bound) cell cells fit) are.1)
