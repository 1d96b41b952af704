-- Exchanges of two places of a list of nodes, and tries of several.
use denote.Ref.{Bor}
use Rattle.std.proofs.Common.{◌≡◌, ◌<◌, ◌≤◌, ◌+◌, ◌⊎◌, ℕ, List, length, get_or, ap, ap₂, refl, inl, inr, sym, subst, ◌∙◌, ⊎_elim, eq-eqb, ne_eqb, arith}
use Rattle.std.specs.List.{range_with_len, swap}
use Rattle.std.proofs.lemmas.Bool.{cases_eq, cases_lt}
use Rattle.std.proofs.lemmas.List.{ext_get_or, get_or_default, get_or_past}
use Rattle.std.proofs.lemmas.List.Edits.{Swapped, length-swap, swapped_from_swap}
use Rattle.std.proofs.lemmas.List.FromFn.{get_or-range_with_len, length-range_with_len}
use Rattle.std.proofs.lemmas.List.Sorted.{IsPermutation-refl, IsPermutation-swap, IsPermutation-trans}
use Rattle.vw_plan.specs.declared.board.Board.{Board}
use Rattle.vw_plan.specs.Good.{exchanged}
use Rattle.vw_place.specs.Numbering.{IsNumbering}
use Rattle.vw_place.specs.Steps.NodeLists.{IsNodeList, NumberedBoard, renumbered_node}
use Rattle.vw_place.specs.Steps.Traffic.{travel_by}
use Rattle.vw_place.specs.declared.exchange.Exchange.{Exchange}
use Rattle.vw_place.specs.Steps.Tries.{HasTried, IsBefore, IsBoth, IsOneAndLater}
use Rattle.vw_place.proofs.Renumbered.{chip_stays, one_to_one}

-- ---- two numbers exchanged

exchanged_first : (one other : ℕ) → exchanged one other one ≡ other
exchanged_first one other = rw (eq-eqb one one refl) refl

exchanged_second : (one other : ℕ) → exchanged one other other ≡ one
exchanged_second one other =
    let if_same = λ (same : other ≡ one). let whole : exchanged one other other ≡ one = rw (eq-eqb other one same) same in whole in
    let if_apart = λ (apart : other ≡ one → ⊥). let whole : exchanged one other other ≡ one = rw (ne_eqb other one apart, eq-eqb other other refl) refl in whole in
    ⊎_elim if_same if_apart (cases_eq other one)

exchanged_other : (one other number : ℕ) → (number ≡ one → ⊥) → (number ≡ other → ⊥) → exchanged one other number ≡ number
exchanged_other one other number not_one not_other = rw (ne_eqb number one not_one, ne_eqb number other not_other) refl

by_place : (P : ℕ → Type 0) (one other : ℕ) → P one → P other → ((number : ℕ) → (number ≡ one → ⊥) → (number ≡ other → ⊥) → P number) → (number : ℕ) → P number
by_place P one other first second others number =
    let if_one = λ (is : number ≡ one). subst P (sym is) first in
    let if_other = λ (is : number ≡ other). subst P (sym is) second in
    ⊎_elim if_one (λ not_one. ⊎_elim if_other (others number not_one) (cases_eq number other)) (cases_eq number one)

pub exchanged_twice : (one other number : ℕ) → exchanged one other (exchanged one other number) ≡ number
exchanged_twice one other =
    by_place (λ number. exchanged one other (exchanged one other number) ≡ number) one other
    (ap (exchanged one other) (exchanged_first one other) ∙ exchanged_second one other)
    (ap (exchanged one other) (exchanged_second one other) ∙ exchanged_first one other)
    (λ number not_one not_other. ap (exchanged one other) (exchanged_other one other number not_one not_other) ∙ exchanged_other one other number not_one not_other)

exchanged_low : (most one other : ℕ) → one ≤ most → other ≤ most → (number : ℕ) → number ≤ most → exchanged one other number ≤ most
exchanged_low most one other one_low other_low =
    by_place (λ number. number ≤ most → exchanged one other number ≤ most) one other
    (λ low. subst (λ (number : ℕ). number ≤ most) (sym (exchanged_first one other)) other_low)
    (λ low. subst (λ (number : ℕ). number ≤ most) (sym (exchanged_second one other)) one_low)
    (λ number not_one not_other low. subst (λ (number : ℕ). number ≤ most) (sym (exchanged_other one other number not_one not_other)) low)

-- one number exchanged with itself, and two in the other order
pub exchanged_itself : (one number : ℕ) → exchanged one one number ≡ number
exchanged_itself one = by_place (λ number. exchanged one one number ≡ number) one one (exchanged_first one one) (exchanged_first one one) (exchanged_other one one)

pub exchanged_turned : (one other number : ℕ) → exchanged one other number ≡ exchanged other one number
exchanged_turned one other =
    by_place (λ number. exchanged one other number ≡ exchanged other one number) one other
    (exchanged_first one other ∙ sym (exchanged_second other one))
    (exchanged_second one other ∙ sym (exchanged_first other one))
    (λ number not_one not_other. exchanged_other one other number not_one not_other ∙ sym (exchanged_other other one number not_other not_one))

-- ---- two places of a list exchanged

swaps : (at : List ℕ) (one other : ℕ) → one < length at → other < length at → (default : ℕ) → Swapped (λ place. get_or at place default) (λ place. get_or (swap at one other) place default) one other
swaps at one other one_in other_in default = swapped_from_swap at (swap at one other) one other default one_in other_in refl

-- twice is not at all
pub swap_twice : (at : List ℕ) (one other : ℕ) → one < length at → other < length at → swap (swap at one other) one other ≡ at
swap_twice at one other one_in other_in =
    let new = swap at one other in
    let long : length new ≡ length at = length-swap at one other in
    let first = swaps at one other one_in other_in 0 in
    let again = swaps new one other (omega arith) (omega arith) 0 in
    let at_place = by_place (λ place. get_or (swap new one other) place 0 ≡ get_or at place 0) one other
    (again.0 ∙ first.1)
    (again.1 ∙ first.0)
    (λ place not_one not_other. again.2 place not_one not_other ∙ first.2 place not_one not_other) in
    ext_get_or 0 (swap new one other) at (length-swap new one other ∙ long) (λ place within. at_place place)

-- ---- as numberings

module _ (board : Board) (at : List ℕ) (nodes : IsNodeList board at) (one other : ℕ) (one_chip : (1 ≤ one) × (one ≤ board.chips)) (other_chip : (1 ≤ other) × (other ≤ board.chips)) where
  abbrev after : List ℕ
  after = swap at one other

  abbrev first : ℕ
  first = renumbered_node at one

  abbrev second : ℕ
  second = renumbered_node at other

  one_in : one < length at
  one_in = omega (arith, nodes.long)

  other_in : other < length at
  other_in = omega (arith, nodes.long)

  -- exchanging two places exchanges the numbers that stand there
  pub moved_exchanged : (node : ℕ) → renumbered_node after node ≡ exchanged first second (renumbered_node at node)
  moved_exchanged =
      let apart = λ (x y : ℕ) (differ : x ≡ y → ⊥) (same : renumbered_node at x ≡ renumbered_node at y). differ (one_to_one board.chips (renumbered_node at) nodes.from nodes.numbering x y same) in
      by_place (λ node. renumbered_node after node ≡ exchanged first second (renumbered_node at node)) one other
      ((swaps at one other one_in other_in one).0 ∙ get_or_default at other one other other_in ∙ sym (exchanged_first first second))
      ((swaps at one other one_in other_in other).1 ∙ get_or_default at one other one one_in ∙ sym (exchanged_second first second))
      (λ node not_one not_other. (swaps at one other one_in other_in node).2 node not_one not_other ∙ sym (exchanged_other first second (renumbered_node at node) (apart node one not_one) (apart node other not_other)))

  first_chip : (1 ≤ first) × (first ≤ board.chips)
  first_chip = chip_stays board.chips (renumbered_node at) nodes.from nodes.numbering one one_chip

  second_chip : (1 ≤ second) × (second ≤ board.chips)
  second_chip = chip_stays board.chips (renumbered_node at) nodes.from nodes.numbering other other_chip

  -- so they are a list of nodes again
  pub nodes_exchanged : IsNodeList board after
  nodes_exchanged = record {
    long = length-swap at one other ∙ nodes.long;
    moves = IsPermutation-trans _ at after nodes.moves (IsPermutation-swap at after one other one_in other_in refl);
    from = λ node. nodes.from (exchanged first second node);
    numbering = is_numbering;
  } where
    is_numbering : IsNumbering board.chips (renumbered_node after) (λ node. nodes.from (exchanged first second node))
    is_numbering = record {
      host = moved_exchanged 0 ∙ ap (exchanged first second) nodes.numbering.host ∙ exchanged_other first second 0 (λ is. omega (arith, first_chip.0)) (λ is. omega (arith, second_chip.0));
      there = λ node. ap (λ (new : ℕ). nodes.from (exchanged first second new)) (moved_exchanged node) ∙ ap nodes.from (exchanged_twice first second (renumbered_node at node)) ∙ nodes.numbering.there node;
      back = λ node. moved_exchanged (nodes.from (exchanged first second node)) ∙ ap (exchanged first second) (nodes.numbering.back (exchanged first second node)) ∙ exchanged_twice first second node;
      nodes = λ node within. subst (λ (new : ℕ). new ≤ board.chips) (sym (moved_exchanged node)) (exchanged_low board.chips first second first_chip.1 second_chip.1 (renumbered_node at node) (nodes.numbering.nodes node within));
      old_nodes = λ node within. nodes.numbering.old_nodes (exchanged first second node) (exchanged_low board.chips first second first_chip.1 second_chip.1 node within);
    }

-- exchanged back, they are as at the start
pub swapped_back : (nodes new newer : NumberedBoard) (one other : ℕ) → IsNodeList nodes.board nodes.numbers → one ≤ nodes.board.chips → other ≤ nodes.board.chips
    → new ≡ record nodes { numbers = swap nodes.numbers one other } → newer ≡ record new { numbers = swap new.numbers one other } → newer ≡ nodes
swapped_back nodes new newer one other list one_low other_low is_new is_newer =
    let twice = swap_twice nodes.numbers one other (omega (arith, list.long)) (omega (arith, list.long)) in
    is_newer
    ∙ ap (λ (swapped : NumberedBoard). record swapped { numbers = swap swapped.numbers one other }) is_new
    ∙ ap (λ (numbers : List ℕ). record nodes { numbers = numbers }) twice

-- ---- tries

-- first some, then others
pub tried_further : (first later all : ℕ → ℕ → Type 0) (old between new : Exchange) → HasTried first old between → HasTried later between new
    → ((one other : ℕ) → all one other → first one other ⊎ later one other) → HasTried all old new
tried_further first later all old between new before after cases = record {
  table = after.table ∙ before.table;
  board = after.board ∙ before.board;
  no_greater = omega (arith, before.no_greater, after.no_greater);
  same = λ as_long. after.same (later_long as_long) ∙ before.same (first_long as_long);
  useless = λ as_long one other is.
      let cost = ap₂ (λ (table : Bor (List ℕ)) (nodes : NumberedBoard). travel_by table.now nodes.board (swap nodes.numbers one other)) before.table (before.same (first_long as_long)) in
      let if_later = λ (is_later : later one other).
      let none : old.travel ≤ travel_by old.table.now old.nodes.board (swap old.nodes.numbers one other) = omega (arith, cost, first_long as_long, after.useless (later_long as_long) one other is_later) in none in
      ⊎_elim (before.useless (first_long as_long) one other) if_later (cases one other is);
} where
  first_long : new.travel ≡ old.travel → between.travel ≡ old.travel
  first_long as_long = omega (arith, before.no_greater, after.no_greater)

  later_long : new.travel ≡ old.travel → new.travel ≡ between.travel
  later_long as_long = omega (arith, before.no_greater, after.no_greater)

-- fewer of them
pub tried_fewer : (tried fewer : ℕ → ℕ → Type 0) (old new : Exchange) → ((one other : ℕ) → fewer one other → tried one other)
    → HasTried tried old new → HasTried fewer old new
tried_fewer tried fewer old new some has =
    record { table = has.table; board = has.board; no_greater = has.no_greater; same = has.same; useless = λ as_long one other is. has.useless as_long one other (some one other is) }

-- one more with each later one
pub later_cases : (one end first second : ℕ) → IsOneAndLater one (end + 1) first second → IsOneAndLater one end first second ⊎ IsBoth one end first second
later_cases one end first second is =
    ⊎_elim (λ below. inl (is.0, is.1, below)) (λ past. let same : second ≡ end = omega (arith, is.2) in inr (is.0, same)) (cases_lt second end)

pub before_cases : (one end first second : ℕ) → IsBefore (one + 1) end first second → IsBefore one end first second ⊎ IsOneAndLater one end first second
before_cases one end first second is =
    ⊎_elim (λ below. inl (is.0, below, is.2, is.3)) (λ past. let same : first ≡ one = omega (arith, is.1) in inr (same, omega (arith, is.2), is.3)) (cases_lt first one)

-- ---- each node with its own number

own_moved : (many node : ℕ) → renumbered_node (range_with_len 0 many) node ≡ node
own_moved many node =
    let if_there = λ (there : node < many). let same : renumbered_node (range_with_len 0 many) node ≡ node = omega (arith, get_or-range_with_len 0 many node node there) in same in
    let if_past = λ (past : many ≤ node). get_or_past (range_with_len 0 many) node node (omega (arith, length-range_with_len 0 many)) in
    ⊎_elim if_there if_past (cases_lt node many)

pub own_nodes : (board : Board) → IsNodeList board (range_with_len 0 (board.chips + 1))
own_nodes board = record {
  long = length-range_with_len 0 (board.chips + 1);
  moves = IsPermutation-refl (range_with_len 0 (board.chips + 1));
  from = λ node. node;
  numbering = is_numbering;
} where
  own : (node : ℕ) → renumbered_node (range_with_len 0 (board.chips + 1)) node ≡ node
  own node = own_moved (board.chips + 1) node

  is_numbering : IsNumbering board.chips (renumbered_node (range_with_len 0 (board.chips + 1))) (λ node. node)
  is_numbering = record {
    host = own 0;
    there = own;
    back = own;
    nodes = λ node within. subst (λ (number : ℕ). number ≤ board.chips) (sym (own node)) within;
    old_nodes = λ node within. within;
  }
