-- The table of pairs, the travel by it, and what the best exchange means for a placement.
use Rattle.std.proofs.Common.{◌≡◌, ◌<◌, ◌≤◌, ◌+◌, ◌*◌, ℕ, List, [], ◌∷◌, map, ap, ap₂, refl, sym, ◌∙◌, ⊎_elim, All, arith}
use Rattle.std.specs.Prelude.{count_by, sum_by}
use Rattle.std.specs.List.{range_with_len, swap}
use Rattle.std.proofs.Math.Nat.{mul-le-mul}
use Rattle.std.proofs.lemmas.Bool.{cases_order}
use Rattle.std.proofs.lemmas.List.Elements.{All-weaker}
use Rattle.vw_plan.proofs.Shortest.{least-le}
use Rattle.vw_net.specs.declared.flat.Flat.{Flat}
use Rattle.vw_plan.specs.declared.board.Board.{Board}
use Rattle.vw_plan.specs.declared.need.Need.{Need}
use Rattle.vw_plan.specs.Distance.{distance, has_walk}
use Rattle.vw_plan.specs.Chips.{IsChip}
use Rattle.vw_plan.specs.Good.{NoExchangeHelps, exchanged, travel}
use Rattle.vw_plan.specs.Needs.{needed_pairs}
use Rattle.vw_plan.specs.Nets.{node_of}
use Rattle.vw_place.specs.Steps.NodeLists.{IsNodeList, renumbered_node}
use Rattle.vw_place.specs.Steps.Traffic.{IsTraffic, goes, travel_by, travel_between, travel_from}
use Rattle.vw_place.specs.Steps.Tries.{NoneIsUseful}
use Rattle.vw_place.proofs.Exchanges.{exchanged_itself, exchanged_turned, moved_exchanged, nodes_exchanged}
use Rattle.vw_place.proofs.Renumbered.{old_chip, travel_moved}
use Rattle.vw_net.proofs.SumsOverLists.{range_agree}
use Rattle.vw_place.proofs.SumsByNumbers.{by_numbers}
use Rattle.vw_place.proofs.PairTables.{IsPairWithin, home_low, pairs_within}

-- ---- distances are small

pub distance_low : (board : Board) (from to : ℕ) → distance board from to ≤ 32
unfolding distance
distance_low board from to = omega (arith, least-le (λ count. has_walk board.links count from to) board.chips, board.few_chips)

-- ---- the travel by a table is that of the needed pairs

module _ (flat : Flat) (board : Board) (chip_of : List ℕ) (low : All (λ chip. chip ≤ board.chips) chip_of) (table : List ℕ) (traffic : IsTraffic flat chip_of table) where
  pub table_travels : (at : List ℕ) → IsNodeList board at → travel_by table board at ≡ travel flat board (map (renumbered_node at) chip_of)
  table_travels at nodes =
      let many = board.chips + 1 in
      let needs = needed_pairs flat chip_of in
      let home = λ (need : Need). node_of flat chip_of need.net in
      let between = λ (from to : ℕ). distance board (renumbered_node at from) (renumbered_node at to) in
      let counted = λ (from to : ℕ). count_by (goes flat chip_of from to) needs * between from to in
      let within : All (λ need. (home need < many) × (need.to < many)) needs = All-weaker (IsPairWithin flat board.chips) (λ need. (home need < many) × (need.to < many)) (λ need is. (omega (arith, home_low flat chip_of board.chips need.net low), omega (arith, is.1))) needs (pairs_within flat chip_of board.chips low) in
      let row = λ (from : ℕ) (from_zero : 0 ≤ from) (from_within : from < 0 + many).
      range_agree (travel_between table board at from) (counted from) 0 many (λ to from_zero to_within. ap (λ (count : ℕ). count * between from to) (traffic from to (omega (arith, board.few_chips)) (omega (arith, board.few_chips)))) in
      range_agree (λ from. travel_from table board at from many) (λ from. sum_by (counted from) (range_with_len 0 many)) 0 many row
      ∙ sym (by_numbers home (λ need. need.to) between many needs within)
      ∙ sym (travel_moved flat board at nodes chip_of low)

  -- ---- where no exchange of two places lessens the travel, no exchange of what is on two chips does

  module _ (at : List ℕ) (nodes : IsNodeList board at) where
    abbrev placed : List ℕ
    placed = map (renumbered_node at) chip_of

    -- an exchange of chips is one of the places at which their numbers stand
    exchange_travels : (one other : ℕ) → IsChip board one → IsChip board other → travel flat board (map (exchanged one other) placed) ≡ travel_by table board (swap at (nodes.from one) (nodes.from other))
    exchange_travels one other one_chip other_chip =
        let first = nodes.from one in
        let second = nodes.from other in
        let first_chip = old_chip board.chips (renumbered_node at) nodes.from nodes.numbering one one_chip in
        let second_chip = old_chip board.chips (renumbered_node at) nodes.from nodes.numbering other other_chip in
        let at_node : (node : ℕ) → exchanged one other (renumbered_node at node) ≡ renumbered_node (swap at first second) node = λ node.
        ap₂ (λ (new newer : ℕ). exchanged new newer (renumbered_node at node)) (sym (nodes.numbering.back one)) (sym (nodes.numbering.back other)) ∙ sym (moved_exchanged board at nodes first second first_chip second_chip node) in
        let lists = map_twice (renumbered_node at) (exchanged one other) (renumbered_node (swap at first second)) at_node chip_of in
        ap (λ (list : List ℕ). travel flat board list) lists ∙ sym (table_travels (swap at first second) (nodes_exchanged board at nodes first second first_chip second_chip))
      where
        map_twice : (f g h : ℕ → ℕ) → ((node : ℕ) → g (f node) ≡ h node) → (list : List ℕ) → map g (map f list) ≡ map h list
        map_twice f g h same [] = refl
        map_twice f g h same (number ∷ list) = ap₂ (λ (new : ℕ) (rest : List ℕ). new ∷ rest) (same number) (map_twice f g h same list)

    -- it doesn't matter which of two chips is named first
    turned : (one other : ℕ) → (list : List ℕ) → map (exchanged one other) list ≡ map (exchanged other one) list
    turned one other [] = refl
    turned one other (number ∷ list) = ap₂ (λ (new : ℕ) (rest : List ℕ). new ∷ rest) (exchanged_turned one other number) (turned one other list)

    unchanged : (one : ℕ) → (list : List ℕ) → map (exchanged one one) list ≡ list
    unchanged one [] = refl
    unchanged one (number ∷ list) = ap₂ (λ (new : ℕ) (rest : List ℕ). new ∷ rest) (exchanged_itself one number) (unchanged one list)

    pub none_helps : NoneIsUseful (travel_by table board) (board.chips + 1) at → NoExchangeHelps flat board placed
    none_helps none one other one_chip other_chip =
        let first = nodes.from one in
        let second = nodes.from other in
        let first_chip = old_chip board.chips (renumbered_node at) nodes.from nodes.numbering one one_chip in
        let second_chip = old_chip board.chips (renumbered_node at) nodes.from nodes.numbering other other_chip in
        let now = table_travels at nodes in
        let if_before = λ (before : first < second).
        let less : travel flat board placed ≤ travel flat board (map (exchanged one other) placed) = omega (arith, none first second first_chip.0 before (omega (arith, second_chip.1)), now, exchange_travels one other one_chip other_chip) in less in
        let if_after = λ (after : second < first).
        let same : travel flat board (map (exchanged one other) placed) ≡ travel flat board (map (exchanged other one) placed) = ap (λ (list : List ℕ). travel flat board list) (turned one other placed) in
        let less : travel flat board placed ≤ travel flat board (map (exchanged one other) placed) = omega (arith, none second first second_chip.0 after (omega (arith, first_chip.1)), now, exchange_travels other one other_chip one_chip, same) in less in
        let if_same = λ (same : first ≡ second).
        let is : one ≡ other = sym (nodes.numbering.back one) ∙ ap (renumbered_node at) same ∙ nodes.numbering.back other in
        let whole : travel flat board (map (exchanged one other) placed) ≡ travel flat board placed = ap (λ (number : ℕ). travel flat board (map (exchanged one number) placed)) (sym is) ∙ ap (λ (list : List ℕ). travel flat board list) (unchanged one placed) in
        let less : travel flat board placed ≤ travel flat board (map (exchanged one other) placed) = omega (arith, whole) in less in
        ⊎_elim if_same (⊎_elim if_before if_after) (cases_order first second)

-- ---- the travel is small

pub product_low : (count far : ℕ) → count ≤ 2297856 → far ≤ 32 → count * far ≤ 73531392
product_low count far few near = mul-le-mul few near
