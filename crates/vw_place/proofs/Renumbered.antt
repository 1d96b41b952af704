-- What a placement keeps when its chips are numbered anew.
use Rattle.std.proofs.Common.{◌≡◌, ◌<◌, ◌≤◌, ◌+◌, ◌-◌, ◌&&◌, ◌||◌, ℕ, Bool, true, false, not, List, [], ◌∷◌, length, map, get_or, set, nat_lt, cond, eqb, ap, ap₂, refl, sym, ◌∙◌, ⊎_elim, eq-eqb, ne_eqb, All, arith}
use Rattle.std.specs.Prelude.{sum_by}
use Rattle.std.specs.List.{list_any, range_with_len, zip}
use Rattle.std.proofs.Math.ListN.{get_or-map}
use Rattle.std.proofs.lemmas.Bool.{cases_eq}
use Rattle.std.proofs.lemmas.List.{get_or_default, length-map, map-set}
use Rattle.std.proofs.lemmas.List.Elements.{All-head, All-map, All-set, All-tail, All-weaker}
use Rattle.std.proofs.lemmas.List.FromFn.{fill_by_all}
use Rattle.std.proofs.lemmas.List.Sorted.{sum_by-IsPermutation}
use Rattle.vw_net.specs.declared.cell.Cell.{Cell}
use Rattle.vw_net.specs.declared.flat.Flat.{Flat}
use Rattle.vw_net.specs.Cells.{read_nets}
use Rattle.vw_net.specs.Order.{is_among}
use Rattle.vw_plan.specs.declared.board.Board.{Board}
use Rattle.vw_plan.specs.declared.need.Need.{Need}
use Rattle.vw_plan.specs.Distance.{distance}
use Rattle.vw_plan.specs.Chips.{cells_on}
use Rattle.vw_plan.specs.Good.{NoMoveHelps, pair_count, travel}
use Rattle.vw_net.specs.Lists.{greatest}
use Rattle.vw_plan.specs.Needs.{needed_nodes, needed_pairs}
use Rattle.vw_plan.specs.Nets.{is_needed, is_read_at, node_of}
use Rattle.vw_plan.proofs.NeededPairs.{past_node}
use Rattle.vw_place.specs.Numbering.{IsNumbering}
use Rattle.vw_place.specs.Steps.NodeLists.{IsNodeList, renumbered_node}
use Rattle.vw_net.proofs.SumsOverLists.{length_sum, range_longer, sum_agree, sum_filter, sum_flat_map, sum_map}

-- ---- a numbering, node by node

module _ (chips : ℕ) (to from : ℕ → ℕ) (number : IsNumbering chips to from) where
  pub one_to_one : (one other : ℕ) → to one ≡ to other → one ≡ other
  one_to_one one other same = sym (number.there one) ∙ ap from same ∙ number.there other

  pub same_test : (one other : ℕ) → eqb (to one) (to other) ≡ eqb one other
  same_test one other =
      let if_same = λ (same : one ≡ other). eq-eqb (to one) (to other) (ap to same) ∙ sym (eq-eqb one other same) in
      let if_apart = λ (apart : one ≡ other → ⊥). ne_eqb (to one) (to other) (λ same. apart (one_to_one one other same)) ∙ sym (ne_eqb one other apart) in
      ⊎_elim if_same if_apart (cases_eq one other)

  -- the host alone has the host's number
  host_test : (node : ℕ) → eqb (to node) 0 ≡ eqb node 0
  host_test node = ap (λ (host : ℕ). eqb (to node) host) (sym number.host) ∙ same_test node 0

  -- so a chip's number is one of a chip
  pub chip_stays : (chip : ℕ) → (1 ≤ chip) × (chip ≤ chips) → (1 ≤ to chip) × (to chip ≤ chips)
  chip_stays chip is =
      let apart : to chip ≡ 0 → ⊥ = λ none. let same : chip ≡ 0 = one_to_one chip 0 (none ∙ sym number.host) in omega (arith, is.0) in
      (omega arith, number.nodes chip is.1)

  pub old_chip : (chip : ℕ) → (1 ≤ chip) × (chip ≤ chips) → (1 ≤ from chip) × (from chip ≤ chips)
  old_chip chip is =
      let apart : from chip ≡ 0 → ⊥ = λ none. let same : chip ≡ 0 = sym (number.back chip) ∙ ap to none ∙ number.host in omega (arith, is.0) in
      (omega arith, number.old_nodes chip is.1)

  pub chips_stay : (chip_of : List ℕ) → All (λ chip. (1 ≤ chip) × (chip ≤ chips)) chip_of → All (λ chip. (1 ≤ chip) × (chip ≤ chips)) (map to chip_of)
  chips_stay chip_of are = All-map (λ chip. (1 ≤ chip) × (chip ≤ chips)) to chip_of (All-weaker (λ chip. (1 ≤ chip) × (chip ≤ chips)) (λ chip. (1 ≤ to chip) × (to chip ≤ chips)) chip_stays chip_of are)

  nodes_stay : (chip_of : List ℕ) → All (λ chip. chip ≤ chips) chip_of → All (λ chip. chip ≤ chips) (map to chip_of)
  nodes_stay chip_of are = All-map (λ chip. chip ≤ chips) to chip_of (All-weaker (λ chip. chip ≤ chips) (λ chip. to chip ≤ chips) number.nodes chip_of are)

  -- what is on a chip
  pub cells_moved : (chip : ℕ) (chip_of : List ℕ) → cells_on (map to chip_of) chip ≡ cells_on chip_of (from chip)
  cells_moved chip chip_of = sum_map (λ other. cond (eqb other chip) 1 0) to chip_of ∙ sum_agree (λ other. cond (eqb (to other) chip) 1 0) (λ other. cond (eqb other (from chip)) 1 0) chip_of (λ other. ap (λ (bit : Bool). cond bit 1 0) (ap (λ (is : ℕ). eqb (to other) is) (sym (number.back chip)) ∙ same_test other (from chip)))

  -- ---- where nets are, and where they are needed

  module _ (flat : Flat) (chip_of : List ℕ) where
    pub home_moved : (net : ℕ) → node_of flat (map to chip_of) net ≡ to (node_of flat chip_of net)
    home_moved net = by_test (nat_lt net flat.inputs) where
      by_test : (bit : Bool) → cond bit 0 (get_or (map to chip_of) (net - flat.inputs) 0) ≡ to (cond bit 0 (get_or chip_of (net - flat.inputs) 0))
      by_test true = sym number.host
      by_test false = ap (λ (default : ℕ). get_or (map to chip_of) (net - flat.inputs) default) (sym number.host) ∙ get_or-map to chip_of (net - flat.inputs) 0

    reads_moved : (net node : ℕ) → is_read_at flat (map to chip_of) net (to node) ≡ is_read_at flat chip_of net node
    reads_moved net node = by_cells chip_of flat.cells where
      by_cells : (chips_of : List ℕ) (cells : List Cell) → list_any (λ (placed : ℕ × Cell). eqb placed.0 (to node) && is_among (read_nets placed.1) net) (zip (map to chips_of) cells) ≡ list_any (λ (placed : ℕ × Cell). eqb placed.0 node && is_among (read_nets placed.1) net) (zip chips_of cells)
      by_cells [] cells = refl
      by_cells (chip ∷ chips_of) [] = refl
      by_cells (chip ∷ chips_of) (cell ∷ cells) = ap₂ (λ (here rest : Bool). (here && is_among (read_nets cell) net) || rest) (same_test chip node) (by_cells chips_of cells)

    pub needed_moved : (net node : ℕ) → is_needed flat (map to chip_of) net (to node) ≡ is_needed flat chip_of net node
    needed_moved net node =
        let home : eqb (node_of flat (map to chip_of) net) (to node) ≡ eqb (node_of flat chip_of net) node = ap (λ (own : ℕ). eqb own (to node)) (home_moved net) ∙ same_test (node_of flat chip_of net) node in
        ap₂ (λ (own others : Bool). not own && others) home (ap₂ (λ (read host : Bool). read || (host && is_among flat.outputs net)) (reads_moved net node) (host_test node))

-- ---- sums over needed pairs

-- the greatest of some numbers is no greater than a number that none is above
pub greatest_low : (most : ℕ) (numbers : List ℕ) → All (λ number. number ≤ most) numbers → greatest numbers ≤ most
greatest_low most [] low = omega arith
greatest_low most (number ∷ numbers) low = omega (arith, All-head (λ other. other ≤ most) number numbers low, greatest_low most numbers (All-tail (λ other. other ≤ most) number numbers low))

-- a sum over the needed pairs is one over all nets and nodes
pub needed_sum : (flat : Flat) (chip_of : List ℕ) (chips : ℕ) (weight : ℕ → ℕ → ℕ) → All (λ chip. chip ≤ chips) chip_of
    → sum_by (λ need. weight need.net need.to) (needed_pairs flat chip_of)
    ≡ sum_by (λ net. sum_by (λ node. cond (is_needed flat chip_of net node) (weight net node) 0) (range_with_len 0 (chips + 1))) (range_with_len 0 (flat.inputs + length flat.cells))
unfolding needed_pairs
needed_sum flat chip_of chips weight low =
    let nets = range_with_len 0 (flat.inputs + length flat.cells) in
    let pairs = λ (net : ℕ). map (λ (node : ℕ). let need : Need = record { net = net; to = node } in need) (needed_nodes flat chip_of net) in
    let term = λ (net node : ℕ). cond (is_needed flat chip_of net node) (weight net node) 0 in
    let net_sum = λ (net : ℕ). let same : sum_by (λ (need : Need). weight need.net need.to) (pairs net) ≡ sum_by (term net) (range_with_len 0 (chips + 1)) =
    sum_map (λ (need : Need). weight need.net need.to) (λ (node : ℕ). let need : Need = record { net = net; to = node } in need) (needed_nodes flat chip_of net)
    ∙ sum_filter (weight net) (is_needed flat chip_of net) (range_with_len 0 (greatest chip_of + 1))
    ∙ sym (range_longer (term net) 0 (greatest chip_of + 1) (chips + 1) (omega (arith, greatest_low chips chip_of low)) (λ node past. ap (λ (bit : Bool). cond bit (weight net node) 0) (past_node flat chip_of net node (omega arith)))) in same in
    sum_flat_map (λ (need : Need). weight need.net need.to) pairs nets ∙ sum_agree (λ net. sum_by (λ (need : Need). weight need.net need.to) (pairs net)) (λ net. sum_by (term net) (range_with_len 0 (chips + 1))) nets net_sum

-- a sum over all nodes in another order
reordered : (board : Board) (at : List ℕ) → IsNodeList board at → (f : ℕ → ℕ) → sum_by f (range_with_len 0 (board.chips + 1)) ≡ sum_by (λ node. f (renumbered_node at node)) (range_with_len 0 (board.chips + 1))
reordered board at nodes f =
    let many = board.chips + 1 in
    let is : at ≡ map (renumbered_node at) (range_with_len 0 many) = fill_by_all (renumbered_node at) at many 0 nodes.long (λ node below. get_or_default at node 0 node (omega (arith, nodes.long))) in
    sym (sum_by-IsPermutation f (range_with_len 0 many) at nodes.moves) ∙ ap (λ (list : List ℕ). sum_by f list) is ∙ sum_map f (renumbered_node at) (range_with_len 0 many)

module _ (flat : Flat) (board : Board) (at : List ℕ) (nodes : IsNodeList board at) where
  abbrev to : ℕ → ℕ
  to = renumbered_node at

  -- a sum over the needed pairs of the placement numbered anew is one over those of the old
  moved_sum : (chip_of : List ℕ) (weight : ℕ → ℕ → ℕ) → All (λ chip. chip ≤ board.chips) chip_of
      → sum_by (λ need. weight need.net need.to) (needed_pairs flat (map to chip_of)) ≡ sum_by (λ need. weight need.net (to need.to)) (needed_pairs flat chip_of)
  moved_sum chip_of weight low =
      let nets = range_with_len 0 (flat.inputs + length flat.cells) in
      let range = range_with_len 0 (board.chips + 1) in
      let new = λ (net node : ℕ). cond (is_needed flat (map to chip_of) net node) (weight net node) 0 in
      let old = λ (net node : ℕ). cond (is_needed flat chip_of net node) (weight net (to node)) 0 in
      let of_net = λ (net : ℕ). let same : sum_by (new net) range ≡ sum_by (old net) range =
      reordered board at nodes (new net) ∙ sum_agree (λ node. new net (to node)) (old net) range (λ node. ap (λ (bit : Bool). cond bit (weight net (to node)) 0) (needed_moved board.chips to nodes.from nodes.numbering flat chip_of net node)) in same in
      needed_sum flat (map to chip_of) board.chips weight (nodes_stay board.chips to nodes.from nodes.numbering chip_of low)
      ∙ sum_agree (λ net. sum_by (new net) range) (λ net. sum_by (old net) range) nets of_net
      ∙ sym (needed_sum flat chip_of board.chips (λ net node. weight net (to node)) low)

  -- how far the pairs go
  pub travel_moved : (chip_of : List ℕ) → All (λ chip. chip ≤ board.chips) chip_of → travel flat board (map to chip_of) ≡ sum_by (λ need. distance board (to (node_of flat chip_of need.net)) (to need.to)) (needed_pairs flat chip_of)
  travel_moved chip_of low =
      moved_sum chip_of (λ net node. distance board (node_of flat (map to chip_of) net) node) low
      ∙ sum_agree (λ (need : Need). distance board (node_of flat (map to chip_of) need.net) (to need.to)) (λ (need : Need). distance board (to (node_of flat chip_of need.net)) (to need.to)) (needed_pairs flat chip_of) (λ need. ap (λ (home : ℕ). distance board home (to need.to)) (home_moved board.chips to nodes.from nodes.numbering flat chip_of need.net))

  -- how many there are
  pub count_moved : (chip_of : List ℕ) → All (λ chip. chip ≤ board.chips) chip_of → pair_count flat (map to chip_of) ≡ pair_count flat chip_of
  count_moved chip_of low = length_sum (needed_pairs flat (map to chip_of)) ∙ moved_sum chip_of (λ net node. 1) low ∙ sym (length_sum (needed_pairs flat chip_of))

  -- a move of the new placement is one of the old
  pub moves_moved : (chip_of : List ℕ) → All (λ chip. chip ≤ board.chips) chip_of → NoMoveHelps flat board chip_of → NoMoveHelps flat board (map to chip_of)
  moves_moved chip_of low none cell chip within is room =
      let old = nodes.from chip in
      let is_old = old_chip board.chips to nodes.from nodes.numbering chip is in
      let there : cell < length chip_of = omega (arith, length-map chip_of to) in
      let has_room : cells_on chip_of old < board.cells = omega (arith, cells_moved board.chips to nodes.from nodes.numbering chip chip_of) in
      let no_less = none cell old there is_old has_room in
      let changed : map to (set chip_of cell old) ≡ set (map to chip_of) cell chip = map-set to chip_of cell old ∙ ap (λ (number : ℕ). set (map to chip_of) cell number) (nodes.numbering.back chip) in
      let count : pair_count flat (set (map to chip_of) cell chip) ≡ pair_count flat (set chip_of cell old) = ap (λ (list : List ℕ). pair_count flat list) (sym changed) ∙ count_moved (set chip_of cell old) (All-set (λ number. number ≤ board.chips) chip_of cell old is_old.1 low) in
      omega (arith, count_moved chip_of low, count, no_less)

-- what stands at the place of a node is a node
pub stands_low : (board : Board) (at : List ℕ) → IsNodeList board at → (node number : ℕ) → node ≤ board.chips → number ≡ get_or at node number → number ≤ board.chips
stands_low board at nodes node number within is =
    omega (arith, is, get_or_default at node number node (omega (arith, nodes.long)), nodes.numbering.nodes node within)
