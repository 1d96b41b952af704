-- The shortest walks go through no node twice, so they have no more links than there are chips.
use Rattle.std.proofs.Common.{◌≡◌, ◌<◌, ◌≤◌, ◌+◌, ℕ, zero, suc, Bool, true, false, List, [], ◌∷◌, length, eqb, ap, sym, subst, ◌∙◌, ⊎_elim, true≢false, eqb-true, All, arith}
use Rattle.std.specs.List.{list_any, IsDistinct}
use Rattle.std.proofs.Math.Logic.{∥∥₁_elim}
use Rattle.std.proofs.Math.Bool.{Bool-set}
use Rattle.std.proofs.lemmas.Bool.{cases_Bool, cases_lt, cond_both, or_cases}
use Rattle.std.proofs.lemmas.Map.Steps.{length-le_from_distinct_below}
use Rattle.vw_net.proofs.Lists.{differs}
use Rattle.vw_plan.specs.declared.link.Link.{Link}
use Rattle.vw_plan.specs.declared.board.Board.{Board}
use Rattle.vw_plan.specs.Walks.{has_link, IsWalk}
use Rattle.vw_plan.specs.Distance.{IsDistance, distance, has_walk, least}
use Rattle.vw_plan.proofs.Walking.{Found, found_link, has_walk-IsWalk, Walked, walk-has_walk, IsLeastPassing, least_passes}

-- a walk that goes through no node twice
record Simple (links : List Link) (from to : ℕ) : Type 0 where
  nodes : List ℕ
  walk : IsWalk links from nodes to
  once : IsDistinct eqb (from ∷ nodes)

-- of a walk that goes through no node twice, the part from a node on that it goes through
part_from : (links : List Link) (node from : ℕ) (nodes : List ℕ) (to : ℕ) → IsWalk links from nodes to → IsDistinct eqb (from ∷ nodes)
    → list_any (eqb node) (from ∷ nodes) ≡ true → Simple links node to
unfolding IsDistinct
part_from links node from [] to walk once among =
    let if_here = λ (here : eqb node from ≡ true). let whole : Simple links node to = record { nodes = []; walk = eqb-true node from here ∙ walk; once = (tt, tt) } in whole in
    let if_later = λ (later : false ≡ true). let whole : Simple links node to = absurd (true≢false (sym later)) in whole in
    ⊎_elim if_here if_later (or_cases (eqb node from) false among)
part_from links node from (next ∷ nodes) to walk once among =
    let later_part = part_from links node next nodes to walk.1 once.1 in
    let if_here = λ (here : eqb node from ≡ true). let same : from ≡ node = sym (eqb-true node from here) in let whole : Simple links node to = record { nodes = next ∷ nodes; walk = subst (λ (n : ℕ). IsWalk links n (next ∷ nodes) to) same walk; once = subst (λ (n : ℕ). IsDistinct eqb (n ∷ next ∷ nodes)) same once } in whole in
    ⊎_elim if_here later_part (or_cases (eqb node from) (list_any (eqb node) (next ∷ nodes)) among)

-- where there is a walk, there is one that goes through no node twice
shortened : (links : List Link) (from : ℕ) (nodes : List ℕ) (to : ℕ) → IsWalk links from nodes to → Simple links from to
unfolding IsDistinct
shortened links from [] to walk = record { nodes = []; walk = walk; once = (tt, tt) }
shortened links from (node ∷ nodes) to walk =
    let rest : Simple links node to = shortened links node nodes to walk.1 in
    let if_again = λ (again : list_any (eqb from) (node ∷ rest.nodes) ≡ true). part_from links from node rest.nodes to rest.walk rest.once again in
    let if_new = λ (new : list_any (eqb from) (node ∷ rest.nodes) ≡ false). let whole : Simple links from to = record { nodes = node ∷ rest.nodes; walk = (walk.0, rest.walk); once = (differs from (node ∷ rest.nodes) new, rest.once) } in whole in
    ⊎_elim if_again if_new (cases_Bool (list_any (eqb from) (node ∷ rest.nodes)))

module _ (chips : ℕ) (links : List Link) (ends : All (λ link. (link.from ≤ chips) × (link.to ≤ chips)) links) where
  -- a node that a link reaches is a node of the board
  pub reached : (from to : ℕ) → has_link links from to ≡ true → to ≤ chips
  reached from to has =
      let found : Found links from to = found_link links from to has in
      subst (λ (node : ℕ). node ≤ chips) (ap (λ (link : Link). link.to) found.is ∙ found.reaches) (ends found.place found.link found.within).1

  -- a walk goes through nodes of the board
  on_board : (from : ℕ) (nodes : List ℕ) (to : ℕ) → from ≤ chips → IsWalk links from nodes to → (node : ℕ)
      → list_any (eqb node) (from ∷ nodes) ≡ true → node ≤ chips
  on_board from [] to within walk node among =
      let if_here = λ (here : eqb node from ≡ true). let same : node ≡ from = eqb-true node from here in let whole : node ≤ chips = omega arith in whole in
      let if_later = λ (later : false ≡ true). let whole : node ≤ chips = absurd (true≢false (sym later)) in whole in
      ⊎_elim if_here if_later (or_cases (eqb node from) false among)
  on_board from (next ∷ nodes) to within walk node among =
      let later = on_board next nodes to (reached from next walk.0) walk.1 node in
      let if_here = λ (here : eqb node from ≡ true). let same : node ≡ from = eqb-true node from here in let whole : node ≤ chips = omega arith in whole in
      ⊎_elim if_here later (or_cases (eqb node from) (list_any (eqb node) (next ∷ nodes)) among)

  -- a walk that goes through no node twice has at most as many links as there are chips
  few_links : (from to : ℕ) → from ≤ chips → (simple : Simple links from to) → length simple.nodes ≤ chips
  few_links from to within simple =
      let few : length (from ∷ simple.nodes) ≤ chips + 1 = length-le_from_distinct_below (from ∷ simple.nodes) (chips + 1) simple.once (λ node among. let on : node ≤ chips = on_board from simple.nodes to within simple.walk node among in omega arith) in
      omega arith

  -- where there is a walk, a number of links that is at most that of chips passes the test for one
  pub record IsShort (from to : ℕ) : Type 0 where
    pub count : ℕ
    pub few : count ≤ chips
    pub passes : has_walk links count from to ≡ true

  pub short_walk : (from : ℕ) (nodes : List ℕ) (to : ℕ) → from ≤ chips → IsWalk links from nodes to → IsShort from to
  short_walk from nodes to within walk =
      let simple : Simple links from to = shortened links from nodes to walk in
      record { count = length simple.nodes; few = few_links from to within simple; passes = has_walk-IsWalk links from simple.nodes to simple.walk }

  -- the least number of links that passes the test is at most that of a walk
  pub least_of_walk : (from : ℕ) (nodes : List ℕ) (to : ℕ) → from ≤ chips → IsWalk links from nodes to
      → IsLeastPassing (λ count. has_walk links count from to) chips (length nodes)
  least_of_walk from nodes to within walk =
      let test = λ (count : ℕ). has_walk links count from to in
      let short : IsShort from to = short_walk from nodes to within walk in
      let found : IsLeastPassing test chips short.count = least_passes test chips short.count short.few short.passes in
      let if_long = λ (long : chips < length nodes). let whole : IsLeastPassing test chips (length nodes) = record { below = omega (arith, found.below, short.few); passes = found.passes } in whole in
      let if_short = λ (fits : length nodes ≤ chips). least_passes test chips (length nodes) fits (has_walk-IsWalk links from nodes to walk) in
      ⊎_elim if_long if_short (cases_lt chips (length nodes))

module _ (board : Board) where
  -- a walk of as many links as the distance says passes the test
  pub distance_passes : (from to : ℕ) → from ≤ board.chips → to ≤ board.chips → has_walk board.links (distance board from to) from to ≡ true
  unfolding distance
  distance_passes from to from_node to_node = ∥∥₁_elim (board.linked.joined from to from_node to_node) (Bool-set _ _) (λ walk. (least_of_walk board.chips board.links board.linked.separate.ends from walk.0 to from_node walk.1).passes)

  pub distance_is_least : (from to : ℕ) → from ≤ board.chips → to ≤ board.chips → IsDistance board.links from to (distance board from to)
  unfolding distance
  distance_is_least from to from_node to_node =
      let walked : Walked board.links (distance board from to) from to = walk-has_walk board.links (distance board from to) from to (distance_passes from to from_node to_node) in
      record { nodes = walked.nodes; walk = walked.walk; count = walked.long; least = λ others other_walk. (least_of_walk board.chips board.links board.linked.separate.ends from others to from_node other_walk).below }

-- the least number that passes is at most the limit
pub least-le : (test : ℕ → Bool) (limit : ℕ) → least test limit ≤ limit
least-le test zero = omega arith
least-le test (suc limit) =
    let rest : least (λ number. test (suc number)) limit ≤ limit = least-le (λ number. test (suc number)) limit in
    cond_both (test 0) 0 (suc (least (λ number. test (suc number)) limit)) (λ (number : ℕ). number ≤ suc limit) (λ first. omega arith) (λ later. omega arith)

module _ (board : Board) where
  -- no two nodes are further from each other than there are chips
  pub distance-le : (from to : ℕ) → distance board from to ≤ board.chips
  unfolding distance
  distance-le from to = least-le (λ count. has_walk board.links count from to) board.chips

  -- a link from a node, and the distance of the node that it leads to
  pub record IsNextNode (from to : ℕ) : Type 0 where
    pub node : ℕ
    pub on_board : node ≤ board.chips
    pub linked : has_link board.links from node ≡ true
    pub nearer : distance board node to + 1 ≡ distance board from to

  -- from a node there is a link to one that is one link nearer to another node
  pub next_is_nearer : (from to : ℕ) → from ≤ board.chips → to ≤ board.chips → (from ≡ to → ⊥) → IsNextNode from to
  next_is_nearer from to from_node to_node apart = by_walk (distance_is_least board from to from_node to_node) where
    by_nodes : (nodes : List ℕ) → IsWalk board.links from nodes to → length nodes ≡ distance board from to → IsNextNode from to
    by_nodes [] walk count = absurd (apart walk)
    by_nodes (node ∷ nodes) walk count =
        let node_on : node ≤ board.chips = reached board.chips board.links board.linked.separate.ends from node walk.0 in
        let far : IsDistance board.links from to (distance board from to) = distance_is_least board from to from_node to_node in
        let near : IsDistance board.links node to (distance board node to) = distance_is_least board node to node_on to_node in
        let above : distance board node to ≤ length nodes = near.least nodes walk.1 in
        let below : distance board from to ≤ length (node ∷ near.nodes) = far.least (node ∷ near.nodes) (walk.0, near.walk) in
        record { node = node; on_board = node_on; linked = walk.0; nearer = let same : length near.nodes ≡ distance board node to = near.count in omega arith }

    by_walk : IsDistance board.links from to (distance board from to) → IsNextNode from to
    by_walk found = by_nodes found.nodes found.walk found.count
