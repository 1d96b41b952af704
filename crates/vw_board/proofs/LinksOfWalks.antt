-- Links of which it is known how few of them walks need.
use Rattle.std.proofs.Common.{◌≡◌, ◌<◌, ◌≤◌, ◌+◌, ℕ, List, [], length, slice_index_or, Option, Some, None, ap, sym, subst, ◌∙◌, ⊎_elim, true≢false, All, arith}
use Rattle.std.specs.Prelude.{IsSome}
use Rattle.std.proofs.lemmas.Bool.{both_ways}
use Rattle.std.proofs.lemmas.List.{get_or_default}
use Rattle.vw_plan.specs.declared.link.Link.{Link}
use Rattle.vw_plan.specs.Walks.{IsWalk, IsReachable}
use Rattle.vw_plan.specs.Distance.{has_walk}
use Rattle.vw_plan.proofs.Walking.{Walked, walk-has_walk}
use Rattle.vw_plan.proofs.Shortest.{IsShort, short_walk}
use Rattle.vw_board.specs.BoardText.{IsFirstApart, ComesBefore}
use Rattle.vw_plan.specs.Links.{AreLinks, AreSeparate}
use Rattle.vw_board.specs.Steps.Tables.{AreLeast, first_below}
use Rattle.vw_board.specs.Steps.NotedPairs.{noted, AreAllThere, IsFirstPair}
use Rattle.vw_board.proofs.NotedWalks.{IsFirstPassing, first_passing}

module _ (chips : ℕ) (few : chips ≤ 32) (links : List Link) (separate : AreSeparate chips links) where
  module _ (lists : List (List (Option ℕ))) (least : AreLeast links (chips + 1) lists) where
    -- the lists are as many as the nodes, and as long
    pub long_lists : All (λ list. length list ≡ length lists) lists
    long_lists place default within =
        let size : length lists ≡ chips + 1 = least.each in
        let have = least.least place (omega arith) in
        let same : slice_index_or lists place default ≡ slice_index_or lists place [] = get_or_default lists place default [] within in
        ap length same ∙ have.each ∙ sym size

    -- what is noted for a pair
    is_noted : (from to : ℕ) → from ≤ chips → to ≤ chips → noted lists from to ≡ first_below (λ count. has_walk links count from to) (chips + 1)
    is_noted from to from_node to_node = (least.least to (omega arith)).number from (omega arith)

    -- where something is noted there is a walk
    walk_noted : (from to : ℕ) (found : Option ℕ) → IsFirstPassing (λ count. has_walk links count from to) (chips + 1) found → IsSome found → IsReachable links from to
    walk_noted from to None first some = absurd (true≢false (sym some))
    walk_noted from to (Some count) first some = let walked : Walked links count from to = walk-has_walk links count from to first.1 in ∣ (walked.nodes, walked.walk) ∣₁

    pub joined_where_noted : (from to : ℕ) → from ≤ chips → to ≤ chips → IsSome (noted lists from to) → IsReachable links from to
    joined_where_noted from to from_node to_node some = walk_noted from to (first_below (λ count. has_walk links count from to) (chips + 1)) (first_passing (λ count. has_walk links count from to) (chips + 1)) (subst IsSome (is_noted from to from_node to_node) some)

    -- where nothing is noted there is none
    none_noted : (from to : ℕ) → from ≤ chips → (found : Option ℕ) → IsFirstPassing (λ count. has_walk links count from to) (chips + 1) found → found ≡ None → (nodes : List ℕ) → ¬ (IsWalk links from nodes to)
    none_noted from to from_node (Some count) first none nodes walk = cc
    none_noted from to from_node None first none nodes walk =
        let short : IsShort chips links separate.ends from to = short_walk chips links separate.ends from nodes to from_node walk in
        both_ways (has_walk links short.count from to) (first short.count (omega (arith, short.few))) short.passes

    -- where all is noted, these are the links of a board
    pub links_of_board : AreAllThere lists (length lists) → AreLinks chips links
    links_of_board all = record { separate = separate; joined = joined } where
      joined : (from to : ℕ) → from ≤ chips → to ≤ chips → IsReachable links from to
      joined from to from_node to_node = let size : length lists ≡ chips + 1 = least.each in joined_where_noted from to from_node to_node (all from (omega arith) to (omega arith))

    -- the first pair for which nothing is noted
    pub apart_where_none : (from to : ℕ) → IsFirstPair lists from to → IsFirstApart chips links from to
    apart_where_none from to pair = record { from_node = from_node; to_node = to_node; apart = apart; first = first } where
      from_node : from ≤ chips
      from_node = omega (arith, pair.within, least.each)

      to_node : to ≤ chips
      to_node = omega (arith, pair.first.within, least.each)

      apart : (nodes : List ℕ) → ¬ (IsWalk links from nodes to)
      apart = none_noted from to from_node (first_below (λ count. has_walk links count from to) (chips + 1)) (first_passing (λ count. has_walk links count from to) (chips + 1)) (sym (is_noted from to from_node to_node) ∙ pair.first.missing)

      first : (a b : ℕ) → a ≤ chips → b ≤ chips → ComesBefore a b from to → IsReachable links a b
      first a b a_node b_node before = ⊎_elim if_row if_column before where
        if_row : a < from → IsReachable links a b
        if_row row = joined_where_noted a b a_node b_node (pair.before a row b (omega (arith, least.each)))

        if_column : (a ≡ from) × (b < to) → IsReachable links a b
        if_column column = joined_where_noted a b a_node b_node (subst (λ (n : ℕ). IsSome (noted lists n b)) (sym column.0) (pair.first.before b column.1))
