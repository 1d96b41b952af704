-- The first step of a shortest walk.
use Rattle.std.proofs.Common.{◌≡◌, ◌≢◌, ◌<◌, ◌≤◌, ◌+◌, ℕ, List, length, slice_index, Option, Some, None, get_or, refl, All, arith}
use Rattle.std.specs.Prelude.{IfNone, IsSome}
use Rattle.std.proofs.lemmas.List.{get_or_default}
use Rattle.vw_plan.specs.declared.board.Board.{Board}
use Rattle.vw_plan.specs.Distance.{distance}
use Rattle.vw_plan.proofs.Shortest.{IsNextNode, next_is_nearer, distance-le}
use Rattle.vw_board.specs.Steps.Tables.{AreDistances}
use Rattle.vw_board.specs.Steps.Nearer.{HasNoneNearer}

module _ (board : Board) (to : ℕ) (distances : List ℕ) (are : AreDistances board to distances) where
  -- a node that is one link nearer by the list is so by the distances
  nearer_by_list : (from node : ℕ) → from ≤ board.chips → node ≤ board.chips → distance board node to + 1 ≡ distance board from to → slice_index distances node + 1 ≡ slice_index distances from
  nearer_by_list from node from_node on_board nearer = let one = are.number node on_board in let other = are.number from from_node in omega arith

  -- so there is one
  pub some_nearer : (from : ℕ) → from ≤ board.chips → to ≤ board.chips → from ≢ to → (found : Option ℕ) → IfNone found (HasNoneNearer board.links distances from (length distances)) → IsSome found
  some_nearer from from_node to_node apart (Some node) none = refl
  some_nearer from from_node to_node apart None none =
      let next : IsNextNode board from to = next_is_nearer board from to from_node to_node apart in
      let size : length distances ≡ board.chips + 1 = are.each in
      let within : next.node < length distances = omega (arith, next.on_board) in
      absurd (none next.node within (next.linked, nearer_by_list from next.node from_node next.on_board next.nearer))

  -- no distance is more than 33
  pub all_near : All (λ distance. distance ≤ 33) distances
  all_near place default within =
      let on_board : place ≤ board.chips = omega (arith, within, are.each) in
      let same : get_or distances place default ≡ slice_index distances place = get_or_default distances place default 0 within in
      let is : slice_index distances place ≡ distance board place to = are.number place on_board in
      omega (arith, distance-le board place to, board.few_chips)
