-- A walk by first steps has the least number of links.
use Rattle.std.proofs.Common.{◌≡◌, ◌≤◌, ◌+◌, ℕ, List, [], ◌∷◌, ◌++◌, length, refl, sym, ap, subst, arith}
use Rattle.vw_plan.specs.declared.board.Board.{Board}
use Rattle.vw_plan.specs.Walks.{IsWalk}
use Rattle.vw_plan.specs.Distance.{IsDistance, distance}
use Rattle.vw_plan.proofs.Shortest.{reached, distance_is_least}
use Rattle.vw_board.specs.FirstStep.{IsFirstStep}
use Rattle.vw_route.specs.Routes.{GoByFirstSteps, IsRouteBySteps}
use Rattle.vw_route.specs.Steps.OnTheWay.{IsOnTheWay}

module _ (board : Board) (to : ℕ) where
  -- one step more
  one_more : (from : ℕ) (nodes : List ℕ) (end next : ℕ) → GoByFirstSteps board to from nodes end → IsFirstStep board end to next → GoByFirstSteps board to from (nodes ++ next ∷ []) next
  one_more from [] end next steps step = (subst (λ (node : ℕ). IsFirstStep board node to next) (sym steps) step, refl)
  one_more from (node ∷ nodes) end next steps step = (steps.0, one_more node nodes end next steps.1 step)

  -- steps are links
  walked : (from : ℕ) (nodes : List ℕ) (end : ℕ) → GoByFirstSteps board to from nodes end → IsWalk board.links from nodes end
  walked from [] end steps = steps
  walked from (node ∷ nodes) end steps = (steps.0.linked, walked node nodes end steps.1)

  -- each step is one link nearer
  nearer : (from : ℕ) (nodes : List ℕ) (end : ℕ) → GoByFirstSteps board to from nodes end → length nodes + distance board end to ≡ distance board from to
  nearer from [] end steps = let same : distance board end to ≡ distance board from to = ap (λ (node : ℕ). distance board node to) (sym steps) in omega arith
  nearer from (node ∷ nodes) end steps = omega (arith, steps.0.nearer, nearer node nodes end steps.1)

  -- a node is no link away from itself
  here : to ≤ board.chips → distance board to to ≤ 0
  here to_node = let far : IsDistance board.links to to (distance board to to) = distance_is_least board to to to_node to_node in far.least [] refl

  -- the walk after a further step
  pub further : (from node next : ℕ) (nodes : List ℕ) → IsOnTheWay board from to node nodes → IsFirstStep board node to next → IsOnTheWay board from to next (nodes ++ next ∷ [])
  further from node next nodes way step = record {
    rest = way.rest ++ next ∷ [];
    begins = ap (λ (list : List ℕ). list ++ next ∷ []) way.begins;
    steps = one_more from way.rest node next way.steps step;
    on_board = reached board.chips board.links board.linked.separate.ends node next step.linked;
  }

  -- the walk at its end
  pub at_end : (from node : ℕ) (nodes : List ℕ) → to ≤ board.chips → node ≡ to → IsOnTheWay board from to node nodes → IsRouteBySteps board from to nodes
  at_end from node nodes to_node end way =
      let steps : GoByFirstSteps board to from way.rest to = subst (λ (last : ℕ). GoByFirstSteps board to from way.rest last) end way.steps in
      record { rest = way.rest; begins = way.begins; walk = walked from way.rest to steps; count = omega (arith, nearer from way.rest to steps, here to_node); steps = steps }
