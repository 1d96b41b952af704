-- Between two nodes there is one route by first steps.
use Rattle.std.proofs.Common.{◌≡◌, ℕ, List, [], ◌∷◌, length, refl, sym, ◌∙◌, ap, ap₂, subst, arith}
use Rattle.vw_plan.specs.declared.board.Board.{Board}
use Rattle.vw_board.specs.FirstStep.{IsFirstStep}
use Rattle.vw_route.specs.Routes.{GoByFirstSteps, IsRouteBySteps}

module _ (once : (board : Board) (from to one other : ℕ) → IsFirstStep board from to one → IsFirstStep board from to other → one ≡ other) (board : Board) (to : ℕ) where
  -- as many steps from one node are the same steps
  steps_once : (from end : ℕ) (one other : List ℕ) → length one ≡ length other → GoByFirstSteps board to from one end → GoByFirstSteps board to from other end → one ≡ other
  steps_once from end [] [] long is are = refl
  steps_once from end [] (node ∷ nodes) long is are = absurd (let false : ⊥ = omega (arith, long) in false)
  steps_once from end (node ∷ nodes) [] long is are = absurd (let false : ⊥ = omega (arith, long) in false)
  steps_once from end (node ∷ nodes) (next ∷ others) long is are =
      let same : node ≡ next = once board from to node next is.0 are.0 in
      let as_long : length nodes ≡ length others = omega (arith, long) in
      ap₂ (λ (n : ℕ) (list : List ℕ). n ∷ list) same (steps_once next end nodes others as_long (subst (λ (n : ℕ). GoByFirstSteps board to n nodes end) same is.1) are.1)

  pub route_once : (from : ℕ) (one other : List ℕ) → IsRouteBySteps board from to one → IsRouteBySteps board from to other → one ≡ other
  route_once from one other is are =
      is.begins ∙ ap (λ (list : List ℕ). from ∷ list) (steps_once from to is.rest are.rest (is.count ∙ sym are.count) is.steps are.steps) ∙ sym are.begins
