-- What is noted for a node and another: the least number of links of a walk.
use Rattle.std.proofs.Common.{◌≡◌, ◌<◌, ◌≤◌, ◌+◌, ℕ, zero, suc, Bool, true, false, List, [], ◌∷◌, ◌++◌, length, get_or, Option, Some, None, if◌then◌else◌, ap, refl, sym, subst, ◌∙◌, ⊎_elim, length-append, arith}
use Rattle.std.specs.Option.{option_or}
use Rattle.std.proofs.lemmas.Bool.{cases_lt, both_ways}
use Rattle.std.proofs.Math.ListN.{get_or-append}
use Rattle.std.proofs.Math.Seq.{get_or-append_seam}
use Rattle.vw_plan.specs.declared.board.Board.{Board}
use Rattle.vw_plan.specs.Distance.{IsDistance, distance, has_walk}
use Rattle.vw_plan.proofs.Walking.{Walked, walk-has_walk}
use Rattle.vw_plan.proofs.Shortest.{distance_passes, distance_is_least, distance-le}
use Rattle.vw_board.specs.Steps.Tables.{first_below, AreDistances, AreFirstSteps, DistancesSoFar, TableSoFar}

-- what the first number below a limit that passes a test says
abbrev pub IsFirstPassing : (ℕ → Bool) → ℕ → Option ℕ → Type 0
IsFirstPassing test limit None = (number : ℕ) → number < limit → test number ≡ false
IsFirstPassing test limit (Some value) = (value < limit) × (test value ≡ true) × ((number : ℕ) → number < value → test number ≡ false)

least_further : (test : ℕ → Bool) (limit : ℕ) (before : Option ℕ) → IsFirstPassing test limit before → (passes : Bool) → test limit ≡ passes → IsFirstPassing test (suc limit) (option_or before (if passes then Some limit else None))
least_further test limit (Some value) first passes here = (omega (arith, first.0), first.1, first.2)
least_further test limit None none true here = (omega arith, here, none)
least_further test limit None none false here = λ number below. ⊎_elim (none number) (λ past. let same : limit ≡ number = omega arith in subst (λ (n : ℕ). test n ≡ false) same here) (cases_lt number limit)

pub first_passing : (test : ℕ → Bool) (limit : ℕ) → IsFirstPassing test limit (first_below test limit)
first_passing test zero = λ number below. absurd (omega arith)
first_passing test (suc limit) = least_further test limit (first_below test limit) (first_passing test limit) (test limit) refl

module _ (board : Board) (from to : ℕ) (from_node : from ≤ board.chips) (to_node : to ≤ board.chips) where
  abbrev test : ℕ → Bool
  test count = has_walk board.links count from to

  -- of the numbers of links of walks, the first is the distance
  first_is : (first : Option ℕ) → IsFirstPassing test (board.chips + 1) first → first ≡ Some (distance board from to)
  first_is None none = absurd (both_ways (test (distance board from to)) (none (distance board from to) (let few : distance board from to ≤ board.chips = distance-le board from to in omega arith)) (distance_passes board from to from_node to_node))
  first_is (Some value) first =
      let far : IsDistance board.links from to (distance board from to) = distance_is_least board from to from_node to_node in
      let walked : Walked board.links value from to = walk-has_walk board.links value from to first.1 in
      let above : distance board from to ≤ length walked.nodes = far.least walked.nodes walked.walk in
      let if_less = λ (less : distance board from to < value). let whole : value ≡ distance board from to = absurd (both_ways (test (distance board from to)) (first.2 (distance board from to) less) (distance_passes board from to from_node to_node)) in whole in
      let if_same = λ (least : value ≤ distance board from to). let long : length walked.nodes ≡ value = walked.long in let whole : value ≡ distance board from to = omega arith in whole in
      ap Some (⊎_elim if_less if_same (cases_lt (distance board from to) value))

  pub noted_distance : first_below test (board.chips + 1) ≡ Some (distance board from to)
  noted_distance = first_is (first_below test (board.chips + 1)) (first_passing test (board.chips + 1))

-- what holds of each element and of one more
pub each_pushed : {A : Type 0} (P : ℕ → A → Type 0) (xs : List A) (x default : A) (place : ℕ) → length xs ≡ place → ((at : ℕ) → at < place → P at (get_or xs at default)) → P place x → (at : ℕ) → at < place + 1 → P at (get_or (xs ++ x ∷ []) at default)
each_pushed P xs x default place size each last at below = ⊎_elim if_before if_last (cases_lt at place) where
  if_before : at < place → P at (get_or (xs ++ x ∷ []) at default)
  if_before before = subst (P at) (sym (get_or-append xs (x ∷ []) default at (omega arith))) (each at before)

  if_last : place ≤ at → P at (get_or (xs ++ x ∷ []) at default)
  if_last past =
      let here : at ≡ length xs = omega arith in
      let is : get_or (xs ++ x ∷ []) at default ≡ x = ap (λ (n : ℕ). get_or (xs ++ x ∷ []) n default) here ∙ get_or-append_seam xs x [] default in
      let same : place ≡ at = omega arith in
      subst (P at) (sym is) (subst (λ (n : ℕ). P n x) same last)

length_push : {A : Type 0} (xs : List A) (x : A) (place : ℕ) → length xs ≡ place → length (xs ++ x ∷ []) ≡ place + 1
length_push xs x place size = omega (arith, length-append xs (x ∷ []))

-- one more distance, one more step, and one more list of each
pub distances_push : (board : Board) (to place : ℕ) (distances : List ℕ) (number : ℕ) → DistancesSoFar board to place distances → number ≡ distance board place to → DistancesSoFar board to (place + 1) (distances ++ number ∷ [])
distances_push board to place distances number so_far is = record {
  each = length_push distances number place so_far.each;
  number = each_pushed (λ from far. far ≡ distance board from to) distances number 0 place so_far.each so_far.number is;
}

pub table_push : (board : Board) (place : ℕ) (distances steps : List (List ℕ)) (near first : List ℕ) → TableSoFar board place distances steps → AreDistances board place near → AreFirstSteps board place first → TableSoFar board (place + 1) (distances ++ near ∷ []) (steps ++ first ∷ [])
table_push board place distances steps near first so_far are_near are_first = record {
  distance_lists = length_push distances near place so_far.distance_lists;
  step_lists = length_push steps first place so_far.step_lists;
  are_distances = each_pushed (λ to list. AreDistances board to list) distances near [] place so_far.distance_lists so_far.are_distances are_near;
  are_steps = each_pushed (λ to list. AreFirstSteps board to list) steps first [] place so_far.step_lists so_far.are_steps are_first;
}
