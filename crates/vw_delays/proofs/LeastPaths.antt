-- The least delay is that of a walk.
use Rattle.std.proofs.Common.{◌≡◌, ◌≤◌, ◌+◌, ◌*◌, ◌∷◌, ℕ, zero, suc, true, false, List, [], length, eqb, cond, ap, refl, sym, subst, ◌∙◌, ◌⊎◌, inl, inr, ⊎_elim, eqb-true, slice_get, Some, All, arith}
use Rattle.std.proofs.lemmas.Bool.{cases_Bool}
use Rattle.std.proofs.lemmas.List.Sums.{sum_by-cons}
use Rattle.std.proofs.lemmas.Option.{slice_get-get_or}
use Rattle.vw_plan.specs.declared.link.Link.{Link}
use Rattle.vw_plan.specs.declared.board.Board.{Board}
use Rattle.vw_plan.specs.Walks.{IsWalk}
use Rattle.vw_plan.specs.Distance.{IsDistance, distance}
use Rattle.vw_plan.proofs.HopsOfWires.{at_place}
use Rattle.vw_plan.proofs.Shortest.{distance_is_least, distance-le}
use Rattle.vw_plan.proofs.Walking.{found_link}
use Rattle.vw_delays.specs.Delays.{IsLeastDelay, IsPath, least_delay, level_delay, nearest, path_delay}
use Rattle.vw_delays.specs.Ways.{AreWays}
use Rattle.vw_delays.proofs.LevelDelays.{Nearest, least_ways, nearest_link, nearest_low}

path_delay-cons : (link : Link) (path : List Link) → path_delay (link ∷ path) ≡ link.delay + path_delay path
path_delay-cons link path = sum_by-cons (λ (l : Link). l.delay) link path

-- no walk takes fewer microcycles than a way
pub path_late : (links : List Link) (way : ℕ → ℕ → ℕ) → AreWays links way → (from : ℕ) (path : List Link) (to : ℕ) → IsPath links from path to → way from to ≤ path_delay path
path_late links way ways from [] to leads = let own = ways.own from in let same : way from to ≡ way from from = ap (way from) (sym leads) in omega (arith, own, same)
path_late links way ways from (link ∷ path) to leads =
    let further = at_place (λ (l : Link). way l.from to ≤ l.delay + way l.to to) links leads.0.0 link (ways.further to) leads.0.1 in
    let rest = path_late links way ways link.to path to leads.2 in
    let same : way link.from to ≡ way from to = ap (λ (node : ℕ). way node to) leads.1 in
    omega (arith, further, rest, same, path_delay-cons link path)

-- a walk that takes a number of microcycles
record Taken (links : List Link) (from to number : ℕ) : Type 0 where
  path : List Link
  leads : IsPath links from path to
  takes : path_delay path ≡ number

module _ (links : List Link) (timely : All (λ link. (1 ≤ link.delay) × (link.delay ≤ 16)) links) (to : ℕ) where
  -- a link further
  taken_further : (limit from : ℕ) → (found : Nearest links (λ node. level_delay limit links node to) from (nearest (suc limit) links (λ node. level_delay limit links node to) from))
      → (level_delay limit links found.link.to to ≡ limit) ⊎ Taken links found.link.to to (level_delay limit links found.link.to to)
      → (nearest (suc limit) links (λ node. level_delay limit links node to) from ≡ suc limit) ⊎ Taken links from to (nearest (suc limit) links (λ node. level_delay limit links node to) from)
  taken_further limit from found reached =
      let link = found.link in
      let whole = nearest (suc limit) links (λ node. level_delay limit links node to) from in
      let some : 1 ≤ link.delay = (at_place (λ (l : Link). (1 ≤ l.delay) × (l.delay ≤ 16)) links found.place link timely found.there).0 in
      let low = nearest_low (suc limit) links (λ node. level_delay limit links node to) from in
      let Goal = (whole ≡ suc limit) ⊎ Taken links from to whole in
      let if_limit = λ (is : level_delay limit links link.to to ≡ limit). let got : Goal = inl (omega (arith, is, some, low, found.is)) in got in
      let if_taken = λ (taken : Taken links link.to to (level_delay limit links link.to to)). let got : Goal = inr (record { path = link ∷ taken.path; leads = ((found.place, found.there), found.leaves, taken.leads); takes = omega (arith, path_delay-cons link taken.path, taken.takes, found.is) }) in got in
      ⊎_elim if_limit if_taken reached

  -- up to a limit the delay is that of a walk, or it is the limit
  level_taken : (limit from : ℕ) → (level_delay limit links from to ≡ limit) ⊎ Taken links from to (level_delay limit links from to)
  level_taken zero from = inl refl
  level_taken (suc limit) from =
      let number_of = λ (node : ℕ). level_delay limit links node to in
      let whole = level_delay (suc limit) links from to in
      let Goal = (whole ≡ suc limit) ⊎ Taken links from to whole in
      let if_here = λ (here : eqb from to ≡ true). let got : Goal = inr (record { path = []; leads = eqb-true from to here; takes = ap (λ same. cond same 0 (nearest (suc limit) links number_of from)) (sym here) }) in got in
      let if_away = λ (away : eqb from to ≡ false).
      let is : whole ≡ nearest (suc limit) links number_of from = ap (λ same. cond same 0 (nearest (suc limit) links number_of from)) away in
      let by_nearest = λ (reached : (nearest (suc limit) links number_of from ≡ suc limit) ⊎ Taken links from to (nearest (suc limit) links number_of from)). subst (λ (number : ℕ). (number ≡ suc limit) ⊎ Taken links from to number) (sym is) reached in
      ⊎_elim (λ limited. by_nearest (inl limited)) (λ found. by_nearest (taken_further limit from found (level_taken limit found.link.to))) (nearest_link (suc limit) links number_of from) in
      ⊎_elim if_here if_away (cases_Bool (eqb from to))

-- a walk by nodes, by its links
record ByLinks (links : List Link) (from to count : ℕ) : Type 0 where
  path : List Link
  leads : IsPath links from path to
  few : path_delay path ≤ 16 * count

by_links : (links : List Link) → All (λ link. (1 ≤ link.delay) × (link.delay ≤ 16)) links → (from : ℕ) (nodes : List ℕ) (to : ℕ) → IsWalk links from nodes to → ByLinks links from to (length nodes)
by_links links timely from [] to walk = record { path = []; leads = walk; few = omega arith }
by_links links timely from (node ∷ nodes) to walk =
    let found = found_link links from node walk.0 in
    let there : slice_get links found.place ≡ Some found.link = slice_get-get_or links found.place found.link found.within ∙ ap Some found.is in
    let small : found.link.delay ≤ 16 = (at_place (λ (l : Link). (1 ≤ l.delay) × (l.delay ≤ 16)) links found.place found.link timely there).1 in
    let rest : ByLinks links node to (length nodes) = by_links links timely node nodes to walk.1 in
    record {
      path = found.link ∷ rest.path;
      leads = ((found.place, there), found.leaves, subst (λ (next : ℕ). IsPath links next rest.path to) (sym found.reaches) rest.leads);
      few = omega (arith, path_delay-cons found.link rest.path, rest.few, small);
    }

module _ (board : Board) (from to : ℕ) (from_node : from ≤ board.chips) (to_node : to ≤ board.chips) where
  -- some walk takes at most 16 microcycles for each chip
  least_few : least_delay board from to ≤ 16 * board.chips
  least_few =
      let shortest : IsDistance board.links from to (distance board from to) = distance_is_least board from to from_node to_node in
      let few : distance board from to ≤ board.chips = distance-le board from to in
      let walk : ByLinks board.links from to (length shortest.nodes) = by_links board.links board.linked.separate.timely from shortest.nodes to shortest.walk in
      let late = path_late board.links (least_delay board) (least_ways board) from walk.path to walk.leads in
      omega (arith, few, late, walk.few, shortest.count)

  taken : Taken board.links from to (least_delay board from to)
  unfolding least_delay
  taken =
      let limit = 16 * board.chips + 1 in
      let few : level_delay limit board.links from to ≤ 16 * board.chips = least_few in
      ⊎_elim (λ is. absurd (omega (arith, is, few))) (λ walk. walk) (level_taken board.links board.linked.separate.timely to limit from)

  -- so the least delay is that of a walk, and no other takes fewer microcycles
  pub least_is_least : IsLeastDelay board.links from to (least_delay board from to)
  least_is_least = record {
    path = taken.path;
    leads = taken.leads;
    takes = taken.takes;
    least = λ other leads. path_late board.links (least_delay board) (least_ways board) from other to leads;
  }
