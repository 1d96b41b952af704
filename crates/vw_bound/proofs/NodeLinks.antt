-- The pins that lead to a node: there are some, and not many.
use Rattle.std.proofs.Common.{◌≡◌, ◌≤◌, ◌+◌, ◌==◌, ℕ, zero, suc, Bool, true, false, List, [], ◌∷◌, get_or, cond, Some, ap, sym, ◌∙◌, ⊎_elim, eq-eqb, true≢false, All, arith}
use Rattle.std.specs.List.{list_any}
use Rattle.std.proofs.lemmas.Bool.{cases_eq, or_cases}
use Rattle.std.proofs.lemmas.List.Elements.{All-head, All-tail}
use Rattle.std.proofs.lemmas.List.Sums.{sum_by-cons, sum_by-le}
use Rattle.std.proofs.lemmas.Option.{slice_get-get_or}
use Rattle.vw_net.proofs.ListedLists.{any_stands}
use Rattle.vw_plan.specs.declared.board.Board.{Board}
use Rattle.vw_plan.specs.declared.link.Link.{Link}
use Rattle.vw_plan.specs.Walks.{IsWalk, has_link}
use Rattle.vw_plan.specs.Distance.{IsDistance, distance}
use Rattle.vw_plan.proofs.FewLinks.{few_links_on}
use Rattle.vw_plan.proofs.Shortest.{distance_is_least}
use Rattle.vw_plan.proofs.Walking.{Found, found_link}
use Rattle.vw_bound.specs.Pins.{pins_into, pins_of}

-- a link that leads from a node to one leads there
entered : (links : List Link) (from to : ℕ) → has_link links from to ≡ true → list_any (λ link. link.to == to) links ≡ true
entered links from to has =
    let found : Found links from to = found_link links from to has in
    any_stands (λ (link : Link). link.to == to) found.link links (found.place, slice_get-get_or links found.place found.link found.within ∙ ap (λ (link : Link). Some link) found.is) (eq-eqb found.link.to to found.reaches)

-- so does the last of a walk from another node
walk_enters : (links : List Link) (from : ℕ) (nodes : List ℕ) (to : ℕ) → IsWalk links from nodes to → (from ≡ to → ⊥) → list_any (λ link. link.to == to) links ≡ true
walk_enters links from [] to walk apart = absurd (apart walk)
walk_enters links from (node ∷ nodes) to walk apart =
    ⊎_elim (λ same. entered links from to (ap (has_link links from) (sym same) ∙ walk.0)) (λ other. walk_enters links node nodes to walk.1 other) (cases_eq node to)

module _ (node : ℕ) where
  -- a link that leads there has a pin
  any_pins : (links : List Link) → All (λ link. (1 ≤ link.width) × (link.width ≤ 64)) links → list_any (λ link. link.to == node) links ≡ true → 1 ≤ pins_into links node
  any_pins [] wide any = absurd (true≢false (sym any))
  any_pins (link ∷ links) wide any =
      let is_wide = λ (one : Link). (1 ≤ one.width) × (one.width ≤ 64) in
      let some : (1 ≤ link.width) × (link.width ≤ 64) = All-head is_wide link links wide in
      let all : pins_into (link ∷ links) node ≡ cond (link.to == node) link.width 0 + pins_into links node = sum_by-cons (λ (one : Link). cond (one.to == node) one.width 0) link links in
      let if_here = λ (here : (link.to == node) ≡ true). let got : 1 ≤ pins_into (link ∷ links) node = omega (arith, all, some.0, ap (λ (is : Bool). cond is link.width 0) here) in got in
      let if_later = λ (later : list_any (λ (one : Link). one.to == node) links ≡ true). let got : 1 ≤ pins_into (link ∷ links) node = omega (arith, all, any_pins links (All-tail is_wide link links wide) later) in got in
      ⊎_elim if_here if_later (or_cases (link.to == node) (list_any (λ (one : Link). one.to == node) links) any)

module _ (board : Board) where
  -- each node of a board has pins, since each other one has a walk to it
  pub some_pins : (node : ℕ) → node ≤ board.chips → 1 ≤ pins_into board.links node
  some_pins zero low = any_pins 0 board.links board.linked.separate.wide (by (distance_is_least board 1 0 board.some_chips low)) where
    by : IsDistance board.links 1 0 (distance board 1 0) → list_any (λ link. link.to == 0) board.links ≡ true
    by shortest = walk_enters board.links 1 shortest.nodes 0 shortest.walk (λ same. omega arith)
  some_pins (suc node) low = any_pins (suc node) board.links board.linked.separate.wide (by (distance_is_least board 0 (suc node) (omega arith) low)) where
    by : IsDistance board.links 0 (suc node) (distance board 0 (suc node)) → list_any (λ link. link.to == suc node) board.links ≡ true
    by shortest = walk_enters board.links 0 shortest.nodes (suc node) shortest.walk (λ same. omega arith)

  -- and links have few in all
  pub few_over : (over : Link → Bool) → pins_of board.links over ≤ 69696
  few_over over =
      let narrow : All (λ link. cond (over link) link.width 0 ≤ 64) board.links = λ place default within.
      let link : Link = get_or board.links place default in
      let wide : (1 ≤ link.width) × (link.width ≤ 64) = board.linked.separate.wide place default within in
      elim (over link) as (λ is. cond is link.width 0 ≤ 64) [ true ↦ wide.1 | false ↦ omega arith ] in
      omega (arith, sum_by-le (λ (link : Link). cond (over link) link.width 0) 64 board.links narrow, few_links_on board)
