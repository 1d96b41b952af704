-- A board has few links, since it has few pairs of nodes.
use Rattle.std.proofs.Common.{◌≡◌, ◌<◌, ◌≤◌, ◌+◌, ◌*◌, ℕ, true, false, List, [], ◌∷◌, length, map, get_or, eqb, eqb-true, ne_eqb, sym, ◌∙◌, ⊎_elim, true≢false, All, arith}
use Rattle.std.specs.List.{list_any, AllPairs, IsDistinct}
use Rattle.std.proofs.lemmas.Bool.{or_cases}
use Rattle.std.proofs.lemmas.List.{get_or-map, length-map}
use Rattle.std.proofs.lemmas.List.Elements.{All-head, All-tail}
use Rattle.std.proofs.lemmas.Map.Keys.{IsDistinct-from_apart}
use Rattle.std.proofs.lemmas.Map.Steps.{length-le_from_distinct_below}
use Rattle.vw_plan.specs.declared.board.Board.{Board}
use Rattle.vw_plan.specs.declared.link.Link.{Link}
use Rattle.vw_plan.specs.Links.{HaveSameEnds}

module _ (chips : ℕ) (few : chips ≤ 32) (links : List Link)
    (ends : All (λ link. (link.from ≤ chips) × (link.to ≤ chips)) links) (once : AllPairs (λ link other. ¬ (HaveSameEnds link other)) links) where
  -- a number for each pair of ends
  abbrev ends_number : Link → ℕ
  ends_number link = link.from * 33 + link.to

  numbers_differ : IsDistinct eqb (map ends_number links)
  numbers_differ = IsDistinct-from_apart eqb (map ends_number links) apart where
    apart : (i j default : ℕ) → i < j → j < length (map ends_number links)
        → eqb (get_or (map ends_number links) i default) (get_or (map ends_number links) j default) ≡ false
    apart i j default before within =
        let none : Link = record { from = 0; to = 0; width = 0; delay = 0 } in
        let size : length (map ends_number links) ≡ length links = length-map links ends_number in
        let early : i < length links = omega arith in
        let late : j < length links = omega arith in
        let one = get_or links i none in
        let other = get_or links j none in
        let at_one : get_or (map ends_number links) i default ≡ ends_number one = get_or-map ends_number links i none default early in
        let at_other : get_or (map ends_number links) j default ≡ ends_number other = get_or-map ends_number links j none default late in
        let one_ends : (one.from ≤ chips) × (one.to ≤ chips) = ends i none early in
        let other_ends : (other.from ≤ chips) × (other.to ≤ chips) = ends j none late in
        let differ = λ (same : get_or (map ends_number links) i default ≡ get_or (map ends_number links) j default). let numbers : ends_number one ≡ ends_number other = sym at_one ∙ same ∙ at_other in let froms : one.from ≡ other.from = omega arith in let tos : one.to ≡ other.to = omega arith in once i j none before late (froms, tos) in
        ne_eqb (get_or (map ends_number links) i default) (get_or (map ends_number links) j default) differ

  numbers_small : (all : List Link) → All (λ link. (link.from ≤ chips) × (link.to ≤ chips)) all → (number : ℕ)
      → list_any (eqb number) (map ends_number all) ≡ true → number < 1089
  numbers_small [] are number among = absurd (true≢false (sym among))
  numbers_small (link ∷ rest) are number among =
      let here = All-head (λ (other : Link). (other.from ≤ chips) × (other.to ≤ chips)) link rest are in
      let if_here = λ (is : eqb number (ends_number link) ≡ true). let same : number ≡ ends_number link = eqb-true number (ends_number link) is in let whole : number < 1089 = omega arith in whole in
      ⊎_elim if_here (numbers_small rest (All-tail (λ (other : Link). (other.from ≤ chips) × (other.to ≤ chips)) link rest are) number) (or_cases (eqb number (ends_number link)) (list_any (eqb number) (map ends_number rest)) among)

  -- there are no more links than pairs of nodes
  pub few_links : length links ≤ 1089
  few_links = omega (arith, length-map links ends_number, length-le_from_distinct_below (map ends_number links) 1089 numbers_differ (numbers_small links ends))

pub few_links_on : (board : Board) → length board.links ≤ 1089
few_links_on board = few_links board.chips board.few_chips board.links board.linked.separate.ends board.linked.separate.once
