-- Walks, and tests for walks of a number of links.
use Rattle.std.proofs.Common.{◌≡◌, ◌<◌, ◌≤◌, ◌&&◌, ℕ, zero, suc, Bool, true, false, List, [], ◌∷◌, length, get_or, eqb, ap, refl, subst, ◌∙◌, ⊎_elim, eqb-true, eq-eqb, arith}
use Rattle.std.specs.List.{list_any, Any}
use Rattle.std.proofs.lemmas.Bool.{cases_Bool, and_parts, and_from}
use Rattle.std.proofs.lemmas.List.Folds.{Any-from_list_any, list_any_at}
use Rattle.vw_plan.specs.declared.link.Link.{Link}
use Rattle.vw_plan.specs.Walks.{has_link, IsWalk}
use Rattle.vw_plan.specs.Distance.{has_walk, least}

-- a link from one node to another, found
pub record Found (links : List Link) (from to : ℕ) : Type 0 where
  pub place : ℕ
  pub link : Link
  pub within : place < length links
  pub is : get_or links place link ≡ link
  pub leaves : link.from ≡ from
  pub reaches : link.to ≡ to

pub found_link : (links : List Link) (from to : ℕ) → has_link links from to ≡ true → Found links from to
found_link links from to has =
    let test = λ (link : Link). eqb link.from from && eqb link.to to in
    let any : Any (λ link. test link ≡ true) links = Any-from_list_any test links has in
    let ends : (eqb any.1.from from ≡ true) × (eqb any.1.to to ≡ true) = and_parts (eqb any.1.from from) (eqb any.1.to to) any.4 in
    record { place = any.0; link = any.1; within = any.2; is = any.3; leaves = eqb-true any.1.from from ends.0; reaches = eqb-true any.1.to to ends.1 }

-- a list of links that has one passes its test
passing : (links : List Link) (test : Link → Bool) (place : ℕ) (link : Link) → place < length links → get_or links place link ≡ link
    → test link ≡ true → list_any test links ≡ true
passing links test place link within is passes = list_any_at test links place link within (ap test is ∙ passes)

-- a walk passes the test for as many links as it has
pub has_walk-IsWalk : (links : List Link) (from : ℕ) (nodes : List ℕ) (to : ℕ) → IsWalk links from nodes to → has_walk links (length nodes) from to ≡ true
has_walk-IsWalk links from [] to walk = eq-eqb from to walk
has_walk-IsWalk links from (node ∷ nodes) to walk =
    let found : Found links from node = found_link links from node walk.0 in
    let rest : has_walk links (length nodes) node to ≡ true = has_walk-IsWalk links node nodes to walk.1 in
    let test = λ (link : Link). eqb link.from from && has_walk links (length nodes) link.to to in
    let here : test found.link ≡ true = and_from (eqb found.link.from from) (has_walk links (length nodes) found.link.to to) (eq-eqb found.link.from from found.leaves) (ap (λ (next : ℕ). has_walk links (length nodes) next to) found.reaches ∙ rest) in
    passing links test found.place found.link found.within found.is here

-- a walk of a number of links
pub record Walked (links : List Link) (count from to : ℕ) : Type 0 where
  pub nodes : List ℕ
  pub walk : IsWalk links from nodes to
  pub long : length nodes ≡ count

-- and where a number of links passes the test, there is one
pub walk-has_walk : (links : List Link) (count from to : ℕ) → has_walk links count from to ≡ true → Walked links count from to
walk-has_walk links zero from to has = record { nodes = []; walk = eqb-true from to has; long = refl }
walk-has_walk links (suc count) from to has =
    let test = λ (link : Link). eqb link.from from && has_walk links count link.to to in
    let any : Any (λ link. test link ≡ true) links = Any-from_list_any test links has in
    let link = any.1 in
    let parts : (eqb link.from from ≡ true) × (has_walk links count link.to to ≡ true) = and_parts (eqb link.from from) (has_walk links count link.to to) any.4 in
    let rest : Walked links count link.to to = walk-has_walk links count link.to to parts.1 in
    let ends = λ (other : Link). eqb other.from from && eqb other.to link.to in
    let here : has_link links from link.to ≡ true = passing links ends any.0 link any.2 any.3 (and_from (eqb link.from from) (eqb link.to link.to) parts.0 (eq-eqb link.to link.to refl)) in
    record { nodes = link.to ∷ rest.nodes; walk = (here, rest.walk); long = ap suc rest.long }

-- of the numbers that pass a test, none below the limit is less than the least, and the least passes
pub record IsLeastPassing (test : ℕ → Bool) (limit number : ℕ) : Type 0 where
  pub below : least test limit ≤ number
  pub passes : test (least test limit) ≡ true

pub least_passes : (test : ℕ → Bool) (limit number : ℕ) → number ≤ limit → test number ≡ true → IsLeastPassing test limit number
least_passes test zero number within passes = let none : number ≡ 0 = omega arith in record { below = omega arith; passes = subst (λ n. test n ≡ true) none passes }
least_passes test (suc limit) zero within first = record { below = rw first (omega arith); passes = rw first first }
least_passes test (suc limit) (suc number) within passes =
    let rest : IsLeastPassing (λ other. test (suc other)) limit number = least_passes (λ other. test (suc other)) limit number (omega arith) passes in
    let if_first = λ (first : test 0 ≡ true). let whole : IsLeastPassing test (suc limit) (suc number) = record { below = rw first (omega arith); passes = rw first first } in whole in
    let if_later = λ (later : test 0 ≡ false). let whole : IsLeastPassing test (suc limit) (suc number) = record { below = rw later (omega (arith, rest.below)); passes = rw later rest.passes } in whole in
    ⊎_elim if_first if_later (cases_Bool (test 0))
