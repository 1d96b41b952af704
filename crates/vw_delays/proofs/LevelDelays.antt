-- Delays counted up to limits: they grow with the limit, and no link shortens the way by more than its delay.
use Rattle.std.proofs.Common.{◌≡◌, ◌<◌, ◌≤◌, ◌+◌, ◌*◌, ℕ, zero, suc, Bool, true, false, List, [], ◌∷◌, length, get_or, min, eqb, cond, ap, refl, ◌∙◌, ◌⊎◌, inl, inr, ⊎_elim, eq-eqb, eqb-true, slice_get, Some, All, arith}
use Rattle.std.proofs.lemmas.Bool.{cases_Bool, cases_lt}
use Rattle.std.proofs.lemmas.List.Elements.{All-head, All-tail}
use Rattle.vw_plan.specs.declared.link.Link.{Link}
use Rattle.vw_plan.specs.declared.board.Board.{Board}
use Rattle.vw_delays.specs.Delays.{least_delay, level_delay, nearest}
use Rattle.vw_delays.specs.Ways.{AreWays}

-- ---- the least of what links give

pub nearest_low : (limit : ℕ) (links : List Link) (number_of : ℕ → ℕ) (from : ℕ) → nearest limit links number_of from ≤ limit
nearest_low limit [] number_of from = omega arith
nearest_low limit (link ∷ links) number_of from = omega (arith, nearest_low limit links number_of from)

pub nearest_below : (limit : ℕ) (links : List Link) (number_of : ℕ → ℕ) (from place : ℕ) (default : Link) → place < length links
    → (get_or links place default).from ≡ from
    → nearest limit links number_of from ≤ (get_or links place default).delay + number_of (get_or links place default).to
nearest_below limit [] number_of from place default within leaves = absurd (omega (arith, within))
nearest_below limit (link ∷ links) number_of from zero default within leaves = rw (eq-eqb link.from from leaves) (omega arith)
nearest_below limit (link ∷ links) number_of from (suc place) default within leaves = omega (arith, nearest_below limit links number_of from place default (omega (arith, within)) leaves)

-- it grows with the limit and the numbers
pub nearest_grows : (limit most : ℕ) (links : List Link) (low high : ℕ → ℕ) (from : ℕ) → limit ≤ most → ((node : ℕ) → low node ≤ high node)
    → nearest limit links low from ≤ nearest most links high from
nearest_grows limit most [] low high from more grows = more
nearest_grows limit most (link ∷ links) low high from more grows =
    let rest = nearest_grows limit most links low high from more grows in
    elim (eqb link.from from) as (λ leaves. min (cond leaves (link.delay + low link.to) limit) (nearest limit links low from) ≤ min (cond leaves (link.delay + high link.to) most) (nearest most links high from)) [
      | true ↦ omega (arith, rest, grows link.to)
      | false ↦ omega (arith, rest, more)
    ]

-- it depends on the nodes that the links reach, and on no other
pub nearest_agree : (limit : ℕ) (links : List Link) (one other : ℕ → ℕ) (from : ℕ) → All (λ link. one link.to ≡ other link.to) links
    → nearest limit links one from ≡ nearest limit links other from
nearest_agree limit [] one other from agree = refl
nearest_agree limit (link ∷ links) one other from agree =
    let here = All-head (λ (l : Link). one l.to ≡ other l.to) link links agree in
    let rest = nearest_agree limit links one other from (All-tail (λ (l : Link). one l.to ≡ other l.to) link links agree) in
    let first : cond (eqb link.from from) (link.delay + one link.to) limit ≡ cond (eqb link.from from) (link.delay + other link.to) limit = ap (λ (number : ℕ). cond (eqb link.from from) (link.delay + number) limit) here in
    ap (λ (number : ℕ). min number (nearest limit links one from)) first ∙ ap (min (cond (eqb link.from from) (link.delay + other link.to) limit)) rest

-- a link that gives it
pub record Nearest (links : List Link) (number_of : ℕ → ℕ) (from number : ℕ) : Type 0 where
  pub place : ℕ
  pub link : Link
  pub there : slice_get links place ≡ Some link
  pub leaves : link.from ≡ from
  pub is : number ≡ link.delay + number_of link.to

pub nearest_link : (limit : ℕ) (links : List Link) (number_of : ℕ → ℕ) (from : ℕ)
    → (nearest limit links number_of from ≡ limit) ⊎ Nearest links number_of from (nearest limit links number_of from)
nearest_link limit [] number_of from = inl refl
nearest_link limit (link ∷ links) number_of from =
    let rest = nearest limit links number_of from in
    let whole = nearest limit (link ∷ links) number_of from in
    let low : rest ≤ limit = nearest_low limit links number_of from in
    let Goal = (whole ≡ limit) ⊎ Nearest (link ∷ links) number_of from whole in
    let by_rest = λ (same : whole ≡ rest).
    let if_limit = λ (is : rest ≡ limit). let got : Goal = inl (same ∙ is) in got in
    let if_later = λ (found : Nearest links number_of from rest). let got : Goal = inr (record { place = suc found.place; link = found.link; there = found.there; leaves = found.leaves; is = same ∙ found.is }) in got in
    ⊎_elim if_limit if_later (nearest_link limit links number_of from) in
    let if_leaves = λ (leaves : eqb link.from from ≡ true).
    let opened : whole ≡ min (link.delay + number_of link.to) rest = ap (λ (is : Bool). min (cond is (link.delay + number_of link.to) limit) rest) leaves in
    let if_first = λ (less : link.delay + number_of link.to < rest). let got : Goal = inr (record { place = 0; link = link; there = refl; leaves = eqb-true link.from from leaves; is = omega (arith, opened, less) }) in got in
    ⊎_elim if_first (λ more. by_rest (omega (arith, opened, more))) (cases_lt (link.delay + number_of link.to) rest) in
    let if_not = λ (not_here : eqb link.from from ≡ false).
    let opened : whole ≡ min limit rest = ap (λ (is : Bool). min (cond is (link.delay + number_of link.to) limit) rest) not_here in
    by_rest (omega (arith, opened, low)) in
    ⊎_elim if_leaves if_not (cases_Bool (eqb link.from from))

-- ---- delays up to a limit

pub level_delay-low : (limit : ℕ) (links : List Link) (from to : ℕ) → level_delay limit links from to ≤ limit
level_delay-low zero links from to = omega arith
level_delay-low (suc limit) links from to =
    elim (eqb from to) as (λ same. cond same 0 (nearest (suc limit) links (λ node. level_delay limit links node to) from) ≤ suc limit) [
      | true ↦ omega arith
      | false ↦ nearest_low (suc limit) links (λ node. level_delay limit links node to) from
    ]

pub level_delay-grows : (limit : ℕ) (links : List Link) (from to : ℕ) → level_delay limit links from to ≤ level_delay (suc limit) links from to
level_delay-grows zero links from to = omega arith
level_delay-grows (suc limit) links from to =
    elim (eqb from to) as (λ same. cond same 0 (nearest (suc limit) links (λ node. level_delay limit links node to) from) ≤ cond same 0 (nearest (suc (suc limit)) links (λ node. level_delay (suc limit) links node to) from)) [
      | true ↦ omega arith
      | false ↦ nearest_grows (suc limit) (suc (suc limit)) links (λ node. level_delay limit links node to) (λ node. level_delay (suc limit) links node to) from (omega arith) (λ node. level_delay-grows limit links node to)
    ]

level_delay-own : (limit : ℕ) (links : List Link) (node : ℕ) → level_delay limit links node node ≡ 0
level_delay-own zero links node = refl
level_delay-own (suc limit) links node = rw (eq-eqb node node refl) refl

-- over a link at most its delay more
pub level_delay-further : (limit : ℕ) (links : List Link) (to : ℕ) → All (λ link. level_delay limit links link.from to ≤ link.delay + level_delay limit links link.to to) links
level_delay-further limit links to place default within =
    let link = get_or links place default in
    let number_of = λ (node : ℕ). level_delay limit links node to in
    let grows = level_delay-grows limit links link.from to in
    let above = nearest_below (suc limit) links number_of link.from place default within refl in
    let step : level_delay (suc limit) links link.from to ≤ link.delay + number_of link.to = elim (eqb link.from to) as (λ same. cond same 0 (nearest (suc limit) links number_of link.from) ≤ link.delay + number_of link.to) [
      | true ↦ omega arith
      | false ↦ above
    ] in
    omega (arith, grows, step)

-- least delays are ways
pub least_ways : (board : Board) → AreWays board.links (least_delay board)
unfolding least_delay
least_ways board = record {
  own = λ node. level_delay-own (16 * board.chips + 1) board.links node;
  further = λ to. level_delay-further (16 * board.chips + 1) board.links to;
}

pub least_low : (board : Board) (from to : ℕ) → least_delay board from to ≤ 16 * board.chips + 1
unfolding least_delay
least_low board from to = level_delay-low (16 * board.chips + 1) board.links from to
