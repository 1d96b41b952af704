-- Rows of delays, as they grow.
use Rattle.std.proofs.Common.{◌≡◌, ◌<◌, ◌≤◌, ◌+◌, ◌*◌, ◌++◌, ℕ, zero, suc, List, [], ◌∷◌, length, get_or, replicate, slice_index, eqb, cond, ap, refl, sym, subst, ◌∙◌, ⊎_elim, length-append, All, arith}
use Rattle.std.proofs.lemmas.Bool.{cases_lt}
use Rattle.std.proofs.lemmas.List.Elements.{All-weaker}
use Rattle.std.proofs.Math.ListN.{get_or-append, length-replicate}
use Rattle.std.proofs.Math.Seq.{get_or-append_seam}
use Rattle.vw_plan.specs.declared.link.Link.{Link}
use Rattle.vw_plan.specs.declared.board.Board.{Board}
use Rattle.vw_delays.specs.Delays.{least_delay, level_delay, nearest}
use Rattle.vw_delays.specs.Steps.Rows.{AreLeastDelays, AreShortLinks, DelaysSoFar, RowsSoFar}
use Rattle.vw_delays.proofs.LevelDelays.{level_delay-low, nearest_agree}

-- what holds of each element and of one more
each_pushed : {A : Type 0} (P : ℕ → A → Type 0) (xs : List A) (x default : A) (place : ℕ) → length xs ≡ place
    → ((at : ℕ) → at < place → P at (get_or xs at default)) → P place x → (at : ℕ) → at < place + 1 → P at (get_or (xs ++ x ∷ []) at default)
each_pushed P xs x default place size each last at below = ⊎_elim if_before if_last (cases_lt at place) where
  if_before : at < place → P at (get_or (xs ++ x ∷ []) at default)
  if_before before = subst (P at) (sym (get_or-append xs (x ∷ []) default at (omega arith))) (each at before)

  if_last : place ≤ at → P at (get_or (xs ++ x ∷ []) at default)
  if_last past =
      let here : at ≡ length xs = omega arith in
      let is : get_or (xs ++ x ∷ []) at default ≡ x = ap (λ (n : ℕ). get_or (xs ++ x ∷ []) n default) here ∙ get_or-append_seam xs x [] default in
      let same : place ≡ at = omega arith in
      subst (P at) (sym is) (subst (λ (n : ℕ). P n x) same last)

length_push : {A : Type 0} (xs : List A) (x : A) (place : ℕ) → length xs ≡ place → length (xs ++ x ∷ []) ≡ place + 1
length_push xs x place size = omega (arith, length-append xs (x ∷ []))

module _ (links : List Link) (limit to : ℕ) where
  -- the next limit's delay of a node, by the row of this one's
  pub next_delay : (row : List ℕ) (from number : ℕ) → AreShortLinks (length row) links → DelaysSoFar links limit to (length row) row
      → number ≡ cond (eqb from to) 0 (nearest (limit + 1) links (slice_index row) from) → number ≡ level_delay (limit + 1) links from to
  next_delay row from number short is made =
      let one : limit + 1 ≡ suc limit = omega arith in
      let number_of = λ (node : ℕ). level_delay limit links node to in
      let agree : All (λ (link : Link). slice_index row link.to ≡ number_of link.to) links = All-weaker (λ (link : Link). (link.to < length row) × (link.delay ≤ 16)) (λ (link : Link). slice_index row link.to ≡ number_of link.to) (λ link fits. is.number link.to fits.0) links short in
      made
      ∙ ap (λ (other : ℕ). cond (eqb from to) 0 other) (nearest_agree (limit + 1) links (slice_index row) number_of from agree)
      ∙ ap (λ (most : ℕ). cond (eqb from to) 0 (nearest most links number_of from)) one
      ∙ ap (λ (level : ℕ). level_delay level links from to) (sym one)

  pub row_push : (place : ℕ) (row : List ℕ) (number : ℕ) → DelaysSoFar links limit to place row → number ≡ level_delay limit links place to → DelaysSoFar links limit to (place + 1) (row ++ number ∷ [])
  row_push place row number so_far is = record {
    each = length_push row number place so_far.each;
    number = each_pushed (λ from delay. delay ≡ level_delay limit links from to) row number 0 place so_far.each so_far.number is;
  }

  -- none of them is above the limit
  pub row_low : (row : List ℕ) → limit ≤ 1000 → DelaysSoFar links limit to (length row) row → All (λ delay. delay ≤ 1024) row
  row_low row few is place default within =
      let same : get_or row place default ≡ slice_index row place = same_default row place default 0 within in
      let low = level_delay-low limit links place to in
      omega (arith, same, is.number place within, low)
    where
      same_default : (xs : List ℕ) (at one other : ℕ) → at < length xs → get_or xs at one ≡ get_or xs at other
      same_default [] at one other inside = absurd (omega (arith, inside))
      same_default (x ∷ xs) zero one other inside = refl
      same_default (x ∷ xs) (suc at) one other inside = same_default xs at one other (omega (arith, inside))

get_replicate : (count place : ℕ) → slice_index (replicate count 0) place ≡ 0
get_replicate zero place = refl
get_replicate (suc count) zero = refl
get_replicate (suc count) (suc place) = get_replicate count place

-- at first they are 0
pub first_row : (links : List Link) (to count : ℕ) → DelaysSoFar links 0 to count (replicate count 0)
first_row links to count = record {
  each = length-replicate count 0;
  number = λ from below. get_replicate count from;
}

-- at the last limit they are the least
pub last_row : (board : Board) (to : ℕ) (row : List ℕ) → DelaysSoFar board.links (16 * board.chips + 1) to (board.chips + 1) row → AreLeastDelays board to row
unfolding least_delay
last_row board to row is = record { each = is.each; number = λ from low. is.number from (omega (arith, low)) }

-- one row more
pub rows_push : (board : Board) (place : ℕ) (rows : List (List ℕ)) (row : List ℕ) → RowsSoFar board place rows → AreLeastDelays board place row → RowsSoFar board (place + 1) (rows ++ row ∷ [])
rows_push board place rows row so_far is = record {
  each = length_push rows row place so_far.each;
  row = each_pushed (λ to list. AreLeastDelays board to list) rows row [] place so_far.each so_far.row is;
}

-- the links of a board lead to its nodes
pub short_links : (board : Board) → AreShortLinks (board.chips + 1) board.links
short_links board place default within =
    let to : (get_or board.links place default).to ≤ board.chips = (board.linked.separate.ends place default within).1 in
    let delay = (board.linked.separate.timely place default within).1 in
    (omega (arith, to), delay)
