-- What chips hold, after a cell is put or moved.
use Rattle.std.proofs.Common.{◌≡◌, ◌<◌, ◌≤◌, ◌+◌, ◌*◌, ℕ, zero, suc, Bool, true, false, List, [], ◌∷◌, ◌++◌, length, get_or, set, cond, eqb, refl, sym, subst, ◌∙◌, arith}
use Rattle.std.specs.Prelude.{sum_by}
use Rattle.std.specs.List.{All, range_with_len}
use Rattle.std.proofs.lemmas.List.Elements.{All-head, All-tail}
use Rattle.std.proofs.lemmas.List.FromFn.{length-range_with_len}
use Rattle.std.proofs.lemmas.List.Sums.{sum_by-cons, sum_by-le, sum_by-set, sum_by_push}
use Rattle.vw_plan.specs.Chips.{cells_on}
use Rattle.vw_part.specs.Steps.Deals.{cells_held}
use Rattle.vw_part.specs.Steps.CellNets.{times_among}
use Rattle.vw_net.proofs.SumsOverLists.{length_sum}
use Rattle.vw_part.proofs.Shares.{at, at_same, by_share}

pub at_none : (number other : ℕ) → at number 0 other ≡ 0
at_none number other = none (eqb number other) where
  none : (bit : Bool) → cond {A = ℕ} bit 0 0 ≡ 0
  none true = refl
  none false = refl

pub at-le : (number amount other : ℕ) → at number amount other ≤ amount
at-le number amount other = below (eqb number other) where
  below : (bit : Bool) → cond bit amount 0 ≤ amount
  below true = omega arith
  below false = omega arith

-- ---- cells

pub on_push : (chips : List ℕ) (new chip : ℕ) → cells_on (chips ++ new ∷ []) chip ≡ cells_on chips chip + at new 1 chip
on_push chips new chip = sum_by_push (λ other. at other 1 chip) chips new

pub on_set : (chips : List ℕ) (cell new chip : ℕ) → cell < length chips → cells_on (set chips cell new) chip + at (get_or chips cell 0) 1 chip ≡ cells_on chips chip + at new 1 chip
on_set chips cell new chip within = sum_by-set (λ other. at other 1 chip) chips cell new 0 within

-- each cell is on one of the chips
pub on_all : (chips : List ℕ) (most : ℕ) → All (λ chip. (1 ≤ chip) × (chip ≤ most)) chips → sum_by (cells_on chips) (range_with_len 1 most) ≡ length chips
on_all chips most real = by_share (λ chip. 1) chips 1 most (λ place default within. ((real place default within).0, omega (arith, (real place default within).1))) ∙ sym (length_sum chips)

-- a room for each of a range
pub all_full : (amount : ℕ → ℕ) (room from many : ℕ) → ((x : ℕ) → from ≤ x → x < from + many → room ≤ amount x) → many * room ≤ sum_by amount (range_with_len from many)
all_full amount room from zero full = omega arith
all_full amount room from (suc many) full =
    omega (arith, sum_by-cons amount from (range_with_len (from + 1) many), full from (omega arith) (omega arith), all_full amount room (from + 1) many (λ x above below. full x (omega arith) (omega arith)))

-- chips with room for all cells on them have room for all cells
pub all_fit : (chips : List ℕ) (most room : ℕ) → All (λ chip. (1 ≤ chip) × (chip ≤ most)) chips → ((chip : ℕ) → cells_on chips chip ≤ room) → length chips ≤ most * room
all_fit chips most room real few =
    let range = range_with_len 1 most in
    let all : sum_by (cells_on chips) range ≤ most * room = subst (λ (many : ℕ). sum_by (cells_on chips) range ≤ many * room) (length-range_with_len 1 most) (sum_by-le (cells_on chips) room range (λ place default within. few (get_or range place default))) in
    omega (arith, on_all chips most real, all)

-- ---- nets

pub held_push : (chips : List ℕ) (cell_nets : List (List ℕ)) (new chip net : ℕ) → length chips < length cell_nets → cells_held (chips ++ new ∷ []) cell_nets chip net ≡ cells_held chips cell_nets chip net + at new (times_among (get_or cell_nets (length chips) []) net) chip
held_push [] [] new chip net within = absurd (omega arith)
held_push [] (own ∷ cell_nets) new chip net within = omega arith
held_push (first ∷ chips) [] new chip net within = absurd (omega arith)
held_push (first ∷ chips) (own ∷ cell_nets) new chip net within = omega (arith, held_push chips cell_nets new chip net (omega arith))

pub held_set : (chips : List ℕ) (cell_nets : List (List ℕ)) (cell new chip net : ℕ) → cell < length chips → cells_held (set chips cell new) cell_nets chip net + at (get_or chips cell 0) (times_among (get_or cell_nets cell []) net) chip ≡ cells_held chips cell_nets chip net + at new (times_among (get_or cell_nets cell []) net) chip
held_set [] cell_nets cell new chip net within = absurd (omega arith)
held_set (first ∷ chips) [] zero new chip net within = omega (arith, at_none first chip, at_none new chip)
held_set (first ∷ chips) [] (suc cell) new chip net within = omega (arith, at_none (get_or chips cell 0) chip, at_none new chip)
held_set (first ∷ chips) (own ∷ cell_nets) zero new chip net within = omega arith
held_set (first ∷ chips) (own ∷ cell_nets) (suc cell) new chip net within = omega (arith, held_set chips cell_nets cell new chip net (omega arith))

-- a cell's nets are held by its chip
pub held_least : (chips : List ℕ) (cell_nets : List (List ℕ)) (cell net : ℕ) → cell < length chips → times_among (get_or cell_nets cell []) net ≤ cells_held chips cell_nets (get_or chips cell 0) net
held_least [] cell_nets cell net within = absurd (omega arith)
held_least (first ∷ chips) [] cell net within = omega arith
held_least (first ∷ chips) (own ∷ cell_nets) zero net within = omega (arith, at_same first (times_among own net))
held_least (first ∷ chips) (own ∷ cell_nets) (suc cell) net within = omega (arith, held_least chips cell_nets cell net (omega arith))

pub held-le : (chips : List ℕ) (cell_nets : List (List ℕ)) (chip net : ℕ) → All (λ own. (net : ℕ) → times_among own net ≤ 1) cell_nets → cells_held chips cell_nets chip net ≤ length chips
held-le [] cell_nets chip net once = omega arith
held-le (first ∷ chips) [] chip net once = omega arith
held-le (first ∷ chips) (own ∷ cell_nets) chip net once =
    let here = All-head (λ own. (net : ℕ) → times_among own net ≤ 1) own cell_nets once net in
    omega (arith, at-le first (times_among own net) chip, here, held-le chips cell_nets chip net (All-tail (λ own. (net : ℕ) → times_among own net ≤ 1) own cell_nets once))
