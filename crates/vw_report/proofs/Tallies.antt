-- Tallies, number by number.
use Rattle.std.proofs.Common.{◌≡◌, ◌<◌, ◌≤◌, ◌+◌, ◌∙◌, ℕ, List, length, map, drop, get_or, set, replicate, eqb, eq-eqb, ne_eqb, ap, sym, ⊎_elim, arith}
use Rattle.std.specs.List.{count_by}
use Rattle.std.proofs.lemmas.Bool.{cases_eq}
use Rattle.std.proofs.lemmas.Grind.{get_or-set_at}
use Rattle.std.proofs.lemmas.List.{drop_all, drop_more, get_or-replicate, get_or-set_other, length-replicate, length-set}
use Rattle.std.proofs.lemmas.List.Sums.{count_by-le-length}
use Rattle.vw_net.proofs.CountsOverLists.{count_cons, count_map}
use Rattle.vw_net.specs.Steps.Bits.{one_if}
use Rattle.vw_plan.specs.PlannedBoard.{PlannedBoard}
use Rattle.vw_plan.specs.Sound.{hops_of}
use Rattle.vw_report.specs.Counts.{link_of}
use Rattle.vw_report.specs.Steps.Tallies.{AreHopCounts, AreTallies}

-- how often a number stands in a list
abbrev often : List ℕ → ℕ → ℕ
often numbers number = count_by (λ one. eqb one number) numbers

-- counts of the numbers so far, where those from a place on are left
pub record AreTalliesSoFar (numbers : List ℕ) (limit place : ℕ) (counts : List ℕ) : Type 0 where
  pub each : length counts ≡ limit
  pub left : (number : ℕ) → number < limit → get_or counts number 0 + often (drop place numbers) number ≡ often numbers number

pub tallies_start : (numbers counts : List ℕ) (limit : ℕ) → counts ≡ replicate limit 0 → AreTalliesSoFar numbers limit 0 counts
tallies_start numbers counts limit zeros = record {
  each = ap length zeros ∙ length-replicate {A = ℕ} limit 0;
  left = λ number less. let none : get_or counts number 0 ≡ 0 = ap (λ (list : List ℕ). get_or list number 0) zeros ∙ get_or-replicate limit number 0 0 less in omega (arith, none);
}

module _ (numbers : List ℕ) (limit place one : ℕ) (counts : List ℕ) (within : place < length numbers) (is : one ≡ get_or numbers place one) (so : AreTalliesSoFar numbers limit place counts) where
  here : (number : ℕ) → often (drop place numbers) number ≡ one_if (eqb one number) + often (drop (place + 1) numbers) number
  here number = ap (λ (list : List ℕ). often list number) (drop_more numbers place one within)
      ∙ count_cons (λ (other : ℕ). eqb other number) (get_or numbers place one) (drop (place + 1) numbers)
      ∙ ap (λ (first : ℕ). one_if (eqb first number) + often (drop (place + 1) numbers) number) (sym is)

  -- no count is near the end of its type
  pub count_small : one < limit → get_or counts one 0 ≤ length numbers
  count_small less = omega (arith, so.left one less, count_by-le-length (λ (other : ℕ). eqb other one) numbers)

  pub counted : (after : List ℕ) → one < limit → after ≡ set counts one (get_or counts one 0 + 1) → AreTalliesSoFar numbers limit (place + 1) after
  counted after less set_is = record {
    each = ap length set_is ∙ length-set counts one (get_or counts one 0 + 1) ∙ so.each;
    left = λ number below.
        let if_here = λ (same : number ≡ one).
        let now : get_or after number 0 ≡ get_or counts one 0 + 1 = ap (λ (list : List ℕ). get_or list number 0) set_is ∙ get_or-set_at counts one number (get_or counts one 0 + 1) 0 same (omega (arith, less, so.each)) in
        let mark : one_if (eqb one number) ≡ 1 = ap one_if (eq-eqb one number (sym same)) in
        let was : get_or counts number 0 ≡ get_or counts one 0 = ap (λ (at : ℕ). get_or counts at 0) same in
        let whole : get_or after number 0 + often (drop (place + 1) numbers) number ≡ often numbers number = omega (arith, now, mark, was, here number, so.left number below) in whole in
        let if_other = λ (not : ¬ (number ≡ one)).
        let now : get_or after number 0 ≡ get_or counts number 0 = ap (λ (list : List ℕ). get_or list number 0) set_is ∙ get_or-set_other counts one number (get_or counts one 0 + 1) 0 not in
        let mark : one_if (eqb one number) ≡ 0 = ap one_if (ne_eqb one number (λ same. not (sym same))) in
        let whole : get_or after number 0 + often (drop (place + 1) numbers) number ≡ often numbers number = omega (arith, now, mark, here number, so.left number below) in whole in
        ⊎_elim if_here if_other (cases_eq number one);
  }

  pub passed_over : limit ≤ one → AreTalliesSoFar numbers limit (place + 1) counts
  passed_over past = record {
    each = so.each;
    left = λ number below. let mark : one_if (eqb one number) ≡ 0 = ap one_if (ne_eqb one number (λ same. omega (arith, same, past, below))) in omega (arith, mark, here number, so.left number below);
  }

pub tallies_end : (numbers counts : List ℕ) (limit place : ℕ) → length numbers ≤ place → AreTalliesSoFar numbers limit place counts → AreTallies numbers limit counts
tallies_end numbers counts limit place whole so = record {
  each = so.each;
  often = λ number below. let none : often (drop place numbers) number ≡ 0 = ap (λ (list : List ℕ). often list number) (drop_all place numbers whole) in omega (arith, none, so.left number below);
}

-- tallies of the links of hops
pub hops_tallied : (planned : PlannedBoard) (numbers counts : List ℕ) (limit : ℕ) → numbers ≡ map (link_of planned.board.links) (hops_of planned.plan) → limit ≡ length planned.board.links
    → AreTallies numbers limit counts → AreHopCounts planned counts
hops_tallied planned numbers counts limit are is tallied = record {
  each = tallied.each ∙ is;
  hops = λ number below. tallied.often number (omega (arith, below, is)) ∙ ap (λ (list : List ℕ). often list number) are ∙ count_map (λ (one : ℕ). eqb one number) (link_of planned.board.links) (hops_of planned.plan);
}
