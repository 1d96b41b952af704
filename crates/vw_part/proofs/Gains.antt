-- What a move of one cell does to the spread: a net leaves a chip where no other cell there has it, and comes to a chip
-- where no cell there has it.
use Rattle.std.proofs.Common.{◌≡◌, ◌<◌, ◌≤◌, ◌+◌, ℕ, zero, suc, true, false, List, [], length, get_or, set, nat_lt, eqb, ap, refl, sym, subst, ◌∙◌, ⊎_elim, ne_eqb, lt-ltb, arith}
use Rattle.std.specs.Prelude.{sum_by}
use Rattle.std.specs.List.{All, range_with_len}
use Rattle.std.proofs.lemmas.Bool.{cases_eq, cases_lt}
use Rattle.std.proofs.lemmas.List.Elements.{All-get_or}
use Rattle.vw_plan.specs.declared.board.Board.{Board}
use Rattle.vw_plan.specs.Chips.{IsChip}
use Rattle.vw_part.specs.declared.cell_nets.CellNets.{CellNets}
use Rattle.vw_part.specs.Steps.Deals.{freed, cells_held, holders, met, cell_nets_at, spread}
use Rattle.vw_part.specs.Steps.CellNets.{times_among}
use Rattle.vw_net.specs.Steps.Bits.{one_if}
use Rattle.vw_net.proofs.SumsOverLists.{length_sum, range_one, sum_agree, sum_plus}
use Rattle.vw_part.proofs.ChipLoads.{at_none, held_set}
use Rattle.vw_part.proofs.Shares.{at, at_other, at_same, by_share, share, share_none, share_one}

-- one fewer
fewer : (before after : ℕ) → after + 1 ≡ before → one_if (nat_lt 0 after) + one_if (eqb before 1) ≡ one_if (nat_lt 0 before)
fewer before zero is = let one : before ≡ 1 = omega (arith, is) in rw one refl
fewer before (suc after) is =
    let some : nat_lt 0 (suc after) ≡ true = lt-ltb 0 (suc after) (omega arith) in
    let many : eqb before 1 ≡ false = ne_eqb before 1 (λ one. omega (arith, is, one)) in
    let was : nat_lt 0 before ≡ true = lt-ltb 0 before (omega (arith, is)) in
    rw (some, many, was) refl

-- one more
more : (before after : ℕ) → after ≡ before + 1 → one_if (nat_lt 0 after) + one_if (nat_lt 0 before) ≡ one_if (nat_lt 0 before) + 1
more before after is =
    let some : nat_lt 0 after ≡ true = lt-ltb 0 after (omega (arith, is)) in
    let one : one_if (nat_lt 0 after) ≡ 1 = rw some refl in
    omega (arith, one)

module _ (chips : List ℕ) (cell_nets : List (List ℕ)) (cell new most : ℕ) (within : cell < length chips) where
  abbrev old : ℕ
  old = get_or chips cell 0

  abbrev own : List ℕ
  own = get_or cell_nets cell []

  abbrev chips_after : List ℕ
  chips_after = set chips cell new

  abbrev leaves : ℕ → ℕ
  leaves net = one_if (eqb (cells_held chips cell_nets old net) 1)

  abbrev there : ℕ → ℕ
  there net = one_if (nat_lt 0 (cells_held chips cell_nets new net))

  -- another net is held as before
  others : (net : ℕ) → times_among own net ≡ 0 → holders most chips_after cell_nets net ≡ holders most chips cell_nets net
  others net none =
      let each = λ (chip : ℕ).
      let left : at old (times_among own net) chip ≡ 0 = ap (λ (amount : ℕ). at old amount chip) none ∙ at_none old chip in
      let right : at new (times_among own net) chip ≡ 0 = ap (λ (amount : ℕ). at new amount chip) none ∙ at_none new chip in
      let same : cells_held chips_after cell_nets chip net ≡ cells_held chips cell_nets chip net = omega (arith, left, right, held_set chips cell_nets cell new chip net within) in
      let bit : one_if (nat_lt 0 (cells_held chips_after cell_nets chip net)) ≡ one_if (nat_lt 0 (cells_held chips cell_nets chip net)) = ap (λ (amount : ℕ). one_if (nat_lt 0 amount)) same in bit in
      sum_agree (λ chip. one_if (nat_lt 0 (cells_held chips_after cell_nets chip net))) (λ chip. one_if (nat_lt 0 (cells_held chips cell_nets chip net))) (range_with_len 1 most) each

  -- a net of the cell, chip by chip
  by_chip : (net chip : ℕ) → times_among own net ≡ 1 → (old ≡ new → ⊥) → (one_if (nat_lt 0 (cells_held chips_after cell_nets chip net)) + at old (leaves net) chip) + at new (there net) chip ≡ one_if (nat_lt 0 (cells_held chips cell_nets chip net)) + at new 1 chip
  by_chip net chip one apart =
      let change = held_set chips cell_nets cell new chip net within in
      let left : at old (times_among own net) chip ≡ at old 1 chip = ap (λ (amount : ℕ). at old amount chip) one in
      let right : at new (times_among own net) chip ≡ at new 1 chip = ap (λ (amount : ℕ). at new amount chip) one in
      let if_old = λ (here : old ≡ chip).
      let away : new ≡ chip → ⊥ = λ is. apart (here ∙ sym is) in
      let unit : at old 1 chip ≡ 1 = subst (λ (x : ℕ). at old 1 x ≡ 1) here (at_same old 1) in
      let whole : at old (leaves net) chip ≡ leaves net = subst (λ (x : ℕ). at old (leaves net) x ≡ leaves net) here (at_same old (leaves net)) in
      let was : cells_held chips cell_nets old net ≡ cells_held chips cell_nets chip net = ap (λ (x : ℕ). cells_held chips cell_nets x net) here in
      let step = fewer (cells_held chips cell_nets old net) (cells_held chips_after cell_nets chip net) (omega (arith, change, left, right, unit, at_other new 1 chip away, was)) in
      let same : one_if (nat_lt 0 (cells_held chips cell_nets old net)) ≡ one_if (nat_lt 0 (cells_held chips cell_nets chip net)) = ap (λ (amount : ℕ). one_if (nat_lt 0 amount)) was in
      let sum : (one_if (nat_lt 0 (cells_held chips_after cell_nets chip net)) + at old (leaves net) chip) + at new (there net) chip ≡ one_if (nat_lt 0 (cells_held chips cell_nets chip net)) + at new 1 chip = omega (arith, step, same, whole, at_other new 1 chip away, at_other new (there net) chip away) in sum in
      let if_else = λ (away : old ≡ chip → ⊥).
      let if_new = λ (here : new ≡ chip).
      let unit : at new 1 chip ≡ 1 = subst (λ (x : ℕ). at new 1 x ≡ 1) here (at_same new 1) in
      let whole : at new (there net) chip ≡ there net = subst (λ (x : ℕ). at new (there net) x ≡ there net) here (at_same new (there net)) in
      let was : cells_held chips cell_nets new net ≡ cells_held chips cell_nets chip net = ap (λ (x : ℕ). cells_held chips cell_nets x net) here in
      let step = more (cells_held chips cell_nets new net) (cells_held chips_after cell_nets chip net) (omega (arith, change, left, right, unit, at_other old 1 chip away, was)) in
      let same : there net ≡ one_if (nat_lt 0 (cells_held chips cell_nets chip net)) = ap (λ (amount : ℕ). one_if (nat_lt 0 amount)) was in
      let sum : (one_if (nat_lt 0 (cells_held chips_after cell_nets chip net)) + at old (leaves net) chip) + at new (there net) chip ≡ one_if (nat_lt 0 (cells_held chips cell_nets chip net)) + at new 1 chip = omega (arith, step, same, whole, unit, at_other old (leaves net) chip away) in sum in
      let if_third = λ (apart_too : new ≡ chip → ⊥).
      let keeps : cells_held chips_after cell_nets chip net ≡ cells_held chips cell_nets chip net = omega (arith, change, left, right, at_other old 1 chip away, at_other new 1 chip apart_too) in
      let same : one_if (nat_lt 0 (cells_held chips_after cell_nets chip net)) ≡ one_if (nat_lt 0 (cells_held chips cell_nets chip net)) = ap (λ (amount : ℕ). one_if (nat_lt 0 amount)) keeps in
      let sum : (one_if (nat_lt 0 (cells_held chips_after cell_nets chip net)) + at old (leaves net) chip) + at new (there net) chip ≡ one_if (nat_lt 0 (cells_held chips cell_nets chip net)) + at new 1 chip = omega (arith, same, at_other old (leaves net) chip away, at_other new (there net) chip apart_too, at_other new 1 chip apart_too) in sum in
      ⊎_elim if_new if_third (cases_eq new chip) in
      ⊎_elim if_old if_else (cases_eq old chip)

  -- and all chips together
  by_net : (net : ℕ) → times_among own net ≡ 1 → (old ≡ new → ⊥) → 1 ≤ old → old ≤ most → 1 ≤ new → new ≤ most → holders most chips_after cell_nets net + (leaves net + there net) ≡ holders most chips cell_nets net + 1
  by_net net one apart some_old few_old some_new few_new =
      let range = range_with_len 1 most in
      let after = λ (chip : ℕ). one_if (nat_lt 0 (cells_held chips_after cell_nets chip net)) in
      let before = λ (chip : ℕ). one_if (nat_lt 0 (cells_held chips cell_nets chip net)) in
      let first = sum_plus after (at old (leaves net)) range in
      let second = sum_plus (λ chip. after chip + at old (leaves net) chip) (at new (there net)) range in
      let third = sum_plus before (at new 1) range in
      let same = sum_agree (λ chip. (after chip + at old (leaves net) chip) + at new (there net) chip) (λ chip. before chip + at new 1 chip) range (λ chip. by_chip net chip one apart) in
      omega (arith, first, second, third, same, range_one (λ chip. leaves net) old 1 most some_old (omega arith), range_one (λ chip. there net) new 1 most some_new (omega arith), range_one (λ chip. 1) new 1 most some_new (omega arith))

  abbrev gain : ℕ → ℕ
  gain net = leaves net + there net

  each_net : (net : ℕ) → times_among own net ≤ 1 → (old ≡ new → ⊥) → 1 ≤ old → old ≤ most → 1 ≤ new → new ≤ most → holders most chips_after cell_nets net + share gain own net ≡ holders most chips cell_nets net + share (λ x. 1) own net
  each_net net few apart some_old few_old some_new few_new =
      let if_none = λ (none : times_among own net < 1).
      let zero_of : times_among own net ≡ 0 = omega arith in
      let sum : holders most chips_after cell_nets net + share gain own net ≡ holders most chips cell_nets net + share (λ x. 1) own net = omega (arith, others net zero_of, share_none gain own net zero_of, share_none (λ x. 1) own net zero_of) in sum in
      let if_one = λ (some : 1 ≤ times_among own net).
      let one : times_among own net ≡ 1 = omega arith in
      let sum : holders most chips_after cell_nets net + share gain own net ≡ holders most chips cell_nets net + share (λ x. 1) own net = omega (arith, by_net net one apart some_old few_old some_new few_new, share_one gain own net one, share_one (λ x. 1) own net one) in sum in
      ⊎_elim if_none if_one (cases_lt (times_among own net) 1)

  pub all_nets : (nets : ℕ) → ((net : ℕ) → times_among own net ≤ 1) → All (λ net. net < nets) own → (old ≡ new → ⊥) → 1 ≤ old → old ≤ most → 1 ≤ new → new ≤ most → sum_by (holders most chips_after cell_nets) (range_with_len 0 nets) + (sum_by leaves own + sum_by there own) ≡ sum_by (holders most chips cell_nets) (range_with_len 0 nets) + length own
  all_nets nets once below apart some_old few_old some_new few_new =
      let range = range_with_len 0 nets in
      let own_below : All (λ net. (0 ≤ net) × (net < 0 + nets)) own = λ place default within. (omega arith, omega (arith, below place default within)) in
      let first = sum_plus (holders most chips_after cell_nets) (share gain own) range in
      let second = sum_plus (holders most chips cell_nets) (share (λ x. 1) own) range in
      let same = sum_agree (λ net. holders most chips_after cell_nets net + share gain own net) (λ net. holders most chips cell_nets net + share (λ x. 1) own net) range (λ net. each_net net (once net) apart some_old few_old some_new few_new) in
      omega (arith, first, second, same, by_share gain own 0 nets own_below, by_share (λ x. 1) own 0 nets own_below, sum_plus leaves there own, length_sum own)

-- the spread after a move
pub spread_moved : (board : Board) (cell_nets : CellNets) (chips : List ℕ) (cell new : ℕ) → cell < length chips → length chips ≤ length cell_nets.of_cells.items → All (IsChip board) chips → IsChip board new → (get_or chips cell 0 ≡ new → ⊥) → spread board cell_nets (set chips cell new) + (freed cell_nets chips cell + met cell_nets chips cell new) ≡ spread board cell_nets chips + length (cell_nets_at cell_nets cell)
unfolding spread
spread_moved board cell_nets chips cell new within few all real apart =
    let was = All-get_or (IsChip board) chips cell 0 within all in
    let there : cell < length cell_nets.of_cells.items = omega arith in
    all_nets chips cell_nets.of_cells.items cell new board.chips within cell_nets.nets (cell_nets.once cell [] there) (cell_nets.within cell [] there) apart was.0 was.1 real.0 real.1
