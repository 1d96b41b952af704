-- The nets of cells, turned round to the cells of nets.
use Rattle.std.proofs.Common.{◌≡◌, ◌≢◌, ◌<◌, ◌≤◌, ◌+◌, ℕ, Bool, true, false, List, [], ◌∷◌, ◌++◌, length, drop, get_or, set, nat_lt, cond, eqb, ap, refl, sym, ◌∙◌, ⊎_elim, lt-ltb, le-ltb, All, arith}
use Rattle.std.specs.Global.{Vec}
use Rattle.std.proofs.lemmas.Bool.{cases_eq, cases_lt}
use Rattle.std.proofs.lemmas.List.{get_or-set_other, get_or-set_same, get_or_default, get_or_past}
use Rattle.std.proofs.lemmas.List.Sums.{get_or-le-sum_by, sum_by-drop_more, sum_by_push}
use Rattle.vw_part.specs.Steps.CellNets.{AreCellsOf, times_among}
use Rattle.vw_part.proofs.ChipLoads.{at_none}
use Rattle.vw_part.proofs.Shares.{at, at_other, at_same}

at_plus : (number one other place : ℕ) → at number (one + other) place ≡ at number one place + at number other place
at_plus number one other place = by_bit (eqb number place) where
  by_bit : (bit : Bool) → cond bit (one + other) 0 ≡ cond bit one 0 + cond bit other 0
  by_bit true = refl
  by_bit false = omega arith

-- ---- a cell that is listed at one net

-- how often a cell is listed at a net
abbrev pub times_listed : List (Vec ℕ) → ℕ → Vec ℕ → ℕ → ℕ
times_listed of_nets net default cell = times_among (get_or of_nets net default).items cell

-- at one net a cell was listed once more
pub record IsListedAt (of_nets : List (Vec ℕ)) (place cell : ℕ) (before after : Vec ℕ) : Type 0 where
  pub there : place < length of_nets
  pub found : before ≡ get_or of_nets place before
  pub pushed : after.items ≡ before.items ++ cell ∷ []

listed : (of_nets : List (Vec ℕ)) (place cell : ℕ) (before after : Vec ℕ) → IsListedAt of_nets place cell before after
    → (net : ℕ) (default : Vec ℕ) (other : ℕ) → times_listed (set of_nets place after) net default other ≡ times_listed of_nets net default other + at cell (at place 1 net) other
listed of_nets place cell before after is net default other =
    let now = set of_nets place after in
    let if_here = λ (here : place ≡ net).
    let is_after : get_or now net default ≡ after = ap (λ (x : ℕ). get_or now x default) (sym here) ∙ get_or-set_same of_nets place after default is.there in
    let read_again = get_or_default of_nets place default before is.there in
    let is_before : get_or of_nets net default ≡ before = ap (λ (x : ℕ). get_or of_nets x default) (sym here) ∙ read_again ∙ sym is.found in
    let unit : at place 1 net ≡ 1 = ap (λ (x : ℕ). at place 1 x) (sym here) ∙ at_same place 1 in
    let sum : times_listed now net default other ≡ times_listed of_nets net default other + at cell (at place 1 net) other = omega (
      arith,
      ap (λ (cells : Vec ℕ). times_among cells.items other) is_after,
      ap (λ (cells : Vec ℕ). times_among cells.items other) is_before,
      ap (λ (cells : List ℕ). times_among cells other) is.pushed,
      sum_by_push (λ x. at x 1 other) before.items cell,
      ap (λ (amount : ℕ). at cell amount other) unit,
    ) in sum in
    let if_not = λ (apart : place ≢ net).
    let none : at cell (at place 1 net) other ≡ 0 = ap (λ (amount : ℕ). at cell amount other) (at_other place 1 net apart) ∙ at_none cell other in
    let same = get_or-set_other of_nets place net after default (λ same. apart (sym same)) in
    let sum : times_listed now net default other ≡ times_listed of_nets net default other + at cell (at place 1 net) other =
    omega (arith, ap (λ (cells : Vec ℕ). times_among cells.items other) same, none) in sum in
    ⊎_elim if_here if_not (cases_eq place net)

-- how often a cell is listed at a net in the end, where its nets `own` have been gone through up to an index
abbrev pub listed_in_the_end : List (Vec ℕ) → List ℕ → ℕ → ℕ → ℕ → Vec ℕ → ℕ → ℕ
listed_in_the_end of_nets own index cell net default other = times_listed of_nets net default other + at cell (times_among (drop index own) net) other

-- at one more of its nets
pub listed_more : (of_nets : List (Vec ℕ)) (own : List ℕ) (index cell : ℕ) (before after : Vec ℕ) (total net : ℕ) (default : Vec ℕ) (other : ℕ)
    → index < length own → IsListedAt of_nets (get_or own index 0) cell before after
    → listed_in_the_end of_nets own index cell net default other ≡ total
    → listed_in_the_end (set of_nets (get_or own index 0) after) own (index + 1) cell net default other ≡ total
listed_more of_nets own index cell before after total net default other within is so_far =
    let place = get_or own index 0 in
    let left = ap (λ (amount : ℕ). at cell amount other) (sum_by-drop_more (λ x. at x 1 net) own index 0 within) in
    let apart = at_plus cell (at place 1 net) (times_among (drop (index + 1) own) net) other in
    omega (arith, listed of_nets place cell before after is net default other, left, apart, so_far)

-- ---- one more cell

-- what a cell amounts to, where it is one of the first so many
abbrev pub amount_below : (ℕ → ℕ) → ℕ → ℕ → ℕ
amount_below amount many cell = cond (nat_lt cell many) (amount cell) 0

-- that of a cell that is one of them, and of one that isn't
below : (amount : ℕ → ℕ) (many cell : ℕ) → cell < many → amount_below amount many cell ≡ amount cell
below amount many cell low = ap (λ (bit : Bool). cond bit (amount cell) 0) (lt-ltb cell many low)

not_below : (amount : ℕ → ℕ) (many cell : ℕ) → many ≤ cell → amount_below amount many cell ≡ 0
not_below amount many cell high = ap (λ (bit : Bool). cond bit (amount cell) 0) (le-ltb cell many high)

pub more_cells : (amount : ℕ → ℕ) (many cell before after : ℕ)
    → before ≡ amount_below amount many cell → after ≡ before + at many (amount many) cell → after ≡ amount_below amount (many + 1) cell
more_cells amount many cell before after was is =
    let if_before = λ (low : cell < many).
    let old = below amount many cell low in
    let new = below amount (many + 1) cell (omega arith) in
    let none = at_other many (amount many) cell (λ same. omega (arith, same, low)) in
    let sum : after ≡ amount_below amount (many + 1) cell = omega (arith, was, is, old, new, none) in sum in
    let if_not = λ (high : many ≤ cell).
    let old = not_below amount many cell high in
    let if_here = λ (here : many ≡ cell).
    let own : at many (amount many) cell ≡ amount cell = ap (λ (x : ℕ). at x (amount x) cell) here ∙ at_same cell (amount cell) in
    let new = below amount (many + 1) cell (omega arith) in
    let sum : after ≡ amount_below amount (many + 1) cell = omega (arith, was, is, old, new, own) in sum in
    let if_later = λ (apart : many ≢ cell).
    let new = not_below amount (many + 1) cell (omega arith) in
    let sum : after ≡ amount_below amount (many + 1) cell = omega (arith, was, is, old, new, at_other many (amount many) cell apart) in sum in
    ⊎_elim if_here if_later (cases_eq many cell) in
    ⊎_elim if_before if_not (cases_lt cell many)

-- ---- all cells

-- how often each cell has a net
abbrev pub times_of_net : List (List ℕ) → ℕ → ℕ → ℕ
times_of_net cell_nets net cell = times_among (get_or cell_nets cell []) net

pub all_turned : (cell_nets : List (List ℕ)) (net many : ℕ) (cells : List ℕ) → many ≡ length cell_nets
    → ((cell : ℕ) → times_among cells cell ≡ amount_below (times_of_net cell_nets net) many cell) → AreCellsOf cell_nets net cells
all_turned cell_nets net many cells all so_far = record { turned = turned; within = within } where
  nothing : (cell : ℕ) → length cell_nets ≤ cell → times_of_net cell_nets net cell ≡ 0
  nothing cell past = ap (λ (nets : List ℕ). times_among nets net) (get_or_past cell_nets cell [] past)

  turned : (cell : ℕ) → times_among cells cell ≡ times_of_net cell_nets net cell
  turned cell =
      let times = times_of_net cell_nets net in
      let if_low = λ (low : cell < length cell_nets). so_far cell ∙ below times many cell (omega (arith, all, low)) in
      let if_past = λ (past : length cell_nets ≤ cell). so_far cell ∙ not_below times many cell (omega (arith, all, past)) ∙ sym (nothing cell past) in
      ⊎_elim if_low if_past (cases_lt cell (length cell_nets))

  within : All (λ cell. cell < length cell_nets) cells
  within place default there =
      let cell = get_or cells place default in
      let stands = get_or-le-sum_by (λ x. at x 1 cell) cells place default there in
      ⊎_elim (λ low. low) (λ past. absurd (omega (arith, stands, at_same cell 1, turned cell, nothing cell past))) (cases_lt cell (length cell_nets))
