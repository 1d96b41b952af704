-- What is kept of gains, when one more or one fewer cell of a chip holds a net.
use Rattle.std.proofs.Common.{◌≡◌, ◌≢◌, ◌<◌, ◌≤◌, ◌+◌, ◌*◌, ◌^◌, ℕ, Bool, true, false, List, [], ◌∷◌, length, get_or, set, nat_lt, cond, eqb, ap, refl, sym, ◌∙◌, ⊎_elim, lt-ltb, ne_eqb, eq-eqb, All, arith}
use Rattle.std.specs.Prelude.{sum_by}
use Rattle.std.specs.List.{range_with_len}
use Rattle.std.proofs.lemmas.Bool.{cases_eq, cases_lt}
use Rattle.std.proofs.lemmas.List.{get_or-set_other, get_or-set_same, get_or_past}
use Rattle.std.proofs.lemmas.List.FromFn.{length-range_with_len}
use Rattle.std.proofs.lemmas.List.Sums.{count_by-le-length, sum_by-cons, sum_by-le}
use Rattle.vw_net.specs.Steps.Bits.{one_if}
use Rattle.vw_net.proofs.SumsOverLists.{length_sum, sum_agree}
use Rattle.vw_part.specs.declared.load.Load.{Load}
use Rattle.vw_part.specs.declared.tally.Tally.{Tally}
use Rattle.vw_part.specs.declared.cell_nets.CellNets.{CellNets}
use Rattle.vw_part.specs.Steps.CellNets.{AreCellsOf, times_among}
use Rattle.vw_part.specs.Steps.Deals.{cell_nets_at}
use Rattle.vw_part.specs.Steps.Gains.{AreGains}
use Rattle.vw_part.proofs.Shares.{at, at_other, at_same, by_share, share}

-- ---- a sum over nets, one of which has a further one

-- two numbers of each net agree, but for one net
abbrev AgreeElsewhere : ℕ → (ℕ → ℕ) → (ℕ → ℕ) → Type 0
AgreeElsewhere net one two = (other : ℕ) → net ≢ other → one other ≡ two other

sum_raised : (more less : ℕ → ℕ) (net : ℕ) (nets : List ℕ) → AgreeElsewhere net more less → more net ≡ less net + 1 → sum_by more nets ≡ sum_by less nets + times_among nets net
sum_raised more less net [] others one = omega arith
sum_raised more less net (first ∷ nets) others one =
    let all = sum_by-cons more first nets in
    let all_less = sum_by-cons less first nets in
    let times = sum_by-cons (λ x. at x 1 net) first nets in
    let rest = sum_raised more less net nets others one in
    let if_here = λ (here : net ≡ first).
    let unit : at first 1 net ≡ 1 = ap (λ (x : ℕ). at x 1 net) (sym here) ∙ at_same net 1 in
    let term : more first ≡ less first + 1 = ap more (sym here) ∙ one ∙ ap (λ (x : ℕ). less x + 1) here in
    let sum : sum_by more (first ∷ nets) ≡ sum_by less (first ∷ nets) + times_among (first ∷ nets) net = omega (arith, all, all_less, times, rest, unit, term) in sum in
    let if_not = λ (apart : net ≢ first).
    let none : at first 1 net ≡ 0 = at_other first 1 net (λ same. apart (sym same)) in
    let term : more first ≡ less first = others first apart in
    let sum : sum_by more (first ∷ nets) ≡ sum_by less (first ∷ nets) + times_among (first ∷ nets) net = omega (arith, all, all_less, times, rest, none, term) in sum in
    ⊎_elim if_here if_not (cases_eq net first)

sum_kept : (after before : ℕ → ℕ) (net : ℕ) (nets : List ℕ) → AgreeElsewhere net after before → after net ≡ before net → sum_by after nets ≡ sum_by before nets
sum_kept after before net nets others same =
    sum_agree after before nets (λ x. ⊎_elim (λ here. ap after (sym here) ∙ same ∙ ap before here) (λ apart. others x apart) (cases_eq net x))

-- ---- one count that changed

-- how often a net stands among some, where a bit is set
abbrev pub counted : Bool → ℕ → ℕ
counted bit times = cond bit times 0

-- the count of one net changes, and with it whether the count passes a test
module _ (test : ℕ → Bool) (before after : ℕ → ℕ) (net : ℕ) (nets : List ℕ) (others : AgreeElsewhere net after before) where
  -- whether a net passed the test, as a number
  abbrev passed : ℕ → ℕ
  passed x = one_if (test (before x))

  -- whether it passes now
  abbrev passes : ℕ → ℕ
  passes x = one_if (test (after x))

  -- how often the net stands there
  abbrev times : ℕ
  times = times_among nets net

  passes_as_before : AgreeElsewhere net passes passed
  passes_as_before other apart = ap (λ (count : ℕ). one_if (test count)) (others other apart)

  passed_as_after : AgreeElsewhere net passed passes
  passed_as_after other apart = sym (passes_as_before other apart)

  by_bits : (was is : Bool) → test (before net) ≡ was → test (after net) ≡ is → sum_by passes nets + counted was times ≡ sum_by passed nets + counted is times
  by_bits true true was is = omega (arith, sum_kept passes passed net nets passes_as_before (ap (λ (bit : Bool). one_if bit) (is ∙ sym was)))
  by_bits false false was is = omega (arith, sum_kept passes passed net nets passes_as_before (ap (λ (bit : Bool). one_if bit) (is ∙ sym was)))
  by_bits false true was is =
      let one : passes net ≡ passed net + 1 = rw (was, is) refl in
      omega (arith, sum_raised passes passed net nets passes_as_before one)
  by_bits true false was is =
      let one : passed net ≡ passes net + 1 = rw (was, is) refl in
      omega (arith, sum_raised passed passes net nets passed_as_after one)

  -- so the sum of the test over a cell's nets follows that net
  count_changed : sum_by passes nets + counted (test (before net)) times ≡ sum_by passed nets + counted (test (after net)) times
  count_changed = by_bits (test (before net)) (test (after net)) refl refl

-- ---- the tests of a count

pub met_none : (count times : ℕ) → count ≡ 0 → counted (nat_lt 0 count) times ≡ 0
met_none count times none = ap (λ (n : ℕ). counted (nat_lt 0 n) times) none

pub met_some : (count times : ℕ) → 0 < count → counted (nat_lt 0 count) times ≡ times
met_some count times some = ap (λ (bit : Bool). counted bit times) (lt-ltb 0 count some)

pub lone_one : (count times : ℕ) → count ≡ 1 → counted (eqb count 1) times ≡ times
lone_one count times one = ap (λ (bit : Bool). counted bit times) (eq-eqb count 1 one)

pub lone_other : (count times : ℕ) → count ≢ 1 → counted (eqb count 1) times ≡ 0
lone_other count times other = ap (λ (bit : Bool). counted bit times) (ne_eqb count 1 other)

-- ---- how large what is kept is

-- a cell has no more nets than there are, and each of them once
pub few_own : (cell_nets : CellNets) (cell : ℕ) → length (cell_nets_at cell_nets cell) ≤ cell_nets.nets
few_own cell_nets cell = ⊎_elim of_cell of_none (cases_lt cell (length cell_nets.of_cells.items)) where
  of_cell : cell < length cell_nets.of_cells.items → length (cell_nets_at cell_nets cell) ≤ cell_nets.nets
  of_cell within =
      let own = cell_nets_at cell_nets cell in
      let range = range_with_len 0 cell_nets.nets in
      let low = λ (place default : ℕ) (there : place < length own). cell_nets.within cell [] within place default there in
      let below : All (λ net. (0 ≤ net) × (net < 0 + cell_nets.nets)) own = λ place default there. (omega arith, omega (arith, low place default there)) in
      let each_once = λ (place default : ℕ) (there : place < length range). cell_nets.once cell [] within (get_or range place default) in
      let all : sum_by (share (λ x. 1) own) range ≤ length range * 1 = sum_by-le (share (λ x. 1) own) 1 range each_once in
      omega (arith, by_share (λ x. 1) own 0 cell_nets.nets below, length_sum own, all, length-range_with_len 0 cell_nets.nets)

  of_none : length cell_nets.of_cells.items ≤ cell → length (cell_nets_at cell_nets cell) ≤ cell_nets.nets
  of_none past = omega (arith, ap (λ (nets : List ℕ). length nets) (get_or_past cell_nets.of_cells.items cell [] past))

times_few : (cell_nets : CellNets) (cell net : ℕ) → times_among (cell_nets_at cell_nets cell) net ≤ 1
times_few cell_nets cell net = ⊎_elim (λ within. cell_nets.once cell [] within net) of_none (cases_lt cell (length cell_nets.of_cells.items)) where
  of_none : length cell_nets.of_cells.items ≤ cell → times_among (cell_nets_at cell_nets cell) net ≤ 1
  of_none past = omega (arith, ap (λ (nets : List ℕ). times_among nets net) (get_or_past cell_nets.of_cells.items cell [] past))

least : (amount : ℕ → ℕ) (net : ℕ) (nets : List ℕ) → 1 ≤ amount net → times_among nets net ≤ sum_by amount nets
least amount net [] some = omega arith
least amount net (first ∷ nets) some =
    let all = sum_by-cons amount first nets in
    let times = sum_by-cons (λ x. at x 1 net) first nets in
    let rest = least amount net nets some in
    let if_here = λ (here : first ≡ net).
    let unit : at first 1 net ≡ 1 = ap (λ (x : ℕ). at x 1 net) here ∙ at_same net 1 in
    let term : amount first ≡ amount net = ap amount here in
    let sum : times_among (first ∷ nets) net ≤ sum_by amount (first ∷ nets) = omega (arith, all, times, rest, unit, term, some) in sum in
    let if_not = λ (apart : first ≡ net → ⊥).
    let sum : times_among (first ∷ nets) net ≤ sum_by amount (first ∷ nets) = omega (arith, all, times, rest, at_other first 1 net apart) in sum in
    ⊎_elim if_here if_not (cases_eq first net)

-- one of the cells of a net, where what is kept for the chip is right
module _ (cell_nets : CellNets) (chip_of : List ℕ) (chip net : ℕ) (load : Load) (frees cells : List ℕ) (cell : ℕ)
    (gains : AreGains cell_nets chip_of chip load frees) (are : AreCellsOf cell_nets.of_cells.items net cells) where
  -- the cell's nets
  abbrev own : List ℕ
  own = cell_nets_at cell_nets cell

  -- how many cells of the chip hold a net
  abbrev held : ℕ → ℕ
  held x = get_or load.held.counts.items x 0

  -- what is kept fits, also with one more
  pub met_fits : get_or load.met.counts.items cell 0 + times_among cells cell < 2 ^ 32
  met_fits =
      let few_met = count_by-le-length (λ x. nat_lt 0 (held x)) own in
      omega (arith, gains.met cell, few_met, few_own cell_nets cell, are.turned cell, times_few cell_nets cell net, cell_nets.few_nets)

  pub freed_fits : get_or chip_of cell 0 ≡ chip → get_or frees cell 0 + times_among cells cell < 2 ^ 32
  freed_fits on =
      let few_lone = count_by-le-length (λ x. eqb (held x) 1) own in
      omega (arith, gains.freed cell on, few_lone, few_own cell_nets cell, are.turned cell, times_few cell_nets cell net, cell_nets.few_nets)

  -- and what is taken from it is there
  pub met_there : 0 < held net → times_among cells cell ≤ get_or load.met.counts.items cell 0
  met_there some =
      let one : 1 ≤ one_if (nat_lt 0 (held net)) = rw (lt-ltb 0 (held net) some) (omega arith) in
      omega (arith, gains.met cell, are.turned cell, least (λ x. one_if (nat_lt 0 (held x))) net own one)

  pub freed_there : held net ≡ 1 → get_or chip_of cell 0 ≡ chip → times_among cells cell ≤ get_or frees cell 0
  freed_there lone on =
      let one : 1 ≤ one_if (eqb (held net) 1) = rw (eq-eqb (held net) 1 lone) (omega arith) in
      omega (arith, gains.freed cell on, are.turned cell, least (λ x. one_if (eqb (held x) 1)) net own one)

-- ---- numbers of cells that rise or fall

-- each cell's number has risen by how often the cell stands among some
pub record HaveRisen (cells before after : List ℕ) : Type 0 where
  pub long : length after ≡ length before
  pub counts : (cell : ℕ) → get_or after cell 0 ≡ get_or before cell 0 + times_among cells cell

-- it has fallen by that
pub record HaveFallen (cells before after : List ℕ) : Type 0 where
  pub long : length after ≡ length before
  pub counts : (cell : ℕ) → get_or after cell 0 + times_among cells cell ≡ get_or before cell 0

-- that of each cell of a chip has risen so
pub record HaveRisenOn (chip_of : List ℕ) (chip : ℕ) (cells before after : List ℕ) : Type 0 where
  pub long : length after ≡ length before
  pub counts : (cell : ℕ) → get_or chip_of cell 0 ≡ chip → get_or after cell 0 ≡ get_or before cell 0 + times_among cells cell

-- that of each cell of a chip has fallen so
pub record HaveFallenOn (chip_of : List ℕ) (chip : ℕ) (cells before after : List ℕ) : Type 0 where
  pub long : length after ≡ length before
  pub counts : (cell : ℕ) → get_or chip_of cell 0 ≡ chip → get_or after cell 0 + times_among cells cell ≡ get_or before cell 0

-- ---- one count that rose or fell by one

met_length : {before after : Tally} → after ≡ before → length after.counts.items ≡ length before.counts.items
met_length same = ap (λ (tally : Tally). length tally.counts.items) same

met_same : {before after : Tally} → after ≡ before → (cell : ℕ) → get_or after.counts.items cell 0 ≡ get_or before.counts.items cell 0
met_same same cell = ap (λ (tally : Tally). get_or tally.counts.items cell 0) same

-- for a chip whose gains were right, the count of one net was written
module _ (cell_nets : CellNets) (chip_of : List ℕ) (chip net count : ℕ) (before after : Load) (frees_before frees_after cells : List ℕ)
    (gains : AreGains cell_nets chip_of chip before frees_before) (are : AreCellsOf cell_nets.of_cells.items net cells)
    (within : net < length before.held.counts.items) (written : after.held.counts.items ≡ set before.held.counts.items net count) where
  -- how many cells of the chip held a net
  abbrev held_before : ℕ → ℕ
  held_before x = get_or before.held.counts.items x 0

  -- how many hold it now
  abbrev held_after : ℕ → ℕ
  held_after x = get_or after.held.counts.items x 0

  -- the count of the net
  abbrev was : ℕ
  was = held_before net

  -- its new count
  abbrev is : ℕ
  is = held_after net

  -- for each cell, how many of its nets the chip held
  abbrev met_before : List ℕ
  met_before = before.met.counts.items

  -- and how many it holds now
  abbrev met_after : List ℕ
  met_after = after.met.counts.items

  -- how often a cell has the net
  abbrev has_net : ℕ → ℕ
  has_net cell = times_among cells cell

  elsewhere : AgreeElsewhere net held_after held_before
  elsewhere other apart =
      ap (λ (counts : List ℕ). get_or counts other 0) written ∙ get_or-set_other before.held.counts.items net other count 0 (λ same. apart (sym same))

  here : is ≡ count
  here = ap (λ (counts : List ℕ). get_or counts net 0) written ∙ get_or-set_same before.held.counts.items net count 0 within

  -- what is kept for each cell has turned with the count of the net: where the count passed a test, the cell no longer has
  -- the net there, and where it passes now, the cell has it
  record Turned : Type 0 where
    met_long : length met_after ≡ length met_before
    met : (cell : ℕ) → get_or met_after cell 0 + counted (nat_lt 0 was) (has_net cell) ≡ get_or met_before cell 0 + counted (nat_lt 0 is) (has_net cell)
    freed_long : length frees_after ≡ length frees_before
    freed : (cell : ℕ) → get_or chip_of cell 0 ≡ chip → get_or frees_after cell 0 + counted (eqb was 1) (has_net cell) ≡ get_or frees_before cell 0 + counted (eqb is 1) (has_net cell)

  -- then it is right again
  gains_follow : Turned → AreGains cell_nets chip_of chip after frees_after
  gains_follow turn = record {
    met_long = turn.met_long ∙ gains.met_long;
    met = λ cell.
        let lost = ap (λ (times : ℕ). counted (nat_lt 0 was) times) (are.turned cell) in
        let won = ap (λ (times : ℕ). counted (nat_lt 0 is) times) (are.turned cell) in
        let recount = count_changed (λ (n : ℕ). nat_lt 0 n) held_before held_after net (cell_nets_at cell_nets cell) elsewhere in
        omega (arith, lost, won, turn.met cell, gains.met cell, recount);
    freed_long = turn.freed_long ∙ gains.freed_long;
    freed = λ cell on.
        let lost = ap (λ (times : ℕ). counted (eqb was 1) times) (are.turned cell) in
        let won = ap (λ (times : ℕ). counted (eqb is 1) times) (are.turned cell) in
        let recount = count_changed (λ (n : ℕ). eqb n 1) held_before held_after net (cell_nets_at cell_nets cell) elsewhere in
        omega (arith, lost, won, turn.freed cell on, gains.freed cell on, recount);
  }

  -- the first one came
  pub first_came : was ≡ 0 → count ≡ 1 → HaveRisen cells met_before met_after → HaveRisenOn chip_of chip cells frees_before frees_after → AreGains cell_nets chip_of chip after frees_after
  first_came none one met freed = gains_follow (record {
    met_long = met.long;
    met = λ cell. omega (arith, met.counts cell, met_none was (has_net cell) none, met_some is (has_net cell) (omega (arith, here, one)));
    freed_long = freed.long;
    freed = λ cell on.
        omega (arith, freed.counts cell on, lone_other was (has_net cell) (λ lone. omega (arith, lone, none)), lone_one is (has_net cell) (here ∙ one));
  })

  -- the last one left
  pub last_left : was ≡ 1 → count ≡ 0 → HaveFallen cells met_before met_after → HaveFallenOn chip_of chip cells frees_before frees_after → AreGains cell_nets chip_of chip after frees_after
  last_left one none met freed = gains_follow (record {
    met_long = met.long;
    met = λ cell. omega (arith, met.counts cell, met_some was (has_net cell) (omega (arith, one)), met_none is (has_net cell) (here ∙ none));
    freed_long = freed.long;
    freed = λ cell on.
        omega (arith, freed.counts cell on, lone_one was (has_net cell) one, lone_other is (has_net cell) (λ lone. omega (arith, lone, here, none)));
  })

  -- a second one came
  pub second_came : was ≡ 1 → count ≡ 2 → after.met ≡ before.met → HaveFallenOn chip_of chip cells frees_before frees_after → AreGains cell_nets chip_of chip after frees_after
  second_came one two met freed = gains_follow (record {
    met_long = met_length met;
    met = λ cell.
        omega (arith, met_same met cell, met_some was (has_net cell) (omega (arith, one)), met_some is (has_net cell) (omega (arith, here, two)));
    freed_long = freed.long;
    freed = λ cell on.
        omega (arith, freed.counts cell on, lone_one was (has_net cell) one, lone_other is (has_net cell) (λ lone. omega (arith, lone, here, two)));
  })

  -- one is left
  pub one_left_there : was ≡ 2 → count ≡ 1 → after.met ≡ before.met → HaveRisenOn chip_of chip cells frees_before frees_after → AreGains cell_nets chip_of chip after frees_after
  one_left_there two one met freed = gains_follow (record {
    met_long = met_length met;
    met = λ cell.
        omega (arith, met_same met cell, met_some was (has_net cell) (omega (arith, two)), met_some is (has_net cell) (omega (arith, here, one)));
    freed_long = freed.long;
    freed = λ cell on.
        omega (arith, freed.counts cell on, lone_other was (has_net cell) (λ lone. omega (arith, lone, two)), lone_one is (has_net cell) (here ∙ one));
  })

  -- there are at least two before and afterwards
  pub many_stay : 2 ≤ was → 2 ≤ count → after.met ≡ before.met → frees_after ≡ frees_before → AreGains cell_nets chip_of chip after frees_after
  many_stay some_before some_after met freed = gains_follow (record {
    met_long = met_length met;
    met = λ cell.
        let found_before = met_some was (has_net cell) (omega (arith, some_before)) in
        let found_after = met_some is (has_net cell) (omega (arith, here, some_after)) in
        omega (arith, met_same met cell, found_before, found_after);
    freed_long = ap (λ (l : List ℕ). length l) freed;
    freed = λ cell on.
        let same = ap (λ (l : List ℕ). get_or l cell 0) freed in
        let not_lone_before = lone_other was (has_net cell) (λ lone. omega (arith, lone, some_before)) in
        let not_lone_after = lone_other is (has_net cell) (λ lone. omega (arith, lone, here, some_after)) in
        omega (arith, same, not_lone_before, not_lone_after);
  })
