-- The needed pairs, each of which is between two nodes of the board, and the table of how many there are.
use Rattle.std.proofs.Common.{◌≡◌, ◌<◌, ◌≤◌, ◌+◌, ◌-◌, ◌*◌, ℕ, zero, suc, Bool, true, false, List, length, map, get_or, set, take, replicate, nat_lt, cond, eqb, ap, refl, sym, subst, ◌∙◌, ⊎_elim, true≢false, eqb-true, eq-eqb, All, arith}
use Rattle.std.specs.Prelude.{count_by, sum_by}
use Rattle.std.specs.List.{flat_map, range_with_len}
use Rattle.std.proofs.lemmas.Bool.{and_from, and_parts, cases_Bool, cases_lt}
use Rattle.std.proofs.lemmas.Grind.{get_or-set_at}
use Rattle.std.proofs.lemmas.List.{get_or-replicate, get_or-set_other, get_or_past, length-replicate, length-set, take_all}
use Rattle.std.proofs.lemmas.List.Elements.{All-append, All-filter, All-map, All-set, All-weaker}
use Rattle.std.proofs.lemmas.List.FromFn.{get_or-range_with_len, length-range_with_len}
use Rattle.std.proofs.lemmas.List.Sums.{count_by_more_no, count_by_more_yes, sum_by-le}
use Rattle.vw_net.specs.declared.flat.Flat.{Flat}
use Rattle.vw_plan.specs.declared.need.Need.{Need}
use Rattle.vw_net.specs.Lists.{greatest}
use Rattle.vw_plan.specs.Needs.{needed_nodes, needed_pairs}
use Rattle.vw_plan.specs.Nets.{is_needed, node_of}
use Rattle.vw_place.specs.Steps.Traffic.{IsPairTable, IsTraffic, goes}
use Rattle.vw_place.proofs.Renumbered.{greatest_low, needed_sum}
use Rattle.vw_net.proofs.SumsOverLists.{length_sum}

-- ---- the pairs

-- what holds of the pairs of each net of a range
all_nets : (P : Need → Type 0) (pairs : ℕ → List Need) (from many : ℕ) → ((net : ℕ) → net < from + many → All P (pairs net)) → All P (flat_map pairs (range_with_len from many))
all_nets P pairs from zero each = λ place default within. absurd (omega arith)
all_nets P pairs from (suc many) each =
    All-append P (pairs from) (flat_map pairs (range_with_len (from + 1) many)) (each from (omega arith)) (all_nets P pairs (from + 1) many (λ net below. each net (omega arith)))

-- each number of a range is below its end
range_below : (many : ℕ) → All (λ number. number < many) (range_with_len 0 many)
range_below many place default within =
    let below : place < many = omega (arith, length-range_with_len 0 many) in
    omega (arith, get_or-range_with_len 0 many place default below)

-- a needed pair has a net of the design, and a node of the board
abbrev pub IsPairWithin : Flat → ℕ → Need → Type 0
IsPairWithin flat chips need = (need.net < flat.inputs + length flat.cells) × (need.to ≤ chips)

pub pairs_within : (flat : Flat) (chip_of : List ℕ) (chips : ℕ) → All (λ chip. chip ≤ chips) chip_of → All (IsPairWithin flat chips) (needed_pairs flat chip_of)
unfolding needed_pairs
pairs_within flat chip_of chips low =
    let nodes = greatest chip_of + 1 in
    let pair = λ (net node : ℕ). let need : Need = record { net = net; to = node } in need in
    let few = greatest_low chips chip_of low in
    all_nets (IsPairWithin flat chips) (λ net. map (pair net) (needed_nodes flat chip_of net)) 0 (flat.inputs + length flat.cells) (λ net below.
    All-map (IsPairWithin flat chips) (pair net) (needed_nodes flat chip_of net) (All-filter (is_needed flat chip_of net) (λ node. IsPairWithin flat chips (pair net node)) (range_with_len 0 nodes) (All-weaker (λ node. node < nodes) (λ node. IsPairWithin flat chips (pair net node)) (λ node is. (omega arith, omega arith)) (range_with_len 0 nodes) (range_below nodes))))

-- a net's own node is one of the board
pub home_low : (flat : Flat) (chip_of : List ℕ) (chips net : ℕ) → All (λ chip. chip ≤ chips) chip_of → node_of flat chip_of net ≤ chips
home_low flat chip_of chips net low = by_test (nat_lt net flat.inputs) where
  place : ℕ
  place = net - flat.inputs

  at_place : get_or chip_of (net - flat.inputs) 0 ≤ chips
  at_place =
      let past = λ (is : length chip_of ≤ net - flat.inputs). let none : get_or chip_of (net - flat.inputs) 0 ≤ chips = omega (arith, get_or_past chip_of (net - flat.inputs) 0 is) in none in
      ⊎_elim (low (net - flat.inputs) 0) past (cases_lt (net - flat.inputs) (length chip_of))

  by_test : (bit : Bool) → cond bit 0 (get_or chip_of (net - flat.inputs) 0) ≤ chips
  by_test true = omega arith
  by_test false = at_place

-- there are few enough of them
pub few_pairs : (flat : Flat) (chip_of : List ℕ) → All (λ chip. chip ≤ 32) chip_of → length (needed_pairs flat chip_of) ≤ 2297856
few_pairs flat chip_of low =
    let nets = flat.inputs + length flat.cells in
    let term = λ (net node : ℕ). cond (is_needed flat chip_of net node) 1 0 in
    let row = λ (net : ℕ). sum_by (term net) (range_with_len 0 33) in
    let one : (bit : Bool) → cond bit 1 0 ≤ 1 = λ bit. elim bit as (λ other. cond other 1 0 ≤ 1) [ true ↦ omega arith | false ↦ omega arith ] in
    let range = range_with_len 0 33 in
    let term_low : (net : ℕ) → All (λ node. term net node ≤ 1) range = λ net place default within. one (is_needed flat chip_of net (get_or range place default)) in
    let row_low : (net : ℕ) → row net ≤ 33 = λ net. omega (arith, sum_by-le (term net) 1 range (term_low net), length-range_with_len 0 33) in
    let rows_low : All (λ net. row net ≤ 33) (range_with_len 0 nets) = λ place default within. row_low (get_or (range_with_len 0 nets) place default) in
    let all_low = sum_by-le row 33 (range_with_len 0 nets) rows_low in
    omega (arith, length_sum (needed_pairs flat chip_of), needed_sum flat chip_of 32 (λ net node. 1) low, all_low, length-range_with_len 0 nets, flat.few_inputs, flat.few_cells)

-- ---- the table

-- the numbers of the pairs before a place, of all needed pairs
pub record IsCounted (flat : Flat) (chip_of : List ℕ) (needs : List Need) (place : ℕ) (table : List ℕ) : Type 0 where
  pub chips : All (λ chip. chip ≤ 32) chip_of
  pub all : needs ≡ needed_pairs flat chip_of
  pub long : length table ≡ 1089
  pub low : All (λ count. count ≤ place) table
  pub counts : (from to : ℕ) → from < 33 → to < 33 → get_or table (from * 33 + to) 0 ≡ count_by (goes flat chip_of from to) (take place needs)

module _ {flat : Flat} {chip_of : List ℕ} {needs : List Need} {place : ℕ} {table : List ℕ} (counted : IsCounted flat chip_of needs place table) where
  -- the next pair has a net of the design, and both of its ends are among 33 nodes
  pub ends_within : (default : Need) (net : ℕ) → place < length needs → net ≡ (get_or needs place default).net
      → (net < flat.inputs + length flat.cells) × (node_of flat chip_of net < 33) × ((get_or needs place default).to < 33)
  ends_within default net within is_net =
      let pair = subst (λ (list : List Need). All (IsPairWithin flat 32) list) (sym counted.all) (pairs_within flat chip_of 32 counted.chips) place default within in
      (omega (arith, pair), omega (arith, home_low flat chip_of 32 net counted.chips), omega (arith, pair))

  pub one_counted : (default : Need) (home to value : ℕ) → place < length needs
      → home ≡ node_of flat chip_of (get_or needs place default).net → to ≡ (get_or needs place default).to
      → home * 33 + to < length table → value ≡ get_or table (home * 33 + to) 0 + 1 → IsCounted flat chip_of needs (place + 1) (set table (home * 33 + to) value)
  one_counted default home to value within is_home is_to at_within is_value = record {
    chips = counted.chips;
    all = counted.all;
    long = length-set table at value ∙ counted.long;
    low = All-set (λ count. count ≤ place + 1) table at value (omega (arith, counted.low at 0 at_within)) (All-weaker (λ count. count ≤ place) (λ count. count ≤ place + 1) (λ count low. omega arith) table counted.low);
    counts = λ from other from_within other_within.
        let test = goes flat chip_of from other in
        let need = get_or needs place default in
        let before = counted.counts from other from_within other_within in
        let if_goes = λ (is : test need ≡ true).
        let parts = and_parts (eqb (node_of flat chip_of need.net) from) (eqb need.to other) is in
        let from_is : home ≡ from = is_home ∙ eqb-true _ from parts.0 in
        let to_is : to ≡ other = is_to ∙ eqb-true need.to other parts.1 in
        let here : from * 33 + other ≡ at = omega arith in
        get_or-set_at table at (from * 33 + other) value 0 here at_within ∙ is_value ∙ ap (λ (number : ℕ). number + 1) (ap (λ (index : ℕ). get_or table index 0) (sym here) ∙ before) ∙ sym (count_by_more_yes test needs place default within is) in
        let if_not = λ (is : test need ≡ false).
        let apart : from * 33 + other ≡ at → ⊥ = λ same.
        let to_within = (ends_within default need.net within refl).2 in
        let from_is : from ≡ home = omega (arith, to_within) in
        let to_is : other ≡ to = omega (arith, to_within) in
        true≢false (sym (and_from (eqb (node_of flat chip_of need.net) from) (eqb need.to other) (eq-eqb _ from (sym is_home ∙ sym from_is)) (eq-eqb need.to other (sym is_to ∙ sym to_is))) ∙ is) in
        get_or-set_other table at (from * 33 + other) value 0 apart ∙ before ∙ sym (count_by_more_no test needs place default within is) in
        ⊎_elim if_goes if_not (cases_Bool (test need));
  } where
    at : ℕ
    at = home * 33 + to

  -- no number is above that of the pairs
  pub fits_counted : place ≤ length needs → IsPairTable table
  fits_counted within =
      let few : place ≤ 2297856 = omega (arith, ap (λ (list : List Need). length list) counted.all, few_pairs flat chip_of counted.chips) in
      record { long = counted.long; low = All-weaker (λ count. count ≤ place) (λ count. count ≤ 2297856) (λ count low. omega arith) table counted.low }

  pub all_counted : length needs ≤ place → IsTraffic flat chip_of table
  all_counted whole from to from_within to_within =
      counted.counts from to from_within to_within ∙ ap (λ (list : List Need). count_by (goes flat chip_of from to) list) (take_all place needs whole ∙ counted.all)

pub none_counted : (flat : Flat) (chip_of : List ℕ) (needs : List Need) (table : List ℕ) (many : ℕ) → All (λ chip. chip ≤ 32) chip_of → needs ≡ needed_pairs flat chip_of
    → many ≡ 1089 → table ≡ replicate many 0 → IsCounted flat chip_of needs 0 table
none_counted flat chip_of needs table many chips all is_many is_table = record {
  chips = chips;
  all = all;
  long = long ∙ is_many;
  low = λ place default within. let none : get_or table place default ≤ 0 = omega (arith, at place default (omega (arith, long))) in none;
  counts = λ from to from_within to_within. at (from * 33 + to) 0 (omega arith);
} where
  long : length table ≡ many
  long = ap (λ (list : List ℕ). length list) is_table ∙ length-replicate many 0

  at : (place default : ℕ) → place < many → get_or table place default ≡ 0
  at place default within = ap (λ (list : List ℕ). get_or list place default) is_table ∙ get_or-replicate many place 0 default within
