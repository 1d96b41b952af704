-- The truth table of a cover, bit by bit.
use Rattle.std.proofs.Common.{◌≡◌, ◌≤◌, ◌<◌, ◌+◌, ◌-◌, ◌^◌, ◌&&◌, ◌||◌, not, ℕ, zero, suc, min, max, Bool, true, false, List, [], ◌∷◌, ◌++◌, length, map, get_or, nat_le, nat_eq, bit_and, bit_or, if◌then◌else◌, w64, ap, ap₂, sym, refl, ◌∙◌, ⊎_elim, All, le-leb, eqb-true, leb-true, subst, arith}
use Rattle.std.specs.List.{list_any, range_with_len}
use Rattle.std.specs.Int.{bit_at}
use Rattle.std.proofs.Math.Pow.{pow_mono}
use Rattle.std.proofs.lemmas.Bool.{and_parts, cases_eq}
use Rattle.std.proofs.lemmas.List.{append-nil, get_or_append_left, length-append, length-map}
use Rattle.std.proofs.lemmas.List.FromFn.{get_or-map-range_with_len, length-range_with_len}
use Rattle.std.proofs.lemmas.List.Elements.{All-head, All-tail}
use Rattle.std.proofs.lemmas.Nat.{and_le_l, or_lt}
use Rattle.std.proofs.lemmas.Nat.Bits.{bit_at-zero, bit_at_and, bit_at_or, bit_at_not, bit_at_ones, shr_and_one, same_from_bits_below}
use Rattle.vw_net.specs.declared.cover.Mark.{Mark}
use Rattle.vw_net.specs.declared.cover.Mark.TheVariants.{Zero, One, Any}
use Rattle.vw_net.specs.declared.cover.Row.{Row}
use Rattle.vw_net.specs.Mark.{mark_matches, row_matches}
use Rattle.vw_net.specs.Table.{Table}
use Rattle.vw_net.specs.Cover.{cover_value}
use Rattle.vw_net.specs.TruthTable.{place_of, values_at, bit_of, truth_table}
use Rattle.vw_net.specs.Steps.MatchedPlaces.{input_tables, mark_places, row_places, rows_places, truth_table_of}
use Rattle.vw_net.proofs.Places.{bit, place_of-lt, bit_at-place_of, place_of-values_at, values_at-front, length-values_at}

-- ---- places

-- the place of at most six values is one of 64
pub place_of-below : (bits : List Bool) → length bits ≤ 6 → place_of bits < 64
place_of-below bits few = omega (arith, place_of-lt bits, pow_mono few)

-- ---- inputs by themselves

-- whether a test holds below a number
below : ℕ → (ℕ → Bool) → Bool
below zero test = true
below (suc n) test = below n test && test n

below-at : (n : ℕ) (test : ℕ → Bool) (k : ℕ) → k < n → below n test ≡ true → test k ≡ true
unfolding below
below-at zero test k within all = absurd (omega arith)
below-at (suc n) test k within all =
    let parts = and_parts (below n test) (test n) all in
    ⊎_elim (λ (same : k ≡ n). ap test same ∙ parts.1) (λ (other : k ≡ n → ⊥). below-at n test k (omega arith) parts.0) (cases_eq k n)

is_input_table : ℕ → Bool
is_input_table input = below 64 (λ place. nat_eq (bit_at (get_or input_tables input 0) place) (bit_at place input))

input_tables_right : below 6 is_input_table ≡ true
unfolding below is_input_table
input_tables_right = refl

-- bit k of the truth table of input i is bit i of k
input_table_bit : (input place : ℕ) → input < 6 → place < 64 → bit_at (get_or input_tables input 0) place ≡ bit_at place input
unfolding is_input_table
input_table_bit input place within low =
    let right = below-at 6 is_input_table input within input_tables_right in
    eqb-true _ _ (below-at 64 (λ (k : ℕ). nat_eq (bit_at (get_or input_tables input 0) k) (bit_at k input)) place low right)

input_table_fits : ℕ → Bool
input_table_fits input = nat_le (get_or input_tables input 0) (2 ^ 64 - 1)

input_tables_fit : below 6 input_table_fits ≡ true
unfolding below input_table_fits
input_tables_fit = refl

-- ---- rows

bit-le : (n i : ℕ) → bit_at n i ≤ 1
bit-le n i = omega arith

bit-not : (value : Bool) → 1 - bit value ≡ bit (not value)
bit-not true = refl
bit-not false = refl

bit-and : (x y : Bool) → bit (x && y) ≡ min (bit x) (bit y)
bit-and true true = refl
bit-and true false = refl
bit-and false true = refl
bit-and false false = refl

-- the places of a mark have a place where the mark matches the input's value there
mark_bit : (mark : Mark) (input_table place : ℕ) (value : Bool) → input_table < 2 ^ 64 → place < 64 → bit_at input_table place ≡ bit value → bit_at (mark_places input_table mark) place ≡ bit (mark_matches mark value)
mark_bit Zero input_table place value small low is = bit_at_not w64 input_table place small low ∙ ap (λ (b : ℕ). 1 - b) is ∙ bit-not value
mark_bit One input_table place value small low is = is
mark_bit Any input_table place value small low is = bit_at_ones 64 place low

input_table_at : (bits : List Bool) (input : ℕ) → length bits ≤ 6 → input < 6 → bit_at (get_or input_tables input 0) (place_of bits) ≡ bit (get_or bits input false)
input_table_at bits input few within = input_table_bit input (place_of bits) within (place_of-below bits few) ∙ bit_at-place_of bits input

input_table_small : (input : ℕ) → input < 6 → get_or input_tables input 0 < 2 ^ 64
unfolding input_table_fits
input_table_small input within = omega (arith, leb-true (get_or input_tables input 0) (2 ^ 64 - 1) (below-at 6 input_table_fits input within input_tables_fit))

both : (places mark row before : ℕ) (matches rest : Bool) → before ≡ min places mark → mark ≡ bit matches → row ≡ min before (bit rest) → row ≡ min places (bit (matches && rest))
both places mark row before matches rest first its all = omega (arith, bit-and matches rest)

module _ (bits : List Bool) (few : length bits ≤ 6) where
  -- the places of a row have the place of some values where the row matches the first of them
  row_bit : (places input : ℕ) (marks : List Mark) (left : List Bool) → ((i : ℕ) → i < length left → get_or left i false ≡ get_or bits (input + i) false) → length marks ≡ length left → input + length marks ≤ 6
      → bit_at (row_places places input marks) (place_of bits) ≡ min (bit_at places (place_of bits)) (bit (row_matches marks left))
  row_bit places input [] left same even within = omega (arith, bit-le places (place_of bits))
  row_bit places input (mark ∷ marks) [] same even within = absurd (omega arith)
  row_bit places input (mark ∷ marks) (value ∷ left) same even within =
      let place = place_of bits in
      let input_table = get_or input_tables input 0 in
      let here : input < 6 = omega arith in
      let start : input + 0 ≡ input = omega arith in
      let is : bit_at input_table place ≡ bit value = input_table_at bits input few here ∙ ap (λ (i : ℕ). bit (get_or bits i false)) (sym start) ∙ ap bit (sym (same 0 (omega arith))) in
      let its = mark_bit mark input_table place value (input_table_small input here) (place_of-below bits few) is in
      let next = λ (i : ℕ) (inside : i < length left). let further : input + suc i ≡ input + 1 + i = omega arith in same (suc i) (omega (arith, inside)) ∙ ap (λ (at : ℕ). get_or bits at false) further in
      let all = row_bit (bit_and places (mark_places input_table mark)) (input + 1) marks left next (omega arith) (omega arith) in
      both (bit_at places place) (bit_at (mark_places input_table mark) place) _ (bit_at (bit_and places (mark_places input_table mark)) place) (mark_matches mark value) (row_matches marks left) (bit_at_and places (mark_places input_table mark) place) its all

  either : (places row rows before : ℕ) (matches rest : Bool) → before ≡ max places row → row ≡ bit matches → rows ≡ max before (bit rest) → rows ≡ max places (bit (matches || rest))
  either places row rows before true true first its all = omega arith
  either places row rows before true false first its all = omega arith
  either places row rows before false true first its all = omega arith
  either places row rows before false false first its all = omega arith

  module _ (own more : List Bool) (are : bits ≡ own ++ more) where
    whole_row : (marks : List Mark) → length marks ≡ length own → bit_at (row_places (2 ^ 64 - 1) 0 marks) (place_of bits) ≡ bit (row_matches marks own)
    whole_row marks even =
        let same = λ (i : ℕ) (inside : i < length own). let none : i ≡ 0 + i = omega arith in sym (get_or_append_left own more false i inside) ∙ ap₂ (λ (list : List Bool) (at : ℕ). get_or list at false) (sym are) none in
        let ones = bit_at_ones 64 (place_of bits) (place_of-below bits few) in
        row_bit (2 ^ 64 - 1) 0 marks own same even (omega (arith, few, ap (λ (list : List Bool). length list) are, length-append own more)) ∙ ap (λ (b : ℕ). min b (bit (row_matches marks own))) ones ∙ at_most (row_matches marks own) where
          at_most : (value : Bool) → min 1 (bit value) ≡ bit value
          at_most true = refl
          at_most false = refl

    -- the places of rows have it where some row matches
    rows_bit : (places : ℕ) (rows : List Row) → All (λ row. length row.marks ≡ length own) rows
        → bit_at (rows_places places rows) (place_of bits) ≡ max (bit_at places (place_of bits)) (bit (list_any (λ row. row_matches row.marks own) rows))
    rows_bit places [] even = omega arith
    rows_bit places (row ∷ rows) even =
        let place = place_of bits in
        let its = row_places (2 ^ 64 - 1) 0 row.marks in
        let here = whole_row row.marks (All-head (λ (r : Row). length r.marks ≡ length own) row rows even) in
        let all = rows_bit (bit_or places its) rows (All-tail (λ (r : Row). length r.marks ≡ length own) row rows even) in
        either (bit_at places place) (bit_at its place) _ (bit_at (bit_or places its) place) (row_matches row.marks own) (list_any (λ (r : Row). row_matches r.marks own) rows) (bit_at_or places its place) here all

-- ---- tables

row_places-lt : (places input : ℕ) (marks : List Mark) → places < 2 ^ 64 → row_places places input marks < 2 ^ 64
row_places-lt places input [] small = small
row_places-lt places input (mark ∷ marks) small =
    let its = mark_places (get_or input_tables input 0) mark in
    row_places-lt (bit_and places its) (input + 1) marks (omega (arith, and_le_l places its))

rows_places-lt : (places : ℕ) (rows : List Row) → places < 2 ^ 64 → rows_places places rows < 2 ^ 64
rows_places-lt places [] small = small
rows_places-lt places (row ∷ rows) small =
    let its = row_places (2 ^ 64 - 1) 0 row.marks in
    rows_places-lt (bit_or places its) rows (or_lt 64 places its small (row_places-lt (2 ^ 64 - 1) 0 row.marks (omega arith)))

bit-on : (any : Bool) → bit any ≡ bit (if any then true else not true)
bit-on true = refl
bit-on false = refl

bit-off : (any : Bool) → 1 - bit any ≡ bit (if any then false else not false)
bit-off true = refl
bit-off false = refl

at_least : (value : Bool) → max 0 (bit value) ≡ bit value
at_least true = refl
at_least false = refl

table_bit : (inputs : ℕ) (on : Bool) (rows : List Row) (own more : List Bool) → inputs ≤ 6 → length own ≡ inputs → length (own ++ more) ≤ 6 → All (λ row. length row.marks ≡ inputs) rows
    → bit_at (truth_table_of inputs on rows) (place_of (own ++ more)) ≡ bit (if list_any (λ row. row_matches row.marks own) rows then on else not on)
table_bit inputs on rows own more few size all_few even = rw narrow (by on) where
  narrow : nat_le inputs 6 ≡ true
  narrow = le-leb inputs 6 few

  matched : bit_at (rows_places 0 rows) (place_of (own ++ more)) ≡ bit (list_any (λ row. row_matches row.marks own) rows)
  matched =
      let fits : All (λ (row : Row). length row.marks ≡ length own) rows = subst (λ (n : ℕ). All (λ (row : Row). length row.marks ≡ n) rows) (sym size) even in
      rows_bit (own ++ more) all_few own more refl 0 rows fits ∙ ap (λ (b : ℕ). max b (bit (list_any (λ (row : Row). row_matches row.marks own) rows))) (bit_at-zero (place_of (own ++ more))) ∙ at_least (list_any (λ (row : Row). row_matches row.marks own) rows)

  by : (value : Bool) → bit_at (if value then rows_places 0 rows else 2 ^ 64 - 1 - rows_places 0 rows) (place_of (own ++ more)) ≡ bit (if list_any (λ row. row_matches row.marks own) rows then value else not value)
  by true = matched ∙ bit-on (list_any (λ (row : Row). row_matches row.marks own) rows)
  by false =
      bit_at_not w64 (rows_places 0 rows) (place_of (own ++ more)) (rows_places-lt 0 rows (omega arith)) (place_of-below (own ++ more) all_few) ∙ ap (λ (b : ℕ). 1 - b) matched ∙ bit-off (list_any (λ (row : Row). row_matches row.marks own) rows)

-- ---- the truth table by its places

-- bit k of the truth table that is worked out is the value at place k
table_at : (inputs : ℕ) (on : Bool) (rows : List Row) → inputs ≤ 6 → All (λ row. length row.marks ≡ inputs) rows → (place : ℕ) → place < 64
    → bit_at (truth_table_of inputs on rows) place ≡ bit (if list_any (λ row. row_matches row.marks (values_at inputs place)) rows then on else not on)
table_at inputs on rows few even place low =
    let own = values_at inputs place in
    let rest = values_at-front inputs 6 place own refl few in
    let is : place_of (own ++ rest.0) ≡ place = ap place_of rest.1 ∙ place_of-values_at 6 place low in
    let all_few : length (own ++ rest.0) ≤ 6 = omega (arith, ap (λ (list : List Bool). length list) rest.1 ∙ length-values_at 6 place) in
    ap (bit_at (truth_table_of inputs on rows)) (sym is) ∙ table_bit inputs on rows own rest.0 few (length-values_at inputs place) all_few even

table-lt : (on : Bool) (matched : ℕ) → matched < 2 ^ 64 → (if on then matched else 2 ^ 64 - 1 - matched) < 2 ^ 64
table-lt true matched small = small
table-lt false matched small = omega arith

-- what is worked out is the truth table
pub truth_table_is : (table : Table) → truth_table_of table.inputs table.on table.rows ≡ truth_table table
unfolding truth_table
truth_table_is table = by (nat_le table.inputs 6) refl where
  values : List Bool
  values = map (λ place. cover_value table (values_at table.inputs place)) (range_with_len 0 64)

  few_values : length values ≡ 64
  few_values = length-map (range_with_len 0 64) (λ place. cover_value table (values_at table.inputs place)) ∙ length-range_with_len 0 64

  matched : ℕ
  matched = rows_places 0 table.rows

  by : (few : Bool) → nat_le table.inputs 6 ≡ few → truth_table_of table.inputs table.on table.rows ≡ (if few then place_of values else 0)
  by false is = rw is refl
  by true is =
      let small : truth_table_of table.inputs table.on table.rows < 2 ^ 64 = rw is (table-lt table.on matched (rows_places-lt 0 table.rows (omega arith))) in
      let listed : place_of values < 2 ^ 64 = subst (λ (n : ℕ). place_of values < 2 ^ n) few_values (place_of-lt values) in
      same_from_bits_below 64 _ _ small listed (λ place low.
      let value = λ (at : ℕ). cover_value table (values_at table.inputs at) in
      let there : 0 + place ≡ place = omega arith in
      table_at table.inputs table.on table.rows (leb-true table.inputs 6 is) table.even place low
      ∙ sym (bit_at-place_of values place ∙ ap bit (get_or-map-range_with_len value 0 64 place place false low there)))

test-bit : (value : Bool) → nat_eq (bit value) 1 ≡ value
test-bit true = refl
test-bit false = refl

-- the truth table of a table of at most six inputs has the table's value at the place of any values, whatever values follow
pub truth_table_repeats : (table : Table) (bits more : List Bool) → length bits ≡ table.inputs → length (bits ++ more) ≤ 6 → bit_of (truth_table table) (place_of (bits ++ more)) ≡ cover_value table bits
truth_table_repeats table bits more size all_few =
    let few : table.inputs ≤ 6 = omega (arith, size, all_few, length-append bits more) in
    let its = table_bit table.inputs table.on table.rows bits more few size all_few table.even in
    ap (λ (number : ℕ). bit_of number (place_of (bits ++ more))) (sym (truth_table_is table)) ∙ ap (λ (n : ℕ). nat_eq n 1) (shr_and_one (truth_table_of table.inputs table.on table.rows) (place_of (bits ++ more)) ∙ its) ∙ test-bit (cover_value table bits)

pub truth_table_agrees : (table : Table) (bits : List Bool) → table.inputs ≤ 6 → length bits ≡ table.inputs → bit_of (truth_table table) (place_of bits) ≡ cover_value table bits
truth_table_agrees table bits few size =
    let same : bits ++ [] ≡ bits = append-nil bits in
    ap (λ (all : List Bool). bit_of (truth_table table) (place_of all)) (sym same) ∙ truth_table_repeats table bits [] size (omega (arith, few, size, ap (λ (all : List Bool). length all) same))
