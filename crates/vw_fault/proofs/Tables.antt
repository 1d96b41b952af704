-- Truth tables by halves, over the last input.
use Rattle.std.proofs.Common.{◌≡◌, ◌≤◌, ◌+◌, ◌*◌, ◌/◌, ◌%◌, ◌^◌, ◌==◌, ◌++◌, ◌∙◌, ℕ, zero, suc, Bool, true, false, List, [], ◌∷◌, length, map, drop, get_or, bit_and, bit_xor, not, ◌-◌, ◌<◌, if◌then◌else◌, ap, ap₂, sym, refl, eq-eqb, ne_eqb, arith}
use Rattle.std.proofs.Math.Nat.{pow-suc}
use Rattle.std.proofs.lemmas.Nat.{shr-shr}
use Rattle.std.proofs.lemmas.Nat.Bits.{bit_at_lowest, shr_and_one}
use Rattle.std.proofs.lemmas.List.{drop_all, drop_more, length-map}
use Rattle.vw_net.specs.Table.{Table}
use Rattle.vw_net.specs.Cover.{cover_value}
use Rattle.vw_net.specs.TruthTable.{bit_of, place_of, truth_table}
use Rattle.vw_net.proofs.TruthTables.{truth_table_agrees}
use Rattle.vw_fault.proofs.Lanes.{lane_none, lane_not, lane_ones}

-- bits from one on
bit_of-further : (table from place : ℕ) → bit_of (table / 2 ^ from) place ≡ bit_of table (from + place)
bit_of-further table from place = ap (λ (n : ℕ). bit_and n 1 == 1) (shr-shr table from place)

place_of-last_one : (bits : List Bool) → place_of (bits ++ true ∷ []) ≡ 2 ^ length bits + place_of bits
place_of-last_one [] = refl
place_of-last_one (true ∷ bits) = omega (arith, place_of-last_one bits, pow-suc 2 (length bits))
place_of-last_one (false ∷ bits) = omega (arith, place_of-last_one bits, pow-suc 2 (length bits))

place_of-last_none : (bits : List Bool) → place_of (bits ++ false ∷ []) ≡ place_of bits
place_of-last_none [] = refl
place_of-last_none (bit ∷ bits) = ap (λ (n : ℕ). (if bit then 1 else 0) + 2 * n) (place_of-last_none bits)

-- the upper half where the last input is 1, and the lower half where it is 0
halves : (table : ℕ) (bits : List Bool) (last : Bool)
    → (if last then bit_of (table / 2 ^ 2 ^ length bits) (place_of bits) else bit_of table (place_of bits)) ≡ bit_of table (place_of (bits ++ last ∷ []))
halves table bits true = bit_of-further table (2 ^ length bits) (place_of bits) ∙ ap (bit_of table) (sym (place_of-last_one bits))
halves table bits false = ap (bit_of table) (sym (place_of-last_none bits))

-- so a table of one input more is a choice between two
pub one_more_input : (table : ℕ) (bits : List Bool) (last chosen high low : Bool) → chosen ≡ (if last then high else low)
    → high ≡ bit_of (table / 2 ^ 2 ^ length bits) (place_of bits) → low ≡ bit_of table (place_of bits)
    → chosen ≡ bit_of table (place_of (bits ++ last ∷ []))
one_more_input table bits last chosen high low is is_high is_low = is ∙ ap₂ (λ (x y : Bool). if last then x else y) is_high is_low ∙ halves table bits last

-- its lowest bit
pub lowest : (table : ℕ) → bit_of table 0 ≡ (table % 2 == 1)
lowest table = ap (λ (n : ℕ). n == 1) (shr_and_one table 0 ∙ bit_at_lowest table)

-- a choice between two that are known
chosen_as : (by high low one other chosen : Bool) → high ≡ one → low ≡ other → chosen ≡ (if by then one else other) → chosen ≡ (if by then high else low)
chosen_as by high low one other chosen is_high is_low is = is ∙ sym (ap₂ (λ (x y : Bool). if by then x else y) is_high is_low)

always : (by value : Bool) → value ≡ (if by then value else value)
always true value = refl
always false value = refl

turned : (by : Bool) → not by ≡ (if by then false else true)
turned true = refl
turned false = refl

itself : (by : Bool) → by ≡ (if by then true else false)
itself true = refl
itself false = refl

-- the four tables of one input, by their numbers
abbrev pub tables_over : ℕ → List ℕ
tables_over word = 0 ∷ bit_xor word (2 ^ 64 - 1) ∷ word ∷ (2 ^ 64 - 1) ∷ []

-- so the two lowest bits of a table say which of them it is of its first input
pub one_input : (table word result default lane : ℕ) → lane < 64 → result ≡ get_or (tables_over word) (table % 4) default
    → bit_of result lane ≡ bit_of table (place_of (bit_of word lane ∷ []))
one_input table word result default lane low is = one_more_input table [] (bit_of word lane) (bit_of result lane) high_bit low_bit (ap (λ (n : ℕ). bit_of n lane) is ∙ by (table % 4) refl) (sym (lowest (table / 2 ^ 2 ^ 0))) (sym (lowest table)) where
  high_bit : Bool
  high_bit = (table / 2 ^ 2 ^ 0) % 2 == 1

  low_bit : Bool
  low_bit = table % 2 == 1

  by : (rest : ℕ) → table % 4 ≡ rest → bit_of (get_or (tables_over word) rest default) lane ≡ (if bit_of word lane then high_bit else low_bit)
  by zero four = chosen_as (bit_of word lane) high_bit low_bit false false _ (ne_eqb _ _ (omega (arith, four))) (ne_eqb _ _ (omega (arith, four))) (lane_none lane ∙ always (bit_of word lane) false)
  by (suc zero) four = chosen_as (bit_of word lane) high_bit low_bit false true _ (ne_eqb _ _ (omega (arith, four))) (eq-eqb _ _ (omega (arith, four))) (lane_not word lane low ∙ turned (bit_of word lane))
  by (suc (suc zero)) four = chosen_as (bit_of word lane) high_bit low_bit true false _ (eq-eqb _ _ (omega (arith, four))) (ne_eqb _ _ (omega (arith, four))) (itself (bit_of word lane))
  by (suc (suc (suc zero))) four = chosen_as (bit_of word lane) high_bit low_bit true true _ (eq-eqb _ _ (omega (arith, four))) (eq-eqb _ _ (omega (arith, four))) (lane_ones lane low ∙ always (bit_of word lane) true)
  by (suc (suc (suc (suc rest)))) four = absurd (omega (arith, four))

-- so many elements of a list, from a place on
abbrev pub elements : ℕ → ℕ → List ℕ → List ℕ
elements zero from xs = []
elements (suc count) from xs = get_or xs from 0 ∷ elements count (suc from) xs

listed : (count from : ℕ) (xs : List ℕ) → from + count ≡ length xs → elements count from xs ≡ drop from xs
listed zero from xs size = sym (drop_all from xs (omega arith))
listed (suc count) from xs size =
    let next : suc from ≡ from + 1 = omega arith in
    ap (λ (rest : List ℕ). get_or xs from 0 ∷ rest) (listed count (suc from) xs (omega arith) ∙ ap (λ (at : ℕ). drop at xs) next) ∙ sym (drop_more xs from 0 (omega arith))

-- the value of a table of few inputs, by its truth table
pub by_table : (table : Table) (count : ℕ) (ins : List ℕ) (bit : ℕ → Bool) (number : ℕ) (result : Bool) → count ≤ 6 → length ins ≡ count
    → length ins ≡ table.inputs → number ≡ truth_table table → result ≡ bit_of number (place_of (map bit (elements count 0 ins)))
    → result ≡ cover_value table (map bit ins)
by_table table count ins bit number result few size arity number_is is =
    let whole : 0 + count ≡ length ins = omega (arith, size) in
    is
    ∙ ap₂ (λ (n : ℕ) (nets : List ℕ). bit_of n (place_of (map bit nets))) number_is (listed count 0 ins whole)
    ∙ truth_table_agrees table (map bit ins) (omega arith) (length-map ins bit ∙ arity)
