-- The bits of a lane of words.
use Rattle.std.proofs.Common.{◌++◌, ◌∷◌, [], take, ◌≡◌, ◌<◌, ◌+◌, ◌-◌, ◌^◌, ◌%◌, ◌==◌, ◌&&◌, ◌||◌, ◌∙◌, ◌≢◌, not, ℕ, zero, suc, min, max, Bool, true, false, List, length, get_or, set, bit_and, bit_or, bit_xor, if◌then◌else◌, ap, ap₂, sym, refl, ⊎_elim, arith}
use Rattle.std.specs.Int.{bit_at}
use Rattle.std.proofs.Math.ListN.{get_or-map}
use Rattle.std.proofs.lemmas.Bool.{cases_eq}
use Rattle.std.proofs.lemmas.Grind.{get_or-set_at}
use Rattle.std.proofs.lemmas.List.{get_or_default, get_or-set_other, length-map, map-set, take_more, take_more_set}
use Rattle.std.proofs.lemmas.Nat.Bits.{bit_at-lt, bit_at-zero, bit_at_and, bit_at_or, bit_at_xor, bit_at_ones, bit_at-pow_same, bit_at-pow_other, shr_and_one}
use Rattle.vw_net.specs.TruthTable.{bit_of}
use Rattle.vw_fault.specs.declared.stuck.Stuck.{Stuck}
use Rattle.vw_fault.specs.Steps.Lanes.{lane_bits, find_in}
use Rattle.vw_fault.specs.Stuck.{differ}

bit_of-is : (word lane : ℕ) → bit_of word lane ≡ (bit_at word lane == 1)
bit_of-is word lane = ap (λ (n : ℕ). n == 1) (shr_and_one word lane)

min_bits : (x y : ℕ) → x < 2 → y < 2 → (min x y == 1) ≡ ((x == 1) && (y == 1))
min_bits zero zero low small = refl
min_bits zero (suc zero) low small = refl
min_bits (suc zero) zero low small = refl
min_bits (suc zero) (suc zero) low small = refl
min_bits (suc (suc x)) y low small = absurd (omega arith)
min_bits zero (suc (suc y)) low small = absurd (omega arith)
min_bits (suc zero) (suc (suc y)) low small = absurd (omega arith)

max_bits : (x y : ℕ) → x < 2 → y < 2 → (max x y == 1) ≡ ((x == 1) || (y == 1))
max_bits zero zero low small = refl
max_bits zero (suc zero) low small = refl
max_bits (suc zero) zero low small = refl
max_bits (suc zero) (suc zero) low small = refl
max_bits (suc (suc x)) y low small = absurd (omega arith)
max_bits zero (suc (suc y)) low small = absurd (omega arith)
max_bits (suc zero) (suc (suc y)) low small = absurd (omega arith)

sum_bits : (x y : ℕ) → x < 2 → y < 2 → ((x + y) % 2 == 1) ≡ differ (x == 1) (y == 1)
sum_bits zero zero low small = refl
sum_bits zero (suc zero) low small = refl
sum_bits (suc zero) zero low small = refl
sum_bits (suc zero) (suc zero) low small = refl
sum_bits (suc (suc x)) y low small = absurd (omega arith)
sum_bits zero (suc (suc y)) low small = absurd (omega arith)
sum_bits (suc zero) (suc (suc y)) low small = absurd (omega arith)

pub lane_and : (a b lane : ℕ) → bit_of (bit_and a b) lane ≡ (bit_of a lane && bit_of b lane)
lane_and a b lane =
    bit_of-is (bit_and a b) lane ∙ ap (λ (n : ℕ). n == 1) (bit_at_and a b lane) ∙ min_bits (bit_at a lane) (bit_at b lane) (bit_at-lt a lane) (bit_at-lt b lane)
    ∙ ap₂ (λ (x y : Bool). x && y) (sym (bit_of-is a lane)) (sym (bit_of-is b lane))

pub lane_or : (a b lane : ℕ) → bit_of (bit_or a b) lane ≡ (bit_of a lane || bit_of b lane)
lane_or a b lane =
    bit_of-is (bit_or a b) lane ∙ ap (λ (n : ℕ). n == 1) (bit_at_or a b lane) ∙ max_bits (bit_at a lane) (bit_at b lane) (bit_at-lt a lane) (bit_at-lt b lane)
    ∙ ap₂ (λ (x y : Bool). x || y) (sym (bit_of-is a lane)) (sym (bit_of-is b lane))

pub lane_xor : (a b lane : ℕ) → bit_of (bit_xor a b) lane ≡ differ (bit_of a lane) (bit_of b lane)
lane_xor a b lane =
    bit_of-is (bit_xor a b) lane ∙ ap (λ (n : ℕ). n == 1) (bit_at_xor a b lane) ∙ sum_bits (bit_at a lane) (bit_at b lane) (bit_at-lt a lane) (bit_at-lt b lane)
    ∙ ap₂ differ (sym (bit_of-is a lane)) (sym (bit_of-is b lane))

pub lane_ones : (lane : ℕ) → lane < 64 → bit_of (2 ^ 64 - 1) lane ≡ true
lane_ones lane low = bit_of-is (2 ^ 64 - 1) lane ∙ ap (λ (n : ℕ). n == 1) (bit_at_ones 64 lane low)

pub lane_none : (lane : ℕ) → bit_of 0 lane ≡ false
lane_none lane = bit_of-is 0 lane ∙ ap (λ (n : ℕ). n == 1) (bit_at-zero lane)

pub lane_own : (lane : ℕ) → bit_of (2 ^ lane) lane ≡ true
lane_own lane = bit_of-is (2 ^ lane) lane ∙ ap (λ (n : ℕ). n == 1) (bit_at-pow_same lane)

pub lane_other : (at lane : ℕ) → lane ≢ at → bit_of (2 ^ at) lane ≡ false
lane_other at lane apart = bit_of-is (2 ^ at) lane ∙ ap (λ (n : ℕ). n == 1) (bit_at-pow_other at lane apart)

differ_ones : (bit : Bool) → differ bit true ≡ not bit
differ_ones true = refl
differ_ones false = refl

pub lane_not : (word lane : ℕ) → lane < 64 → bit_of (bit_xor word (2 ^ 64 - 1)) lane ≡ not (bit_of word lane)
lane_not word lane low = lane_xor word (2 ^ 64 - 1) lane ∙ ap (differ (bit_of word lane)) (lane_ones lane low) ∙ differ_ones (bit_of word lane)

-- of two words the one or the other, by a third
choose : (by one other : Bool) → differ other (by && differ one other) ≡ (if by then one else other)
choose true true true = refl
choose true true false = refl
choose true false true = refl
choose true false false = refl
choose false one true = refl
choose false one false = refl

pub lane_chosen : (by one other lane : ℕ)
    → bit_of (bit_xor other (bit_and by (bit_xor one other))) lane ≡ (if bit_of by lane then bit_of one lane else bit_of other lane)
lane_chosen by one other lane =
    lane_xor other (bit_and by (bit_xor one other)) lane
    ∙ ap (differ (bit_of other lane)) (lane_and by (bit_xor one other) lane ∙ ap (λ (x : Bool). bit_of by lane && x) (lane_xor one other lane))
    ∙ choose (bit_of by lane) (bit_of one lane) (bit_of other lane)

-- the bit of a lane at a place
pub lane_at : (lane : ℕ) (words : List ℕ) (at : ℕ) → get_or (lane_bits lane words) at false ≡ bit_of (get_or words at 0) lane
lane_at lane words at = ap (get_or (lane_bits lane words) at) (sym (lane_none lane)) ∙ get_or-map (λ (word : ℕ). bit_of word lane) words at 0

-- what is found of a word
pub lane_found : (stuck : Stuck) (net word kept forced lane : ℕ) → net < length stuck.kept → kept ≡ get_or stuck.kept net 0
    → forced ≡ get_or stuck.forced net 0 → bit_of (bit_or (bit_and word kept) forced) lane ≡ find_in stuck lane net (bit_of word lane)
lane_found stuck net word kept forced lane within is_kept is_forced =
    let its = is_kept ∙ get_or_default stuck.kept net 0 (2 ^ 64 - 1) within in
    lane_or (bit_and word kept) forced lane
    ∙ ap₂ (λ (x y : Bool). x || y)
    (lane_and word kept lane ∙ ap (λ (n : ℕ). bit_of word lane && bit_of n lane) its)
    (ap (λ (n : ℕ). bit_of n lane) is_forced)

-- a word that is written, lane by lane
pub lane_set : (lane : ℕ) (words after : List ℕ) (at word : ℕ) → after ≡ set words at word
    → lane_bits lane after ≡ set (lane_bits lane words) at (bit_of word lane)
lane_set lane words after at word written = ap (lane_bits lane) written ∙ map-set (λ (one : ℕ). bit_of one lane) words at word

pub length-lane_bits : (lane : ℕ) (words : List ℕ) → length (lane_bits lane words) ≡ length words
length-lane_bits lane words = length-map words (λ (word : ℕ). bit_of word lane)

-- one input more
pub input_further : (find : ℕ → Bool → Bool) (lane : ℕ) (words after : List ℕ) (row : List Bool) (place word : ℕ) → place < length words
    → after ≡ set words place word → bit_of word lane ≡ find place (get_or row place false)
    → ((net : ℕ) → net < place → get_or (lane_bits lane words) net false ≡ find net (get_or row net false)) → (net : ℕ) → net < place + 1
    → get_or (lane_bits lane after) net false ≡ find net (get_or row net false)
input_further find lane words after row place word within written is before net inside =
    let bit = bit_of word lane in
    let size = length-lane_bits lane words in
    let if_here = λ (same : net ≡ place). get_or-set_at (lane_bits lane words) place net bit false same (omega (arith, within, size)) ∙ is ∙ ap (λ (at : ℕ). find at (get_or row at false)) (sym same) in
    let if_before = λ (other : net ≡ place → ⊥). get_or-set_other (lane_bits lane words) place net bit false other ∙ before net (omega arith) in
    ap (λ (bits : List Bool). get_or bits net false) (lane_set lane words after place word written) ∙ ⊎_elim if_here if_before (cases_eq net place)

-- the lanes below a number
pub lane_below : (used lane : ℕ) → lane < used → bit_of (2 ^ used - 1) lane ≡ true
lane_below used lane within = bit_of-is (2 ^ used - 1) lane ∙ ap (λ (n : ℕ). n == 1) (bit_at_ones used lane within)

-- one bit more in every lane
pub bit_further : (lane : ℕ) (words after : List ℕ) (bits : List Bool) (place word : ℕ) → place < length words → place < length bits
    → after ≡ set words place word → bit_of word lane ≡ get_or bits place false → take place (lane_bits lane words) ≡ take place bits
    → take (place + 1) (lane_bits lane after) ≡ take (place + 1) bits
bit_further lane words after bits place word within inside written is so_far =
    let size = length-lane_bits lane words in
    ap (take (place + 1)) (lane_set lane words after place word written)
    ∙ take_more_set (lane_bits lane words) place (bit_of word lane) (omega (arith, within, size))
    ∙ ap₂ (λ (front : List Bool) (bit : Bool). front ++ bit ∷ []) so_far is
    ∙ sym (take_more bits place false inside)
