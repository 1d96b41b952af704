-- The bits of a lane of words.
use Rattle.std.proofs.Common.{◌≡◌, ◌<◌, ◌^◌, ◌%◌, ◌+◌, ◌-◌, ◌==◌, ◌&&◌, ◌||◌, ◌∙◌, not, ℕ, zero, suc, min, max, Bool, true, false, bit_and, bit_or, bit_xor, ap, ap₂, sym, refl, arith}
use Rattle.std.specs.Int.{bit_at}
use Rattle.std.proofs.lemmas.Nat.Bits.{bit_at-lt, bit_at-zero, bit_at_and, bit_at_or, bit_at_xor, bit_at_ones, shr_and_one}
use Rattle.vw_net.specs.TruthTable.{bit_of}

-- whether two bits differ
abbrev pub differ : Bool → Bool → Bool
differ true bit = not bit
differ false bit = bit

pub bit_of-is : (word lane : ℕ) → bit_of word lane ≡ (bit_at word lane == 1)
bit_of-is word lane = ap (λ (n : ℕ). n == 1) (shr_and_one word lane)

min_bits : (x y : ℕ) → x < 2 → y < 2 → (min x y == 1) ≡ ((x == 1) && (y == 1))
min_bits zero zero low small = refl
min_bits zero (suc zero) low small = refl
min_bits (suc zero) zero low small = refl
min_bits (suc zero) (suc zero) low small = refl
min_bits (suc (suc x)) y low small = absurd (omega arith)
min_bits zero (suc (suc y)) low small = absurd (omega arith)
min_bits (suc zero) (suc (suc y)) low small = absurd (omega arith)

max_bits : (x y : ℕ) → x < 2 → y < 2 → (max x y == 1) ≡ ((x == 1) || (y == 1))
max_bits zero zero low small = refl
max_bits zero (suc zero) low small = refl
max_bits (suc zero) zero low small = refl
max_bits (suc zero) (suc zero) low small = refl
max_bits (suc (suc x)) y low small = absurd (omega arith)
max_bits zero (suc (suc y)) low small = absurd (omega arith)
max_bits (suc zero) (suc (suc y)) low small = absurd (omega arith)

sum_bits : (x y : ℕ) → x < 2 → y < 2 → ((x + y) % 2 == 1) ≡ differ (x == 1) (y == 1)
sum_bits zero zero low small = refl
sum_bits zero (suc zero) low small = refl
sum_bits (suc zero) zero low small = refl
sum_bits (suc zero) (suc zero) low small = refl
sum_bits (suc (suc x)) y low small = absurd (omega arith)
sum_bits zero (suc (suc y)) low small = absurd (omega arith)
sum_bits (suc zero) (suc (suc y)) low small = absurd (omega arith)

pub lane_and : (a b lane : ℕ) → bit_of (bit_and a b) lane ≡ (bit_of a lane && bit_of b lane)
lane_and a b lane =
    bit_of-is (bit_and a b) lane ∙ ap (λ (n : ℕ). n == 1) (bit_at_and a b lane) ∙ min_bits (bit_at a lane) (bit_at b lane) (bit_at-lt a lane) (bit_at-lt b lane)
    ∙ ap₂ (λ (x y : Bool). x && y) (sym (bit_of-is a lane)) (sym (bit_of-is b lane))

pub lane_or : (a b lane : ℕ) → bit_of (bit_or a b) lane ≡ (bit_of a lane || bit_of b lane)
lane_or a b lane =
    bit_of-is (bit_or a b) lane ∙ ap (λ (n : ℕ). n == 1) (bit_at_or a b lane) ∙ max_bits (bit_at a lane) (bit_at b lane) (bit_at-lt a lane) (bit_at-lt b lane)
    ∙ ap₂ (λ (x y : Bool). x || y) (sym (bit_of-is a lane)) (sym (bit_of-is b lane))

pub lane_xor : (a b lane : ℕ) → bit_of (bit_xor a b) lane ≡ differ (bit_of a lane) (bit_of b lane)
lane_xor a b lane =
    bit_of-is (bit_xor a b) lane ∙ ap (λ (n : ℕ). n == 1) (bit_at_xor a b lane) ∙ sum_bits (bit_at a lane) (bit_at b lane) (bit_at-lt a lane) (bit_at-lt b lane)
    ∙ ap₂ differ (sym (bit_of-is a lane)) (sym (bit_of-is b lane))

pub lane_ones : (lane : ℕ) → lane < 64 → bit_of (2 ^ 64 - 1) lane ≡ true
lane_ones lane low = bit_of-is (2 ^ 64 - 1) lane ∙ ap (λ (n : ℕ). n == 1) (bit_at_ones 64 lane low)

pub lane_none : (lane : ℕ) → bit_of 0 lane ≡ false
lane_none lane = bit_of-is 0 lane ∙ ap (λ (n : ℕ). n == 1) (bit_at-zero lane)

differ_ones : (bit : Bool) → differ bit true ≡ not bit
differ_ones true = refl
differ_ones false = refl

pub lane_not : (word lane : ℕ) → lane < 64 → bit_of (bit_xor word (2 ^ 64 - 1)) lane ≡ not (bit_of word lane)
lane_not word lane low = lane_xor word (2 ^ 64 - 1) lane ∙ ap (differ (bit_of word lane)) (lane_ones lane low) ∙ differ_ones (bit_of word lane)
