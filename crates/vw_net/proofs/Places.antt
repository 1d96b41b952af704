-- Places: numbers whose bits are truth values.
use mir.Val.{bool_byte}
use Rattle.std.proofs.Common.{◌≡◌, ◌≤◌, ◌<◌, ◌+◌, ◌*◌, ◌/◌, ◌%◌, ◌^◌, ◌==◌, ℕ, zero, suc, Bool, true, false, List, [], ◌∷◌, ◌++◌, length, get_or, if◌then◌else◌, ap, refl, ◌∙◌, arith}
use Rattle.std.specs.Int.{bit_at}
use Rattle.std.proofs.Math.Nat.{pow-suc}
use Rattle.std.proofs.Math.Pow.{pow_mono}
use Rattle.std.proofs.lemmas.Nat.Bits.{bit_at_lowest, bit_at-suc, bit_at-zero}
use Rattle.vw_net.specs.TruthTable.{place_of, values_at}

-- a truth value as a byte
pub byte-le : (value : Bool) → bool_byte value ≤ 1
byte-le true = omega arith
byte-le false = omega arith

-- so many values have a place below that power of 2
pub place_of-lt : (bits : List Bool) → place_of bits < 2 ^ length bits
place_of-lt [] = omega arith
place_of-lt (true ∷ bits) = omega (arith, place_of-lt bits, pow-suc 2 (length bits))
place_of-lt (false ∷ bits) = omega (arith, place_of-lt bits, pow-suc 2 (length bits))

-- that of at most 127 values could be doubled below the 128th power of 2
pub place_of-wide : (bits : List Bool) → length bits ≤ 127 → place_of bits < 2 ^ 127
place_of-wide bits few = omega (arith, place_of-lt bits, pow_mono few)

-- a truth value as a bit
abbrev pub bit : Bool → ℕ
bit value = if value then 1 else 0

pub half : (value : Bool) (rest : ℕ) → (bit value + 2 * rest) / 2 ≡ rest
half true rest = omega arith
half false rest = omega arith

pub lowest : (value : Bool) (rest : ℕ) → (bit value + 2 * rest) % 2 ≡ bit value
lowest true rest = omega arith
lowest false rest = omega arith

-- bit i of a place is the value of input i
pub bit_at-place_of : (bits : List Bool) (input : ℕ) → bit_at (place_of bits) input ≡ bit (get_or bits input false)
bit_at-place_of [] input = bit_at-zero input
bit_at-place_of (value ∷ bits) zero = bit_at_lowest (bit value + 2 * place_of bits) ∙ lowest value (place_of bits)
bit_at-place_of (value ∷ bits) (suc input) =
    bit_at-suc (bit value + 2 * place_of bits) input ∙ ap (λ (n : ℕ). bit_at n input) (half value (place_of bits)) ∙ bit_at-place_of bits input

-- ---- the values at a place

odd_bit : (n : ℕ) → bit (n % 2 == 1) ≡ n % 2
odd_bit n = by (n % 2) (omega arith) where
  by : (low : ℕ) → low < 2 → bit (low == 1) ≡ low
  by zero small = refl
  by (suc zero) small = refl
  by (suc (suc low)) small = absurd (omega arith)

-- of a place below a power of 2, so many values have it
pub place_of-values_at : (inputs place : ℕ) → place < 2 ^ inputs → place_of (values_at inputs place) ≡ place
place_of-values_at zero place small = omega arith
place_of-values_at (suc inputs) place small =
    let rest = place_of-values_at inputs (place / 2) (omega (arith, small, pow-suc 2 inputs)) in
    omega (arith, odd_bit place, rest)

-- the values of fewer inputs are a front of those of more
pub values_at-front : (fewer more place : ℕ) → (front : List Bool) → front ≡ values_at fewer place → fewer ≤ more → (rest : List Bool) × (front ++ rest ≡ values_at more place)
values_at-front zero more place front is within = (values_at more place, ap (λ (list : List Bool). list ++ values_at more place) is)
values_at-front (suc fewer) zero place front is within = absurd (omega arith)
values_at-front (suc fewer) (suc more) place front is within =
    let rest = values_at-front fewer more (place / 2) (values_at fewer (place / 2)) refl (omega arith) in
    (rest.0, ap (λ (list : List Bool). list ++ rest.0) is ∙ ap (λ (list : List Bool). (place % 2 == 1) ∷ list) rest.1)

pub length-values_at : (inputs place : ℕ) → length (values_at inputs place) ≡ inputs
length-values_at zero place = refl
length-values_at (suc inputs) place = ap suc (length-values_at inputs (place / 2))
