-- The words of leaves: bit k of the word of leaf i is bit i of k.
use Rattle.std.proofs.Common.{◌≡◌, ◌≤◌, ◌<◌, ◌&&◌, ◌==◌, ◌∙◌, ℕ, zero, suc, Bool, true, false, List, length, map, get_or, nat_eq, ap, sym, refl, ⊎_elim, eqb-true, arith}
use Rattle.std.specs.Int.{bit_at}
use Rattle.std.proofs.Math.ListN.{get_or-map}
use Rattle.std.proofs.Math.Pow.{pow_mono}
use Rattle.std.proofs.lemmas.Bool.{and_parts, cases_eq}
use Rattle.std.proofs.lemmas.List.{get_or_default, length-map}
use Rattle.vw_net.specs.TruthTable.{bit_of, place_of}
use Rattle.vw_net.specs.Steps.MatchedPlaces.{input_tables}
use Rattle.vw_net.proofs.Places.{bit, bit_at-place_of, place_of-lt}
use Rattle.vw_merge.proofs.Lanes.{bit_of-is}

-- whether a test holds below a number
below : ℕ → (ℕ → Bool) → Bool
below zero test = true
below (suc n) test = below n test && test n

below-at : (n : ℕ) (test : ℕ → Bool) (k : ℕ) → k < n → below n test ≡ true → test k ≡ true
unfolding below
below-at zero test k within all = absurd (omega arith)
below-at (suc n) test k within all =
    let parts = and_parts (below n test) (test n) all in
    ⊎_elim (λ (same : k ≡ n). ap test same ∙ parts.1) (λ (other : k ≡ n → ⊥). below-at n test k (omega arith) parts.0) (cases_eq k n)

is_leaf_word : ℕ → Bool
is_leaf_word leaf = below 64 (λ place. nat_eq (bit_at (get_or input_tables leaf 0) place) (bit_at place leaf))

leaf_words_right : below 6 is_leaf_word ≡ true
unfolding below is_leaf_word
leaf_words_right = refl

leaf_word_bit : (leaf place : ℕ) → leaf < 6 → place < 64 → bit_at (get_or input_tables leaf 0) place ≡ bit_at place leaf
unfolding is_leaf_word
leaf_word_bit leaf place within low =
    let right = below-at 6 is_leaf_word leaf within leaf_words_right in
    eqb-true _ _ (below-at 64 (λ (k : ℕ). nat_eq (bit_at (get_or input_tables leaf 0) k) (bit_at k leaf)) place low right)

is_one : (value : Bool) → (bit value == 1) ≡ value
is_one true = refl
is_one false = refl

-- the place of at most six values is one of 64
pub place_below : (bits : List Bool) → length bits ≤ 6 → place_of bits < 64
place_below bits few = omega (arith, place_of-lt bits, pow_mono few)

-- of a leaf's word the bit at the place of the values of all leaves is the leaf's value
pub leaf_value : (value : ℕ → Bool) (leaves : List ℕ) (i : ℕ) → i < length leaves → length leaves ≤ 6
    → bit_of (get_or input_tables i 0) (place_of (map value leaves)) ≡ value (get_or leaves i 0)
leaf_value value leaves i within few =
    let bits = map value leaves in
    let size = length-map leaves value in
    let low = place_below bits (omega (arith, size, few)) in
    bit_of-is (get_or input_tables i 0) (place_of bits)
    ∙ ap (λ (n : ℕ). n == 1) (leaf_word_bit i (place_of bits) (omega (arith, within, few)) low ∙ bit_at-place_of bits i)
    ∙ is_one (get_or bits i false)
    ∙ get_or_default bits i false (value 0) (omega (arith, within, size))
    ∙ get_or-map value leaves i 0

-- the same for a word that equals it
pub leaf_at : (value : ℕ → Bool) (leaves : List ℕ) (i word default : ℕ) → i < length leaves → length leaves ≤ 6 → get_or input_tables i default ≡ word
    → bit_of word (place_of (map value leaves)) ≡ value (get_or leaves i 0)
leaf_at value leaves i word default within few is =
    let same : word ≡ get_or input_tables i 0 = sym is ∙ get_or_default input_tables i default 0 (omega (arith, within, few)) in
    ap (λ (w : ℕ). bit_of w (place_of (map value leaves))) same ∙ leaf_value value leaves i within few
