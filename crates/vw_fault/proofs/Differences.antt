-- Lists of bits and of clocks that differ.
use Rattle.std.proofs.Common.{◌≡◌, ◌++◌, ◌||◌, ◌∙◌, ℕ, Bool, true, false, List, [], ◌∷◌, ap, ap₂, sym, refl, true≢false}
use Rattle.std.proofs.lemmas.Bool.{or_parts}
use Rattle.vw_net.specs.declared.flat.Flat.{Flat}
use Rattle.vw_net.specs.History.{outputs_at, next_state, outputs_of}
use Rattle.vw_fault.specs.declared.open.Open.{Open}
use Rattle.vw_fault.specs.Found.{found_outputs_at, found_next_state, found_outputs}
use Rattle.vw_fault.specs.Stuck.{differ, bits_differ, clocks_differ, find_stuck, is_detected}

differ_self : (bit : Bool) → differ bit bit ≡ false
differ_self true = refl
differ_self false = refl

bits_differ_self : (bits : List Bool) → bits_differ bits bits ≡ false
bits_differ_self [] = refl
bits_differ_self (bit ∷ bits) = ap₂ (λ (one more : Bool). one || more) (differ_self bit) (bits_differ_self bits)

clocks_differ_self : (clocks : List (List Bool)) → clocks_differ clocks clocks ≡ false
clocks_differ_self [] = refl
clocks_differ_self (clock ∷ clocks) = ap₂ (λ (one more : Bool). one || more) (bits_differ_self clock) (clocks_differ_self clocks)

same_bit : (one other : Bool) → differ one other ≡ false → one ≡ other
same_bit true true none = refl
same_bit true false none = absurd (true≢false none)
same_bit false true none = absurd (true≢false none)
same_bit false false none = refl

same_bits : (ones others : List Bool) → bits_differ ones others ≡ false → ones ≡ others
same_bits [] [] none = refl
same_bits [] (other ∷ others) none = absurd (true≢false none)
same_bits (one ∷ ones) [] none = absurd (true≢false none)
same_bits (one ∷ ones) (other ∷ others) none =
    let parts = or_parts (differ one other) (bits_differ ones others) none in
    ap₂ (λ (first : Bool) (more : List Bool). first ∷ more) (same_bit one other parts.0) (same_bits ones others parts.1)

same_clocks : (ones others : List (List Bool)) → clocks_differ ones others ≡ false → ones ≡ others
same_clocks [] [] none = refl
same_clocks [] (other ∷ others) none = absurd (true≢false none)
same_clocks (one ∷ ones) [] none = absurd (true≢false none)
same_clocks (one ∷ ones) (other ∷ others) none =
    let parts = or_parts (bits_differ one other) (clocks_differ ones others) none in
    ap₂ (λ (first : List Bool) (more : List (List Bool)). first ∷ more) (same_bits one other parts.0) (same_clocks ones others parts.1)

-- where the outputs are the same, the fault isn't detected
pub undetected : (flat : Flat) (start : List Bool) (rows : List (List Bool)) (fault : Open)
    → found_outputs (find_stuck fault) flat start rows ≡ outputs_of flat start rows → is_detected flat start rows fault ≡ false
unfolding is_detected
undetected flat start rows fault same = ap (λ (clocks : List (List Bool)). clocks_differ clocks (outputs_of flat start rows)) same ∙ clocks_differ_self (outputs_of flat start rows)

-- and the other way round
pub same_outputs : (flat : Flat) (start : List Bool) (rows : List (List Bool)) (fault : Open) → is_detected flat start rows fault ≡ false
    → found_outputs (find_stuck fault) flat start rows ≡ outputs_of flat start rows
unfolding is_detected
same_outputs flat start rows fault none = same_clocks (found_outputs (find_stuck fault) flat start rows) (outputs_of flat start rows) none

or_weaker : (here later whole : Bool) → (later ≡ true → whole ≡ true) → (here || later) ≡ true → (here || whole) ≡ true
or_weaker true later whole further some = refl
or_weaker false later whole further some = further some

-- the clocks of the first rows are the first of all clocks
differ_sooner : (find : ℕ → Bool → Bool) (flat : Flat) (state plain : List Bool) (first more : List (List Bool))
    → clocks_differ (found_outputs find flat state first) (outputs_of flat plain first) ≡ true
    → clocks_differ (found_outputs find flat state (first ++ more)) (outputs_of flat plain (first ++ more)) ≡ true
differ_sooner find flat state plain [] more some = absurd (true≢false (sym some))
differ_sooner find flat state plain (row ∷ first) more some =
    or_weaker
    (bits_differ (found_outputs_at find flat row state) (outputs_at flat row plain))
    (clocks_differ (found_outputs find flat (found_next_state find flat row state) first) (outputs_of flat (next_state flat row plain) first))
    (clocks_differ (found_outputs find flat (found_next_state find flat row state) (first ++ more)) (outputs_of flat (next_state flat row plain) (first ++ more)))
    (differ_sooner find flat (found_next_state find flat row state) (next_state flat row plain) first more)
    some

pub detected_sooner : (flat : Flat) (start : List Bool) (first more : List (List Bool)) (fault : Open)
    → is_detected flat start first fault ≡ true → is_detected flat start (first ++ more) fault ≡ true
unfolding is_detected
detected_sooner flat start first more fault some = differ_sooner (find_stuck fault) flat start start first more some
