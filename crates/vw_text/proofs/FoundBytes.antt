-- Where a search for a byte ends, in the words of std's lists.
use Rattle.std.proofs.Common.{◌≡◌, ℕ, ◌-◌, ◌<◌, ◌≤◌, Bool, true, false, ◌||◌, List, length, take, slice_index, ap, arith}
use Rattle.std.specs.List.{All, position_or_len, suffix_len}
use Rattle.std.proofs.lemmas.List.Sums.{position_or_len_is, suffix_len_is}
use Rattle.std.proofs.lemmas.Bool.{false_from_ne_true, or_parts}
use Rattle.vw_text.specs.Bare.{is_blank, trimmed}

-- no byte passes the test
abbrev pub HasNo : (ℕ → Bool) → List ℕ → Type 0
HasNo test bytes = All (λ b. test b ≡ false) bytes

pub has_neither : (p q : ℕ → Bool) (bytes : List ℕ) → HasNo (λ b. p b || q b) bytes → HasNo p bytes × HasNo q bytes
has_neither p q bytes none = (λ k d inside. (or_parts _ _ (none k d inside)).0, λ k d inside. (or_parts _ _ (none k d inside)).1)

-- the first place that passes
pub cut_at_found : (test : ℕ → Bool) (bytes : List ℕ) (at : ℕ) → at < length bytes
    → ((k : ℕ) → 0 ≤ k → k < at → test (slice_index bytes k) ≡ true → ⊥) → test (slice_index bytes at) ≡ true → position_or_len test bytes ≡ at
cut_at_found test bytes at within before found =
    position_or_len_is test bytes at 0 (omega arith) (λ k below. false_from_ne_true _ (before k (omega arith) below)) (λ _. found)

-- no place passes
pub none_found : (test : ℕ → Bool) (bytes : List ℕ)
    → ((k : ℕ) → 0 ≤ k → k < length bytes → test (slice_index bytes k) ≡ true → ⊥) → position_or_len test bytes ≡ length bytes
none_found test bytes none =
    position_or_len_is test bytes (length bytes) 0 (omega arith) (λ k below. false_from_ne_true _ (none k (omega arith) below)) (λ past. absurd (omega arith))

-- an end behind which all is blank, and before which there is another byte, where there is any
pub end_found : (bytes : List ℕ) (end : ℕ) → end ≤ length bytes → ((k : ℕ) → end ≤ k → k < length bytes → is_blank (slice_index bytes k) ≡ true)
    → (0 < end → is_blank (slice_index bytes (end - 1)) ≡ false) → take end bytes ≡ trimmed bytes
end_found bytes end within blank other =
    let count = suffix_len_is is_blank bytes end 0 within blank other in
    let kept : end ≡ length bytes - suffix_len is_blank bytes = omega arith in
    ap (λ n. take n bytes) kept
