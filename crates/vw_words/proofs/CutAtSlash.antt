-- A text that is cut at its first slash, or has none.
use Rattle.std.proofs.Common.{◌≡◌, ◌+◌, ◌-◌, ◌<◌, ◌≤◌, ◌==◌, ℕ, true, List, length, take, drop, slice_index, sym, ◌∙◌, ap, arith}
use Rattle.std.specs.List.{position_or_len}
use Rattle.std.proofs.lemmas.List.{take_all, take_rest, drop_all}
use Rattle.vw_text.proofs.FoundBytes.{cut_at_found, none_found}
use Rattle.vw_words.specs.Forms.{before_slash, behind_slash}

module _ (text : List ℕ) (end : ℕ) (within : end < length text) (before : (k : ℕ) → 0 ≤ k → k < end → (slice_index text k == 47) ≡ true → ⊥) (ends : (slice_index text end == 47) ≡ true) where
  place : position_or_len (λ b. b == 47) text ≡ end
  place = cut_at_found (λ b. b == 47) text end within before ends

  pub before_is : take end text ≡ before_slash text
  before_is = ap (λ (n : ℕ). take n text) (sym place)

  pub behind_is : take (length text - (end + 1)) (drop (end + 1) text) ≡ behind_slash text
  behind_is = take_rest text (end + 1) ∙ ap (λ (n : ℕ). drop (n + 1) text) (sym place)

module _ (text : List ℕ) (none : (k : ℕ) → 0 ≤ k → k < length text → (slice_index text k == 47) ≡ true → ⊥) where
  no_place : position_or_len (λ b. b == 47) text ≡ length text
  no_place = none_found (λ b. b == 47) text none

  pub all_before : text ≡ before_slash text
  all_before = sym (ap (λ (n : ℕ). take n text) no_place ∙ take_all (length text) text (omega arith))

  pub none_behind : take (length text - length text) (drop (length text) text) ≡ behind_slash text
  none_behind =
      take_rest text (length text) ∙ drop_all (length text) text (omega arith)
      ∙ sym (ap (λ (n : ℕ). drop (n + 1) text) no_place ∙ drop_all (length text + 1) text (omega arith))
