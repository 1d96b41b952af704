-- Texts cut at the first byte of a kind.
use Rattle.std.proofs.Common.{refl, ◌≡◌, ◌+◌, ◌-◌, ◌<◌, ◌≤◌, ◌==◌, ℕ, true, List, [], ◌∷◌, length, take, drop, slice_index, ◌∙◌, ap}
use Rattle.std.proofs.lemmas.List.Folds.{list_any_none}
use Rattle.std.proofs.lemmas.List.Splits.{slice_split_at, slice_split_none}
use Rattle.vw_text.proofs.CutAtByte.{cut_whole, front_without, none_at}
use Rattle.vw_plantext.specs.Steps.Cuts.{IsOneLine, IsLineCut}
use Rattle.vw_plantext.specs.Steps.Words.{words_between_spaces}

-- a text with the end of a line
pub line_cut : (text : List ℕ) (end : ℕ) (within : end < length text) (before : (k : ℕ) → 0 ≤ k → k < end → (slice_index text k == 10) ≡ true → ⊥) (ends : (slice_index text end == 10) ≡ true) → IsLineCut text (take end text) (take (length text - (end + 1)) (drop (end + 1) text))
line_cut text end within before ends = record { whole = cut_whole 10 text end within before ends; one_line = list_any_none (λ b. b == 10) (take end text) (front_without 10 text end within before ends) }

-- a text without one
pub no_cut : (text : List ℕ) → ((k : ℕ) → 0 ≤ k → k < length text → (slice_index text k == 10) ≡ true → ⊥) → IsOneLine text
no_cut text before = list_any_none (λ b. b == 10) text (none_at 10 text before)

-- a line with a space, and one without
pub word_cut : (line : List ℕ) (end : ℕ) (within : end < length line) (before : (k : ℕ) → 0 ≤ k → k < end → (slice_index line k == 32) ≡ true → ⊥) (ends : (slice_index line end == 32) ≡ true) → words_between_spaces line ≡ take end line ∷ words_between_spaces (take (length line - (end + 1)) (drop (end + 1) line))
word_cut line end within before ends = ap words_between_spaces (cut_whole 32 line end within before ends) ∙ slice_split_at (λ b. b == 32) (take end line) 32 (take (length line - (end + 1)) (drop (end + 1) line)) (front_without 32 line end within before ends) refl

pub one_word : (line : List ℕ) → ((k : ℕ) → 0 ≤ k → k < length line → (slice_index line k == 32) ≡ true → ⊥) → words_between_spaces line ≡ line ∷ []
one_word line before = slice_split_none (λ b. b == 32) line (none_at 32 line before)
