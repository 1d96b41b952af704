-- The first line of a text.
use Rattle.std.proofs.Common.{◌≡◌, ℕ, suc, ◌+◌, ◌-◌, ◌<◌, ◌≤◌, Bool, true, ◌==◌, List, [], ◌∷◌, ◌++◌, length, take, drop, slice_index, refl, sym, ◌∙◌, ap, arith}
use Rattle.std.specs.List.{onto_first}
use Rattle.std.proofs.lemmas.List.{take_rest, drop_all}
use Rattle.vw_text.specs.Physical.{text_lines}
use Rattle.vw_text.proofs.CutAtByte.{cut_whole, front_without, none_at}
use Rattle.vw_text.proofs.FoundBytes.{HasNo}

-- a byte that ends a line
abbrev pub ends_line : ℕ → Bool
ends_line b = b == 10

-- a line with its end
pub line_first : (line rest : List ℕ) → HasNo ends_line line → text_lines (line ++ 10 ∷ rest) ≡ line ∷ text_lines rest
line_first [] rest none = refl
line_first (b ∷ bs) rest none =
    rw (none 0 0 (omega arith)) (ap (onto_first b) (line_first bs rest (λ k d inside. none (suc k) d (omega arith))))

-- the last line, where it has bytes and no end
pub line_alone : (line : List ℕ) → 0 < length line → HasNo ends_line line → text_lines line ≡ line ∷ []
line_alone [] some none = absurd (omega arith)
line_alone (b ∷ []) some none = rw (none 0 0 (omega arith)) refl
line_alone (b ∷ c ∷ bs) some none =
    rw (none 0 0 (omega arith)) (ap (onto_first b) (line_alone (c ∷ bs) (omega arith) (λ k d inside. none (suc k) d (omega arith))))

-- a text that is cut at the first byte that ends a line
pub line_cut : (text : List ℕ) (end : ℕ) → end < length text
    → ((k : ℕ) → 0 ≤ k → k < end → (slice_index text k == 10) ≡ true → ⊥) → (slice_index text end == 10) ≡ true
    → text_lines text ≡ take end text ∷ text_lines (take (length text - (end + 1)) (drop (end + 1) text))
line_cut text end within before ends =
    let rest = take (length text - (end + 1)) (drop (end + 1) text) in
    ap text_lines (cut_whole 10 text end within before ends) ∙ line_first (take end text) rest (front_without 10 text end within before ends)

-- a text in which no byte ends a line
pub line_whole : (text : List ℕ) → 0 < length text → ((k : ℕ) → 0 ≤ k → k < length text → (slice_index text k == 10) ≡ true → ⊥)
    → text_lines text ≡ text ∷ text_lines (take (length text - length text) (drop (length text) text))
line_whole text some before =
    line_alone text some (none_at 10 text before) ∙ ap (λ rest. text ∷ text_lines rest) (sym (take_rest text (length text) ∙ drop_all (length text) text (omega arith)))
